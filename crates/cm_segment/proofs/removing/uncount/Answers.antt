use Rattle.std.proofs.Common.{arith, ap, refl, subst, sym, ◌+◌, ◌<◌, ℕ}
use Rattle.cm_geo.specs.declared.geo.Geo.{Geo}
use Rattle.cm_geo.specs.Addresses.{words_in_segment}
use Rattle.cm_geo.proofs.AddressOrder.{segment_limit, tier_head_in_range}
use Rattle.cm_segment.specs.Counts.{one_less}
use Rattle.cm_segment.specs.Counts.IsCountAt.{of_segment, of_tier}
use Rattle.cm_segment.specs.RemovalStages.{same_count}
use Rattle.cm_segment.proofs.PhaseSequences.{begun, failed_first, goes_on}
use Rattle.cm_segment.proofs.RaisedCounts.{count_in_range, count_inner}
use Rattle.cm_segment.proofs.RemovalStages.{lower_all_advances, lower_tier_advances, may_lower}
use Rattle.cm_segment.proofs.removing.uncount.Goals as goal

pub overflow_add-tier_at : goal.overflow_add-tier_at
overflow_add-tier_at g c = omega (
  arith,
  c.tier_at.ensures.value,
  tier_head_in_range c.args.geo.now c.args.run.place 1 c.requires.removal.run_in.place_inside
      (omega arith),
  segment_limit c.args.geo.now,
)

pub lower-requires-clause-inner : goal.lower-requires-clause-inner
lower-requires-clause-inner g c = count_inner c.args.geo.now c.args.run.place _ (of_tier (ap (λ (n : ℕ). n + 1) c.tier_at.ensures.value))

pub lower-requires-clause-allowed : goal.lower-requires-clause-allowed
lower-requires-clause-allowed g c = may_lower c.requires.removal _ same_count same_count (of_tier (ap (λ (n : ℕ). n + 1) c.tier_at.ensures.value)) c.requires.at

pub returns-in_err-lower : goal.returns-in_err-lower
returns-in_err-lower g c =
    failed_first c.from_residual.ensures.0
    (lower_tier_advances c.requires.removal _ (ap (λ (n : ℕ). n + 1) c.tier_at.ensures.value) c.requires.at c.in_err-lower.ensures)

pub lower-requires-2-clause-writable : goal.lower-requires-2-clause-writable
lower-requires-2-clause-writable g c =
    (lower_tier_advances c.requires.removal _ (ap (λ (n : ℕ). n + 1) c.tier_at.ensures.value) c.requires.at c.in_ok-lower.ensures).done.here.writable.writable

pub lower-requires-2-clause-in_range : goal.lower-requires-2-clause-in_range
lower-requires-2-clause-in_range g c =
    let lowered = lower_tier_advances c.requires.removal _ (ap (λ (n : ℕ). n + 1) c.tier_at.ensures.value) c.requires.at c.in_ok-lower.ensures in
    subst (λ (geo : Geo). 2 < words_in_segment geo) (sym lowered.done.here.writable.geo_is)
    (count_in_range c.args.geo.now c.args.run.place 2 c.requires.removal.run_in.place_inside (of_segment refl))

pub lower-requires-2-clause-allowed : goal.lower-requires-2-clause-allowed
lower-requires-2-clause-allowed g c =
    may_lower c.requires.removal 2 one_less same_count (of_segment refl)
    (lower_tier_advances c.requires.removal _ (ap (λ (n : ℕ). n + 1) c.tier_at.ensures.value) c.requires.at c.in_ok-lower.ensures).done.here

pub returns : goal.returns
returns g c =
    let lowered = lower_tier_advances c.requires.removal _ (ap (λ (n : ℕ). n + 1) c.tier_at.ensures.value) c.requires.at c.in_ok-lower.ensures in
    goes_on g.met.M.Mem.rest_transitive (begun lowered) (lower_all_advances c.requires.removal lowered.done.here c.lower-2.ensures)
