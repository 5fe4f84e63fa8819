use Rattle.std.proofs.Common.{arith, ap, refl, ◌+◌, ℕ, inl, inr}
use Rattle.cm_geo.proofs.AddressOrder.{segment_limit, tier_head_in_range}
use Rattle.cm_segment.specs.Counts.{one_less, one_more}
use Rattle.cm_segment.specs.Counts.IsCountAt.{of_tier}
use Rattle.cm_segment.specs.RemovalStages.{same_count}
use Rattle.cm_segment.proofs.PhaseSequences.{begun, failed_first, goes_on}
use Rattle.cm_segment.proofs.RaisedCounts.{count_inner}
use Rattle.cm_segment.proofs.RelocationStages.{lower_advances, may_count, raise_advances}
use Rattle.cm_segment.proofs.relocating.count_moved.Goals as goal

pub overflow_add-tier_at : goal.overflow_add-tier_at
overflow_add-tier_at g c = omega (
  arith,
  c.tier_at.ensures.value,
  tier_head_in_range c.args.geo.now c.args.old.place 1 c.requires.moves.old_in.place_inside
      (omega arith),
  segment_limit c.args.geo.now,
)

pub lower-requires-clause-inner : goal.lower-requires-clause-inner
lower-requires-clause-inner g c = count_inner c.args.geo.now c.args.old.place _ (of_tier (ap (λ (n : ℕ). n + 1) c.tier_at.ensures.value))

pub lower-requires-clause-allowed : goal.lower-requires-clause-allowed
lower-requires-clause-allowed g c =
    may_count c.requires.moves c.requires.apart c.args.old.place _ one_less (inl refl) same_count same_count
    (ap (λ (n : ℕ). n + 1) c.tier_at.ensures.value) c.requires.at

pub returns-in_err-lower : goal.returns-in_err-lower
returns-in_err-lower g c =
    failed_first c.from_residual.ensures.0
    (lower_advances c.requires.moves c.requires.apart _ (ap (λ (n : ℕ). n + 1) c.tier_at.ensures.value) c.requires.at c.in_err-lower.ensures)

pub overflow_add-tier_at-2 : goal.overflow_add-tier_at-2
overflow_add-tier_at-2 g c =
    omega (
      arith,
      c.tier_at-2.ensures.value,
      tier_head_in_range c.args.geo.now c.args.run.place 1 c.requires.moves.places.new_in.run_in.place_inside
          (omega arith),
      segment_limit c.args.geo.now,
    )

pub raise-requires-clause-inner : goal.raise-requires-clause-inner
raise-requires-clause-inner g c = count_inner c.args.geo.now c.args.run.place _ (of_tier (ap (λ (n : ℕ). n + 1) c.tier_at-2.ensures.value))

pub raise-requires-clause-allowed : goal.raise-requires-clause-allowed
raise-requires-clause-allowed g c =
    let lowered = lower_advances c.requires.moves c.requires.apart _ (ap (λ (n : ℕ). n + 1) c.tier_at.ensures.value) c.requires.at c.in_ok-lower.ensures in
    may_count c.requires.moves c.requires.apart c.args.run.place _ one_more (inr refl) one_less same_count
    (ap (λ (n : ℕ). n + 1) c.tier_at-2.ensures.value) lowered.done.here

pub returns : goal.returns
returns g c =
    let lowered = lower_advances c.requires.moves c.requires.apart _ (ap (λ (n : ℕ). n + 1) c.tier_at.ensures.value) c.requires.at c.in_ok-lower.ensures in
    goes_on g.met.M.Mem.rest_transitive (begun lowered)
    (raise_advances c.requires.moves c.requires.apart _ (ap (λ (n : ℕ). n + 1) c.tier_at-2.ensures.value) lowered.done.here c.raise.ensures)
