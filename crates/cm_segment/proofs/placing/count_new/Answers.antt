use Rattle.std.proofs.Common.{arith, ◌<◌, ◌+◌, ap, subst, sym, ℕ, refl}
use Rattle.cm_geo.specs.declared.geo.Geo.{Geo}
use Rattle.cm_geo.specs.Addresses.{words_in_segment}
use Rattle.cm_geo.proofs.AddressOrder.{segment_limit, tier_head_in_range}
use Rattle.cm_plain.specs.Plans.{plan_change}
use Rattle.cm_segment.specs.Counts.IsCountAt.{of_segment, of_tier}
use Rattle.cm_segment.proofs.PhaseSequences.{begun, failed_first, goes_on}
use Rattle.cm_segment.proofs.RaisedCounts.{count_in_range, count_inner, may_count_in_all, may_count_in_tier, segment_count_advances, tier_count_advances}
use Rattle.cm_segment.proofs.placing.count_new.Goals as goal

pub overflow_add-tier_at : goal.overflow_add-tier_at
overflow_add-tier_at g c = omega (
  arith,
  c.tier_at.ensures.value,
  tier_head_in_range c.args.geo.now c.args.run.place 1 c.requires.places.new_in.run_in.place_inside
      (omega arith),
  segment_limit c.args.geo.now,
)

pub raise-requires-clause-inner : goal.raise-requires-clause-inner
raise-requires-clause-inner g c = count_inner c.args.geo.now c.args.run.place _ (of_tier (ap (λ (n : ℕ). n + 1) c.tier_at.ensures.value))

pub raise-requires-clause-in_range : goal.raise-requires-clause-in_range
raise-requires-clause-in_range g c =
    subst (λ (geo : Geo). c.tier_at.result + 1 < words_in_segment geo) (sym c.requires.at.writable.geo_is)
    (count_in_range c.args.geo.now c.args.run.place _ c.requires.places.new_in.run_in.place_inside
    (of_tier (ap (λ (n : ℕ). n + 1) c.tier_at.ensures.value)))

pub raise-requires-clause-allowed : goal.raise-requires-clause-allowed
raise-requires-clause-allowed g c =
    may_count_in_tier (g.M.Mem.seen c.args.mem.now) c.args.geo.now (plan_change c.args.plan.now) c.args.run _ c.requires.places
    (ap (λ (n : ℕ). n + 1) c.tier_at.ensures.value) c.requires.at

pub returns-in_err-raise : goal.returns-in_err-raise
returns-in_err-raise g c = failed_first c.from_residual.ensures.0
    (tier_count_advances c.requires.places (ap (λ (n : ℕ). n + 1) c.tier_at.ensures.value) c.requires.at c.in_err-raise.ensures)

pub raise-requires-2-clause-writable : goal.raise-requires-2-clause-writable
raise-requires-2-clause-writable g c =
    (tier_count_advances c.requires.places (ap (λ (n : ℕ). n + 1) c.tier_at.ensures.value) c.requires.at c.in_ok-raise.ensures).done.here.writable.writable

pub raise-requires-2-clause-in_range : goal.raise-requires-2-clause-in_range
raise-requires-2-clause-in_range g c =
    let half = tier_count_advances c.requires.places (ap (λ (n : ℕ). n + 1) c.tier_at.ensures.value) c.requires.at c.in_ok-raise.ensures in
    subst (λ (geo : Geo). 2 < words_in_segment geo) (sym half.done.here.writable.geo_is)
    (count_in_range c.args.geo.now c.args.run.place 2 c.requires.places.new_in.run_in.place_inside (of_segment refl))

pub raise-requires-2-clause-allowed : goal.raise-requires-2-clause-allowed
raise-requires-2-clause-allowed g c =
    let half = tier_count_advances c.requires.places (ap (λ (n : ℕ). n + 1) c.tier_at.ensures.value) c.requires.at c.in_ok-raise.ensures in
    may_count_in_all (g.M.Mem.seen c.raise.new.mem) c.args.geo.now (plan_change c.args.plan.now) c.args.run c.requires.places half.done.here

pub returns : goal.returns
returns g c =
    let half = tier_count_advances c.requires.places (ap (λ (n : ℕ). n + 1) c.tier_at.ensures.value) c.requires.at c.in_ok-raise.ensures in
    goes_on g.met.M.Mem.rest_transitive (begun half) (segment_count_advances c.requires.places half.done.here c.raise-2.ensures)
