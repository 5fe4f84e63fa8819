use Rattle.cm_plain.specs.Plans.{plan_change}
use Rattle.cm_segment.specs.PlacementStages.{IsEntryPointed}
use Rattle.cm_segment.proofs.PhaseSequences.{begun, failed_on, gone_on, gone_to_end}
use Rattle.cm_segment.proofs.RelocationStages.{beside_old, moved_to_tier_is_after}
use Rattle.cm_segment.proofs.relocating.move_away.Goals as goal

pub returns-in_err-point : goal.returns-in_err-point
returns-in_err-point g c = failed_on g.met.M.Mem.rest_transitive c.from_residual-in_err-point.ensures.0
    (begun c.in_ok-write_apart.ensures) c.in_err-point.ensures

pub unpoint_old-requires-clause-at : goal.unpoint_old-requires-clause-at
unpoint_old-requires-clause-at g c =
    beside_old c.requires.moves (IsEntryPointed c.args.geo.now (plan_change c.args.plan.now) c.args.run) c.requires.at
    (gone_on g.met.M.Mem.rest_transitive (begun c.in_ok-write_apart.ensures) c.in_ok-point.ensures).done

pub returns-in_err-unpoint_old : goal.returns-in_err-unpoint_old
returns-in_err-unpoint_old g c =
    let pointed = gone_on g.met.M.Mem.rest_transitive (begun c.in_ok-write_apart.ensures) c.in_ok-point.ensures in
    failed_on g.met.M.Mem.rest_transitive c.from_residual-in_err-unpoint_old.ensures.0 pointed c.in_err-unpoint_old.ensures

pub returns-in_err-vacate : goal.returns-in_err-vacate
returns-in_err-vacate g c =
    let pointed = gone_on g.met.M.Mem.rest_transitive (begun c.in_ok-write_apart.ensures) c.in_ok-point.ensures in
    let unpointed = gone_on g.met.M.Mem.rest_transitive pointed c.in_ok-unpoint_old.ensures in
    failed_on g.met.M.Mem.rest_transitive c.from_residual-in_err-vacate.ensures.0 unpointed c.in_err-vacate.ensures

pub returns : goal.returns
returns g c =
    let pointed = gone_on g.met.M.Mem.rest_transitive (begun c.in_ok-write_apart.ensures) c.in_ok-point.ensures in
    let unpointed = gone_on g.met.M.Mem.rest_transitive pointed c.in_ok-unpoint_old.ensures in
    let vacated = gone_on g.met.M.Mem.rest_transitive unpointed c.in_ok-vacate.ensures in
    gone_to_end g.met.M.Mem.rest_transitive vacated c.count_moved.ensures (moved_to_tier_is_after c.requires.moves c.requires.apart)
