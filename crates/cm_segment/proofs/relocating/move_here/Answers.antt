use Rattle.cm_plain.specs.Plans.{plan_change}
use Rattle.cm_segment.specs.PlacementStages.{IsEntryWritten}
use Rattle.cm_segment.proofs.PhaseSequences.{begun, failed_on, gone_on, gone_to_end}
use Rattle.cm_segment.proofs.RelocationStages.{beside_old, moved_in_tier_is_after}
use Rattle.cm_segment.proofs.relocating.move_here.Goals as goal

pub overwrite-requires-clause-at : goal.overwrite-requires-clause-at
overwrite-requires-clause-at g c =
    beside_old c.requires.moves (IsEntryWritten c.args.geo.now (plan_change c.args.plan.now) c.args.run) c.requires.at c.in_ok-write_apart.ensures.done

pub returns-in_err-overwrite : goal.returns-in_err-overwrite
returns-in_err-overwrite g c =
    failed_on g.met.M.Mem.rest_transitive c.from_residual-in_err-overwrite.ensures.0 (begun c.in_ok-write_apart.ensures) c.in_err-overwrite.ensures

pub returns : goal.returns
returns g c =
    let overwritten = gone_on g.met.M.Mem.rest_transitive (begun c.in_ok-write_apart.ensures) c.in_ok-overwrite.ensures in
    gone_to_end g.met.M.Mem.rest_transitive overwritten c.free_old.ensures (moved_in_tier_is_after c.requires.moves c.requires.same)
