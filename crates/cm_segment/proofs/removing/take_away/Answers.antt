use Rattle.cm_segment.proofs.PhaseSequences.{begun, failed_on, gone_on, gone_to_end}
use Rattle.cm_segment.proofs.RemovalStages.{removed_is_after}
use Rattle.cm_segment.proofs.removing.take_away.Goals as goal

pub returns-in_err-free_run : goal.returns-in_err-free_run
returns-in_err-free_run g c =
    failed_on g.met.M.Mem.rest_transitive c.from_residual-in_err-free_run.ensures.0 (begun c.in_ok-unpoint.ensures) c.in_err-free_run.ensures

pub returns : goal.returns
returns g c =
    let freed = gone_on g.met.M.Mem.rest_transitive (begun c.in_ok-unpoint.ensures) c.in_ok-free_run.ensures in
    gone_to_end g.met.M.Mem.rest_transitive freed c.uncount.ensures (removed_is_after c.requires.removal)
