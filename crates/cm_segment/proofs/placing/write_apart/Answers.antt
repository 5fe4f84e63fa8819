use Rattle.cm_segment.proofs.PhaseSequences.{begun, failed_first, failed_on, gone_on, goes_on}
use Rattle.cm_segment.proofs.placing.write_apart.Goals as goal

pub returns-in_err-open_tier : goal.returns-in_err-open_tier
returns-in_err-open_tier g c = failed_first c.from_residual.ensures.0 c.in_err-open_tier.ensures

pub returns-in_err-take_run : goal.returns-in_err-take_run
returns-in_err-take_run g c =
    failed_on g.met.M.Mem.rest_transitive c.from_residual-in_err-take_run.ensures.0 (begun c.in_ok-open_tier.ensures) c.in_err-take_run.ensures

pub returns : goal.returns
returns g c =
    let on = g.met.M.Mem.rest_transitive in
    goes_on on (gone_on on (begun c.in_ok-open_tier.ensures) c.in_ok-take_run.ensures) c.write_new.ensures
