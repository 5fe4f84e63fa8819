use Rattle.cm_plain.specs.Plans.{plan_change}
use Rattle.cm_segment.proofs.PhaseSequences.{begun, failed_first, failed_on, gone_on, gone_to_end}
use Rattle.cm_segment.proofs.EntryPlaced.{fresh_rests}
use Rattle.cm_segment.proofs.placing.place.Goals as goal

pub returns-in_err-write_apart : goal.returns-in_err-write_apart
returns-in_err-write_apart g c = failed_first c.from_residual.ensures.0 c.in_err-write_apart.ensures

pub returns-in_err-point : goal.returns-in_err-point
returns-in_err-point g c = failed_on g.met.M.Mem.rest_transitive c.from_residual-in_err-point.ensures.0
    (begun c.in_ok-write_apart.ensures) c.in_err-point.ensures

pub returns : goal.returns
returns g c =
    let on = g.met.M.Mem.rest_transitive in
    gone_to_end on (gone_on on (begun c.in_ok-write_apart.ensures) c.in_ok-point.ensures) c.count_new.ensures
    (λ segment. fresh_rests c.args.geo.now segment (plan_change c.args.plan.now) c.args.run c.requires.places c.requires.fresh)
