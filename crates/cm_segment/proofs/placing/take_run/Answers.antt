use Rattle.cm_plain.specs.Plans.{plan_change}
use Rattle.cm_segment.proofs.TakenRuns.{may_take, run_takes}
use Rattle.cm_segment.proofs.placing.take_run.Goals as goal

pub set-requires-clause-allowed : goal.set-requires-clause-allowed
set-requires-clause-allowed g c = may_take (g.M.Mem.seen c.args.mem.now) c.args.geo.now (plan_change c.args.plan.now) c.args.run c.requires.places c.requires.at

pub returns : goal.returns
returns g c = run_takes c.requires.places c.requires.at c.set.ensures.stores
