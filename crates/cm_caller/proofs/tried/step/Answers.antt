use Rattle.cm_caller.proofs.Trying.{stepped_tries}
use Rattle.cm_caller.proofs.tried.step.Goals as goal

pub returns-clause-tries : goal.returns-clause-tries
returns-clause-tries g c =
    stepped_tries g.F.Fuse.fused c.args.store.now _ c.args.segment c.args.prefix.now c.sweep_step-ended.new.out c.args.pass.now c.sweep_step-ended.new.pass c.requires.stands.rests
    c.requires.stands.safe c.sweep_step-ended.result c.told.result c.sweep_step-ended.ensures.stepped c.told.ensures
