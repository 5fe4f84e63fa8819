use Rattle.cm_caller.proofs.Answering.{closed_finds, closed_keeps, may_step}
use Rattle.cm_caller.proofs.caller.Caller.close_sweep.Goals as goal

pub sweep_close-requires : goal.sweep_close-requires
sweep_close-requires g c = record {
  may = may_step g.F.Fuse.fused c.args.store.now c.args.script.now c.args.at c.args.self.now.number c.args.self.now.pass c.requires.inside c.requires.sweep c.requires.stands;
}

pub returns-in-Ok-clause-keeps : goal.returns-in-Ok-clause-keeps
returns-in-Ok-clause-keeps g c =
    closed_keeps g.F.Fuse.fused c.args.store.now c.args.script.now c.args.at c.args.self.now c.sweep_close.new.pass c.in-Ok.field-0 c.requires.inside c.requires.sweep c.requires.stands
    c.in-Ok.ensures c.args.self.now.receipts.items

pub returns-in-Ok-clause-claims : goal.returns-in-Ok-clause-claims
returns-in-Ok-clause-claims g c =
    closed_finds g.F.Fuse.fused c.args.store.now c.args.script.now c.args.at c.args.self.now c.sweep_close.new.pass c.in-Ok.field-0 c.requires.inside c.requires.sweep c.requires.stands
    c.in-Ok.ensures
