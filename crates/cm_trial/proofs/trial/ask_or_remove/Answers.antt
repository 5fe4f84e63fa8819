use Rattle.cm_trial.proofs.Trials.{player_called}
use Rattle.cm_trial.proofs.trial.ask_or_remove.Goals as goal

pub returns-in-Get : goal.returns-in-Get
returns-in-Get g c = record {
  pass = player_called g.F.Fuse.fused c.args.store.now _ _ _ c.args.pass.now c.get_into.new.pass c.get_into.result c.requires.pass c.get_into.ensures.called;
}

pub returns-in-Remove : goal.returns-in-Remove
returns-in-Remove g c = record {
  pass = player_called g.F.Fuse.fused c.args.store.now _ _ _ c.args.pass.now c.remove.new.pass c.remove.result c.requires.pass c.remove.ensures.called;
}

pub returns-in-RemoveIf : goal.returns-in-RemoveIf
returns-in-RemoveIf g c = record {
  pass = player_called g.F.Fuse.fused c.args.store.now _ _ _ c.args.pass.now c.remove_if.new.pass c.remove_if.result c.requires.pass c.remove_if.ensures.called;
}

pub returns-in-Count : goal.returns-in-Count
returns-in-Count g c = record {
  pass = player_called g.F.Fuse.fused c.args.store.now _ _ _ c.args.pass.now c.count.new.pass c.count.result c.requires.pass c.count.ensures.called;
}
