use Rattle.cm_trial.proofs.Trials.{player_called}
use Rattle.cm_trial.proofs.trial.write_value.Goals as goal

pub returns-in-Put : goal.returns-in-Put
returns-in-Put g c = record {
  pass = player_called g.F.Fuse.fused c.args.store.now _ _ _ c.args.pass.now c.put.new.pass c.put.result c.requires.pass c.put.ensures.called;
}

pub returns-in-PutIfAbsent : goal.returns-in-PutIfAbsent
returns-in-PutIfAbsent g c = record {
  pass = player_called g.F.Fuse.fused c.args.store.now _ _ _ c.args.pass.now c.put_if_absent.new.pass c.put_if_absent.result c.requires.pass c.put_if_absent.ensures.called;
}

pub returns-in-Replace : goal.returns-in-Replace
returns-in-Replace g c = record {
  pass = player_called g.F.Fuse.fused c.args.store.now _ _ _ c.args.pass.now c.replace.new.pass c.replace.result c.requires.pass c.replace.ensures.called;
}

pub returns-in-ReplaceIf : goal.returns-in-ReplaceIf
returns-in-ReplaceIf g c = record {
  pass = player_called g.F.Fuse.fused c.args.store.now _ _ _ c.args.pass.now c.replace_if.new.pass c.replace_if.result c.requires.pass c.replace_if.ensures.called;
}
