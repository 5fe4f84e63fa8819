use Rattle.std.proofs.Common.{rules}
use Rattle.cm_trial.proofs.SweepTrials.{player_closed}
use Rattle.cm_trial.proofs.trial.sweep_close.Goals as goal

pub returns : goal.returns
returns g c = record {
  pass = player_closed g.F.Fuse.fused c.args.store.now c.args.pass.now c.sweep_close.new.pass c.sweep_close.result c.requires.pass (search rules) c.sweep_close.ensures;
}
