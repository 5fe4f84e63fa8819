use Rattle.cm_trial.proofs.SweepTrials.{player_opened}
use Rattle.cm_trial.proofs.trial.sweep_open.Goals as goal

pub returns : goal.returns
returns g c = record {
  pass = player_opened g.F.Fuse.fused c.args.store.now c.args.tries c.args.segment c.args.prefix.now c.args.pass.now c.sweep_open.new.pass c.sweep_open.result c.requires.pass c.sweep_open.ensures;
}
