use Rattle.std.proofs.Common.{rules}
use Rattle.cm_trial.proofs.SweepTrials.{player_stepped}
use Rattle.cm_trial.proofs.trial.sweep_step.Goals as goal

pub returns : goal.returns
returns g c = record {
  pass = player_stepped g.F.Fuse.fused c.args.store.now c.args.tries c.sweep_step.new.out c.args.pass.now c.sweep_step.new.pass c.sweep_step.result c.requires.pass
      (search rules) c.sweep_step.ensures.stepped;
}
