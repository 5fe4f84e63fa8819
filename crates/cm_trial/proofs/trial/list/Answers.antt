use Rattle.cm_trial.proofs.ListTrials.{player_listed}
use Rattle.cm_trial.proofs.trial.list.Goals as goal

pub returns : goal.returns
returns g c = record {
  pass = player_listed g.F.Fuse.fused c.args.store.now c.args.tries 0 c.args.pass.now c.list.new.pass c.list.result c.requires.pass c.list.ensures;
}
