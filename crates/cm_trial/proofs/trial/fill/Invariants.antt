use Rattle.cm_trial.specs.Trials.{IsPlayer}
use Rattle.cm_trial.proofs.trial.fill.Given as goal

abbrev pub invariant-loop-at : goal.invariant-loop-at
invariant-loop-at g l = IsPlayer l.store l.pass
