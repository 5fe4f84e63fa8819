use Rattle.cm_trial.specs.Trials.{IsPlayer}
use Rattle.cm_swept.proofs.tests_sweeps.take_steps.Given as goal

abbrev pub invariant-loop-at : goal.invariant-loop-at
invariant-loop-at g l = IsPlayer l.store l.pass
