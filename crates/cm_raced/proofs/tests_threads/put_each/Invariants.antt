use Rattle.cm_trial.specs.Trials.{IsPlayer}
use Rattle.cm_raced.proofs.tests_threads.put_each.Given as goal

abbrev pub invariant-loop-at : goal.invariant-loop-at
invariant-loop-at l = IsPlayer l.store l.pass
