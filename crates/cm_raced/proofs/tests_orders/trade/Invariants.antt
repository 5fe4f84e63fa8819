use Rattle.cm_trial.specs.Trials.{IsPlayer}
use Rattle.cm_raced.proofs.tests_orders.trade.Given as goal

abbrev pub invariant-loop-number : goal.invariant-loop-number
invariant-loop-number l = IsPlayer l.store l.pass
