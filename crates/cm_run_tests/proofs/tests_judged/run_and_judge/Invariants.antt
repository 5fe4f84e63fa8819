use Rattle.cm_run_tests.proofs.tests_judged.run_and_judge.Given as goal

abbrev pub invariant-loop : goal.invariant-loop
invariant-loop g l = Unit {0}
