use Rattle.cm_segment_tests.proofs.tests_random.run_changes.Given as goal

abbrev pub invariant-loop-number : goal.invariant-loop-number
invariant-loop-number g l = Unit {0}
