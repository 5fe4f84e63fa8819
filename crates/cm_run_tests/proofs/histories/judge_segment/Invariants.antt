use Rattle.std.specs.Prelude.{◌≡◌}
use Rattle.cm_run_tests.proofs.histories.judge_segment.Given as goal

abbrev pub invariant-loop-at : goal.invariant-loop-at
invariant-loop-at l =
    (goal.iterator-loop-at).can_next l.at-iterator ×
    (goal.iterator-loop-at).is_finite l.at-iterator ×
    (l.replay.geo ≡ l.fn.geo)
