use Rattle.std.proofs.Common.{◌≡◌}
use Rattle.cm_tier_tests.proofs.tests_lookup.three_slots.Given as goal

abbrev pub invariant-loop-i : goal.invariant-loop-i
invariant-loop-i l = l.words.geo ≡ l.fn.geo
