use Rattle.std.proofs.Common.{◌≡◌}
use Rattle.cm_tier_tests.proofs.tests_tiers.words_with.Given as goal

abbrev pub invariant-loop-place : goal.invariant-loop-place
invariant-loop-place l = l.words.geo ≡ l.fn.geo
