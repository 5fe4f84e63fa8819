use Rattle.std.proofs.Common.{◌≡◌}
use Rattle.cm_tier_tests.proofs.tests_lookup.read.Given as goal

abbrev pub invariant-loop-slot : goal.invariant-loop-slot
invariant-loop-slot g l = (g.M.Mem.seen l.mem).setting ≡ (g.M.Mem.seen l.initial.mem).setting
