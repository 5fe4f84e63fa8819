-- None of the tiers before this one has so many free chunks in a row.
use Rattle.std.proofs.Common.{◌≤◌}
use Rattle.cm_words.specs.Calls.{HasLoaded}
use Rattle.cm_tiers.specs.Chains.{AreFound}
use Rattle.cm_segment.proofs.FitSearch.{HasNoFit}
use Rattle.cm_segment.proofs.planning.fit_along.Given as goal

abbrev pub invariant-loop-number : goal.invariant-loop-number
invariant-loop-number g l = record {
  loaded : HasLoaded g.M.Mem.seen g.M.Mem.same_rest l.initial.mem l.mem;
  tiers : AreFound (g.M.Mem.seen l.mem) l.geo l.tiers;
  found : l.number ≤ l.tiers.found.len;
  none : HasNoFit (g.M.Mem.seen l.mem) l.geo l.chunks l.number;
}
