-- The key has no entry in the tiers before this one.
use Rattle.std.proofs.Common.{◌≤◌}
use Rattle.cm_words.specs.Calls.{HasLoaded}
use Rattle.cm_tiers.specs.Chains.{AreFound}
use Rattle.cm_segment.specs.Sights.{IsAbsentAt}
use Rattle.cm_segment.proofs.ChainSearch.{AreSoFarIn}
use Rattle.cm_segment.proofs.seek.look_along.Given as goal

abbrev pub invariant-loop-number : goal.invariant-loop-number
invariant-loop-number g l = record {
  loaded : HasLoaded g.M.Mem.seen g.M.Mem.same_rest l.initial.mem l.mem;
  tiers : AreFound (g.M.Mem.seen l.mem) l.geo l.tiers;
  found : l.number ≤ l.tiers.found.len;
  absent : AreSoFarIn (g.M.Mem.seen l.mem) l.geo l.number (λ _ state _ place. IsAbsentAt state place l.key);
}
