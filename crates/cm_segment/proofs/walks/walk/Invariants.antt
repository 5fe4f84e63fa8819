-- The tiers so far have no match that is not before the cursor.
use Rattle.std.proofs.Common.{◌≡◌, ◌≤◌, drop, length, min}
use Rattle.cm_words.specs.Calls.{HasLoaded}
use Rattle.cm_tiers.specs.Chains.{AreFound}
use Rattle.cm_segment.proofs.ChainSearch.{AreSoFar}
use Rattle.cm_segment.proofs.WalkSteps.{HasNoMatchFrom}
use Rattle.cm_segment.proofs.walks.walk.Given as goal

abbrev pub invariant-loop-link : goal.invariant-loop-link
invariant-loop-link g l = record {
  loaded : HasLoaded g.M.Mem.seen g.M.Mem.same_rest l.initial.mem l.mem;
  tiers : AreFound (g.M.Mem.seen l.mem) l.geo l.tiers;
  found : l.link ≤ l.tiers.found.len;
  none : AreSoFar (g.M.Mem.seen l.mem) l.geo l.link (HasNoMatchFrom l.geo l.from l.prefix);
  behind : drop (min 256 (length l.prefix)) l.out ≡ drop (min 256 (length l.prefix)) l.initial.out;
}
