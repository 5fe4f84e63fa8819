-- The slots so far point to no entry whose key begins with the prefix.
use Rattle.std.proofs.Common.{◌≡◌, drop, length, min}
use Rattle.cm_words.specs.Calls.{HasLoaded}
use Rattle.cm_segment.proofs.WalkSteps.{HasNoneYet}
use Rattle.cm_segment.proofs.walks.walk_tier.Given as goal

abbrev pub invariant-loop-slot : goal.invariant-loop-slot
invariant-loop-slot g l = record {
  loaded : HasLoaded g.M.Mem.seen g.M.Mem.same_rest l.initial.mem l.mem;
  none : HasNoneYet (g.M.Mem.seen l.mem) l.geo l.place l.first l.prefix l.slot;
  behind : drop (min 256 (length l.prefix)) l.out ≡ drop (min 256 (length l.prefix)) l.initial.out;
}
