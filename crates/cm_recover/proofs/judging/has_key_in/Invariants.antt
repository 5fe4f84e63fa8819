-- The slots of fewer steps were passed.
use Rattle.std.proofs.Common.{◌≡◌, ◌-◌, ◌*◌}
use Rattle.cm_words.specs.Calls.{HasLoaded}
use Rattle.cm_recover.proofs.KeySearch.{HasPassed}
use Rattle.cm_recover.proofs.judging.has_key_in.Given as goal

abbrev pub invariant-loop-from : goal.invariant-loop-from
invariant-loop-from g l = record {
  slots_are : l.slots ≡ 2 * l.geo.chunks;
  loaded : HasLoaded g.M.Mem.seen g.M.Mem.same_rest l.initial.mem l.mem;
  passed : HasPassed (g.M.Mem.seen l.mem) l.geo l.segment l.place l.key l.from;
}

abbrev pub decreases-loop-from : goal.decreases-loop-from
decreases-loop-from g l = l.slots - l.from
