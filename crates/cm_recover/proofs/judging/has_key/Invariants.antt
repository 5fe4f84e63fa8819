-- The tiers before this one have no entry of the key.
use Rattle.cm_words.specs.Calls.{HasLoaded}
use Rattle.cm_recover.proofs.KeySearch.{IsAbsentBefore}
use Rattle.cm_recover.proofs.judging.has_key.Given as goal

abbrev pub invariant-loop-place : goal.invariant-loop-place
invariant-loop-place g l = record {
  loaded : HasLoaded g.M.Mem.seen g.M.Mem.same_rest l.initial.mem l.mem;
  absent : IsAbsentBefore (g.M.Mem.seen l.mem) l.geo l.segment l.places l.key l.place-index;
}
