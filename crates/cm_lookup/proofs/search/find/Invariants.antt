use Rattle.std.proofs.Common.{◌≡◌, ◌+◌, ◌*◌}
use Rattle.cm_geo.specs.Addresses.{slot_at}
use Rattle.cm_geo.specs.Hash.{home_in}
use Rattle.cm_words.specs.Calls.{HasLoaded}
use Rattle.cm_lookup.specs.Passing.{ArePassed}
use Rattle.cm_lookup.proofs.search.find.Given as goal

abbrev pub invariant-loop-steps : goal.invariant-loop-steps
invariant-loop-steps g l = record {
  loaded : HasLoaded g.M.Mem.seen g.M.Mem.same_rest l.initial.mem l.mem;
  events : (g.M.Mem.seen l.mem).meter.events + l.from ≡ (g.M.Mem.seen l.initial.mem).meter.events + l.steps;
  chunks_are : l.chunks ≡ l.geo.chunks;
  slots_are : l.slots ≡ 2 * l.geo.chunks;
  first_is : l.first ≡ slot_at l.geo l.place 0;
  home_is : l.home ≡ home_in l.geo l.fingerprint;
  passed : ArePassed (g.M.Mem.seen l.mem) l.geo l.place l.fingerprint l.from l.steps;
}
