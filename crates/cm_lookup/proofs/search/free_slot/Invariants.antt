use Rattle.std.proofs.Common.{◌≡◌, ◌+◌, ◌*◌}
use Rattle.cm_geo.specs.Addresses.{slot_at}
use Rattle.cm_geo.specs.Hash.{home_in}
use Rattle.cm_words.specs.Calls.{HasLoaded}
use Rattle.cm_lookup.specs.Passing.{AreSome}
use Rattle.cm_lookup.proofs.search.free_slot.Given as goal

abbrev pub invariant-loop-steps : goal.invariant-loop-steps
invariant-loop-steps g l = record {
  loaded : HasLoaded g.M.Mem.seen g.M.Mem.same_rest l.initial.mem l.mem;
  events : (g.M.Mem.seen l.mem).meter.events ≡ (g.M.Mem.seen l.initial.mem).meter.events + l.steps;
  slots_are : l.slots ≡ 2 * l.geo.chunks;
  first_is : l.first ≡ slot_at l.geo l.place 0;
  home_is : l.home ≡ home_in l.geo l.fingerprint;
  passed : AreSome (g.M.Mem.seen l.mem) l.geo l.place l.fingerprint l.steps;
}
