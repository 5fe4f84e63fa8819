use Rattle.std.proofs.Common.{◌≡◌, ◌*◌, ◌<◌}
use Rattle.cm_geo.specs.Addresses.{slot_at}
use Rattle.cm_words.specs.Calls.{HasDone}
use Rattle.cm_lookup.specs.Removals.{Shifted}
use Rattle.cm_lookup.proofs.slots.remove_at.Given as goal

abbrev pub invariant-loop-steps : goal.invariant-loop-steps
invariant-loop-steps g l = record {
  slots_are : l.slots ≡ 2 * l.geo.chunks;
  first_is : l.first ≡ slot_at l.geo l.place 0;
  hole_before : l.hole < l.steps;
  so_far : HasDone g.M.Mem.seen g.M.Mem.same_rest (λ old now. Shifted old now l.geo l.place l.slot l.hole l.steps) l.initial.mem l.mem;
}
