use Rattle.std.proofs.Common.{◌∙◌, ap}
use Rattle.cm_geo.specs.Hash.{fingerprint_in}
use Rattle.cm_plain.specs.Plans.{plan_change}
use Rattle.cm_segment.proofs.NewSlots.{may_point, new_chunk, search_advances, slot_advances, slot_found}
use Rattle.cm_segment.proofs.PhaseSequences.{begun, failed_first, goes_on}
use Rattle.cm_segment.proofs.Phases.{readable_in}
use Rattle.cm_segment.proofs.placing.point.Goals as goal

pub free_slot-requires-clause-readable : goal.free_slot-requires-clause-readable
free_slot-requires-clause-readable g c = readable_in (g.M.Mem.seen c.args.mem.now) c.args.geo.now c.requires.at.writable

pub returns-in_err-slot : goal.returns-in_err-slot
returns-in_err-slot g c = failed_first c.from_residual.ensures.0 (search_advances c.requires.places c.requires.at c.in_err-slot.ensures.loads)

pub put_slot-requires-clause-writable : goal.put_slot-requires-clause-writable
put_slot-requires-clause-writable g c = (search_advances c.requires.places c.requires.at c.in_ok-slot.ensures.loads).done.here.writable

pub put_slot-requires-clause-chunk : goal.put_slot-requires-clause-chunk
put_slot-requires-clause-chunk g c = new_chunk c.args.geo.now (plan_change c.args.plan.now) c.args.run c.requires.places

pub put_slot-requires-clause-allowed : goal.put_slot-requires-clause-allowed
put_slot-requires-clause-allowed g c =
    let geo = c.args.geo.now in
    let change = plan_change c.args.plan.now in
    let print_is = c.fingerprint_of-fingerprint.ensures ∙ ap (fingerprint_in geo) c.hash.ensures in
    let found = search_advances c.requires.places c.requires.at c.in_ok-slot.ensures.loads in
    may_point (g.M.Mem.seen c.free_slot.new.mem) geo change c.args.run c.in_ok-slot.slot c.fingerprint_of-fingerprint.result c.requires.places print_is
    c.in_ok-slot.ensures.in_range
    (slot_found (g.M.Mem.seen c.free_slot.new.mem) geo change c.args.run c.in_ok-slot.slot c.fingerprint_of-fingerprint.result c.requires.places print_is
    c.in_ok-slot.ensures.in_range found.done.here c.in_ok-slot.ensures.first)

pub returns : goal.returns
returns g c =
    let geo = c.args.geo.now in
    let change = plan_change c.args.plan.now in
    let print_is = c.fingerprint_of-fingerprint.ensures ∙ ap (fingerprint_in geo) c.hash.ensures in
    let found = search_advances c.requires.places c.requires.at c.in_ok-slot.ensures.loads in
    let at = slot_found (g.M.Mem.seen c.free_slot.new.mem) geo change c.args.run c.in_ok-slot.slot c.fingerprint_of-fingerprint.result c.requires.places
    print_is c.in_ok-slot.ensures.in_range found.done.here c.in_ok-slot.ensures.first in
    goes_on g.met.M.Mem.rest_transitive (begun found) (slot_advances c.requires.places print_is c.in_ok-slot.ensures.in_range at c.put_slot.ensures)
