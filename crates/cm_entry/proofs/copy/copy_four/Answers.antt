use Rattle.std.proofs.Common.{arith, ◌*◌}
use Rattle.cm_geo.proofs.AddressOrder.{segment_limit}
use Rattle.cm_words.specs.Effects.{IsAsBefore, Reads}
use Rattle.cm_words.proofs.CallSequences.{done_by, loaded_more, loads_more_err, loads_more_ok}
use Rattle.cm_entry.proofs.LoadCounts.{counted_err}
use Rattle.cm_entry.proofs.SpanCopies.{copied_four, rest_four}
use Rattle.cm_entry.proofs.copy.copy_four.Goals as goal

pub overflow_add-at : goal.overflow_add-at
overflow_add-at g c = omega (arith, segment_limit (g.M.Mem.seen c.args.mem.now).setting.geo, c.requires.span.inside.inside)

pub overflow_add-at-2 : goal.overflow_add-at-2
overflow_add-at-2 g c = omega (arith, segment_limit (g.M.Mem.seen c.args.mem.now).setting.geo, c.requires.span.inside.inside)

pub overflow_add-at-3 : goal.overflow_add-at-3
overflow_add-at-3 g c = omega (arith, segment_limit (g.M.Mem.seen c.args.mem.now).setting.geo, c.requires.span.inside.inside)

pub overflow_add-at-4 : goal.overflow_add-at-4
overflow_add-at-4 g c = omega (arith, segment_limit (g.M.Mem.seen c.args.mem.now).setting.geo, c.requires.span.inside.inside)

pub returns-in_err-third-clause-loads : goal.returns-in_err-third-clause-loads
returns-in_err-third-clause-loads g c =
    let one = done_by g.M.Mem.seen g.M.Mem.same_rest Reads IsAsBefore c.args.mem.now c.load.new.self c.in_ok-first.first c.in_ok-first.ensures.loads.call in
    let two = loaded_more g.M.Mem.seen g.M.Mem.same_rest c.args.mem.now c.load.new.self c.load-2.new.self c.in_ok-second.second (g.met.M.Mem.rest_transitive _ _ _) one c.in_ok-second.ensures.loads in
    counted_err g.M.Mem.seen g.M.Mem.same_rest _ _ c.from_residual-in_err-third.result c.from_residual-in_err-third.ensures.0
    (loads_more_err g.M.Mem.seen g.M.Mem.same_rest _ c.load-2.new.self c.load-3.new.self _ c.from_residual-in_err-third.result c.from_residual-in_err-third.ensures.0 (g.met.M.Mem.rest_transitive _ _ _) two c.in_err-third.ensures.loads) _

pub returns-in_err-fourth-clause-loads : goal.returns-in_err-fourth-clause-loads
returns-in_err-fourth-clause-loads g c =
    let one = done_by g.M.Mem.seen g.M.Mem.same_rest Reads IsAsBefore c.args.mem.now c.load.new.self c.in_ok-first.first c.in_ok-first.ensures.loads.call in
    let two = loaded_more g.M.Mem.seen g.M.Mem.same_rest c.args.mem.now c.load.new.self c.load-2.new.self c.in_ok-second.second (g.met.M.Mem.rest_transitive _ _ _) one c.in_ok-second.ensures.loads in
    let three = loaded_more g.M.Mem.seen g.M.Mem.same_rest c.args.mem.now c.load-2.new.self c.load-3.new.self c.in_ok-third.third (g.met.M.Mem.rest_transitive _ _ _) two c.in_ok-third.ensures.loads in
    counted_err g.M.Mem.seen g.M.Mem.same_rest _ _ c.from_residual-in_err-fourth.result c.from_residual-in_err-fourth.ensures.0
    (loads_more_err g.M.Mem.seen g.M.Mem.same_rest _ c.load-3.new.self c.load-4.new.self _ c.from_residual-in_err-fourth.result c.from_residual-in_err-fourth.ensures.0 (g.met.M.Mem.rest_transitive _ _ _) three c.in_err-fourth.ensures.loads) _

pub returns-clause-loads : goal.returns-clause-loads
returns-clause-loads g c =
    let one = done_by g.M.Mem.seen g.M.Mem.same_rest Reads IsAsBefore c.args.mem.now c.load.new.self c.in_ok-first.first c.in_ok-first.ensures.loads.call in
    let two = loaded_more g.M.Mem.seen g.M.Mem.same_rest c.args.mem.now c.load.new.self c.load-2.new.self c.in_ok-second.second (g.met.M.Mem.rest_transitive _ _ _) one c.in_ok-second.ensures.loads in
    let three = loaded_more g.M.Mem.seen g.M.Mem.same_rest c.args.mem.now c.load-2.new.self c.load-3.new.self c.in_ok-third.third (g.met.M.Mem.rest_transitive _ _ _) two c.in_ok-third.ensures.loads in
    record {
      loads = loads_more_ok g.M.Mem.seen g.M.Mem.same_rest _ c.load-3.new.self c.load-4.new.self _ _ (g.met.M.Mem.rest_transitive _ _ _) three c.in_ok-fourth.ensures.loads;
      count = omega (arith, c.in_ok-first.ensures.loads.event.events, c.in_ok-second.ensures.loads.event.events, c.in_ok-third.ensures.loads.event.events, c.in_ok-fourth.ensures.loads.event.events);
    }

pub returns-clause-copied : goal.returns-clause-copied
returns-clause-copied g c =
    copied_four (g.M.Mem.seen c.args.mem.now) (g.M.Mem.seen c.load.new.self) (g.M.Mem.seen c.load-2.new.self) (g.M.Mem.seen c.load-3.new.self) (g.M.Mem.seen c.load-4.new.self)
    c.args.span c.args.out.now c.copy_from_slice.new.self c.copy_from_slice-2.new.self c.copy_from_slice-3.new.self c.copy_from_slice-4.new.self
    c.to_le_bytes.result c.to_le_bytes-2.result c.to_le_bytes-3.result c.to_le_bytes-4.result c.args.copied c.in_ok-first.first c.in_ok-second.second c.in_ok-third.third c.in_ok-fourth.fourth
    c.requires.copied c.requires.span.inside c.requires.room (omega (arith, c.requires.whole))
    c.in_ok-first.ensures.loads.call.done c.in_ok-second.ensures.loads.call.done c.in_ok-third.ensures.loads.call.done c.in_ok-fourth.ensures.loads.call.done
    c.in_ok-first.ensures.word c.in_ok-second.ensures.word c.in_ok-third.ensures.word c.in_ok-fourth.ensures.word
    c.to_le_bytes.ensures c.to_le_bytes-2.ensures c.to_le_bytes-3.ensures c.to_le_bytes-4.ensures
    c.copy_from_slice.ensures.after c.copy_from_slice-2.ensures.after c.copy_from_slice-3.ensures.after c.copy_from_slice-4.ensures.after

pub returns-clause-rest : goal.returns-clause-rest
returns-clause-rest g c =
    rest_four c.args.out.now c.copy_from_slice.new.self c.copy_from_slice-2.new.self c.copy_from_slice-3.new.self c.copy_from_slice-4.new.self
    c.to_le_bytes.result c.to_le_bytes-2.result c.to_le_bytes-3.result c.to_le_bytes-4.result (8 * c.args.copied) c.args.span.len
    c.in_ok-first.first c.in_ok-second.second c.in_ok-third.third c.in_ok-fourth.fourth (omega (arith, c.requires.whole)) c.requires.room
    c.to_le_bytes.ensures c.to_le_bytes-2.ensures c.to_le_bytes-3.ensures c.to_le_bytes-4.ensures
    c.copy_from_slice.ensures.after c.copy_from_slice-2.ensures.after c.copy_from_slice-3.ensures.after c.copy_from_slice-4.ensures.after
