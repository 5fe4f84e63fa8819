use Rattle.std.proofs.Common.{ap, ◌∙◌, ◌+◌, ◌*◌, arith, [], ◌∷◌}
use Rattle.cm_geo.proofs.AddressOrder.{segment_limit}
use Rattle.cm_words.specs.Memory.{Setting}
use Rattle.cm_words.specs.Effects.{IsAsBefore, Reads}
use Rattle.cm_words.specs.Stores.{Writes, store_at}
use Rattle.cm_words.proofs.CallSequences.{done_by, done_then, ends_ok, then_err}
use Rattle.cm_words.proofs.FittingLists.{keeps_transitive}
use Rattle.cm_words.proofs.MeterCounts.{survives_reflexive}
use Rattle.cm_lookup.specs.Removals.{Removes, Shifted, ShiftsPart}
use Rattle.cm_lookup.proofs.RemovalLoop.{at_behind, at_behind_from, behind_in_range, behind_inner, goes_by, home_by, may_end, may_move, removes_end, removes_round, shifted_begins, shifted_moves, shifted_reads, shifted_stays, stays_by}
use Rattle.cm_lookup.proofs.slots.remove_at.Goals as goal
use Rattle.cm_lookup.proofs.slots.remove_at.Goals.{then-steps-way+in_ok-store-2, else-steps-way}

pub loop-steps-init : goal.loop-steps-init
loop-steps-init g c = record {
  slots_are = omega arith;
  first_is = c.slot_at-first.ensures.value;
  hole_before = omega arith;
  so_far = record { rest = g.met.M.Mem.rest_reflexive _; survives = survives_reflexive (g.M.Mem.seen c.args.mem.now).meter; done = shifted_begins (g.M.Mem.seen c.args.mem.now) c.args.geo.now c.args.place c.args.slot };
}

pub overflow_add-first : goal.overflow_add-first
overflow_add-first g c =
    let within = behind_in_range (g.M.Mem.seen c.args.mem.now) c.args.geo.now c.args.place c.slot_at-first.result (2 * c.chunks-slots.result) c.args.slot c.loop-steps.steps c.requires.slot.place_inside c.requires.writable.geo_is c.loop-steps.invariant.first_is c.loop-steps.invariant.slots_are in
    omega (arith, within, segment_limit (g.M.Mem.seen c.args.mem.now).setting.geo)

pub load-requires-clause-in_range : goal.load-requires-clause-in_range
load-requires-clause-in_range g c = behind_in_range (g.M.Mem.seen c.loop-steps.mem) c.args.geo.now c.args.place c.slot_at-first.result (2 * c.chunks-slots.result) c.args.slot c.loop-steps.steps c.requires.slot.place_inside (ap (λ (s : Setting). s.geo) c.loop-steps.invariant.so_far.done.keeps.setting ∙ c.requires.writable.geo_is) c.loop-steps.invariant.first_is c.loop-steps.invariant.slots_are

pub returns-in_err-word : goal.returns-in_err-word
returns-in_err-word g c =
    then_err g.M.Mem.seen g.M.Mem.same_rest (λ old now. Shifted old now c.args.geo.now c.args.place c.args.slot c.loop-steps.hole c.loop-steps.steps) Reads IsAsBefore (λ old now. Removes old now c.args.geo.now c.args.place c.args.slot) (λ old now. ShiftsPart old now c.args.geo.now c.args.place c.args.slot) _ c.loop-steps.mem c.load.new.self _ c.from_residual.result c.from_residual.ensures.0 (g.met.M.Mem.rest_transitive _ _ _) c.loop-steps.invariant.so_far c.in_err-word.ensures.loads.call
    (λ shifted same. (c.loop-steps.hole, c.loop-steps.steps, shifted_reads _ _ _ c.args.geo.now c.args.place c.args.slot c.loop-steps.hole c.loop-steps.steps shifted same.reads))

pub overflow_add-first-then-word-eq0 : goal.overflow_add-first-then-word-eq0
overflow_add-first-then-word-eq0 g c =
    let within = behind_in_range (g.M.Mem.seen c.args.mem.now) c.args.geo.now c.args.place c.slot_at-first.result (2 * c.chunks-slots.result) c.args.slot c.loop-steps.hole c.requires.slot.place_inside c.requires.writable.geo_is c.loop-steps.invariant.first_is c.loop-steps.invariant.slots_are in
    omega (arith, within, segment_limit (g.M.Mem.seen c.args.mem.now).setting.geo)

pub store-requires-clause-in_range : goal.store-requires-clause-in_range
store-requires-clause-in_range g c = behind_in_range (g.M.Mem.seen c.load.new.self) c.args.geo.now c.args.place c.slot_at-first.result (2 * c.chunks-slots.result) c.args.slot c.loop-steps.hole c.requires.slot.place_inside (ap (λ (s : Setting). s.geo) (keeps_transitive _ _ _ c.loop-steps.invariant.so_far.done.keeps c.in_ok-word.ensures.loads.call.done.keeps).setting ∙ c.requires.writable.geo_is) c.loop-steps.invariant.first_is c.loop-steps.invariant.slots_are

pub store-requires-clause-inner : goal.store-requires-clause-inner
store-requires-clause-inner g c = behind_inner c.args.geo.now c.args.place c.slot_at-first.result (2 * c.chunks-slots.result) c.args.slot c.loop-steps.hole c.loop-steps.invariant.first_is c.loop-steps.invariant.slots_are

pub store-requires-clause-allowed : goal.store-requires-clause-allowed
store-requires-clause-allowed g c =
    may_end (g.M.Mem.seen c.args.mem.now) (g.M.Mem.seen c.load.new.self) c.args.geo.now c.args.place c.args.slot c.loop-steps.hole c.loop-steps.steps _ _ c.in_ok-word.word
    (record { geo_is = c.requires.writable.geo_is; place_inside = c.requires.slot.place_inside; slot_inside = c.requires.slot.slot_inside }) c.requires.allowed
    (shifted_reads (g.M.Mem.seen c.args.mem.now) (g.M.Mem.seen c.loop-steps.mem) (g.M.Mem.seen c.load.new.self) c.args.geo.now c.args.place c.args.slot c.loop-steps.hole c.loop-steps.steps c.loop-steps.invariant.so_far.done c.in_ok-word.ensures.loads.call.done)
    (omega arith) (at_behind_from c.args.geo.now c.args.place c.slot_at-first.result (2 * c.chunks-slots.result) c.args.slot c.loop-steps.steps c.loop-steps.invariant.first_is c.loop-steps.invariant.slots_are) (at_behind_from c.args.geo.now c.args.place c.slot_at-first.result (2 * c.chunks-slots.result) c.args.slot c.loop-steps.hole c.loop-steps.invariant.first_is c.loop-steps.invariant.slots_are)
    c.in_ok-word.ensures.word c.if-word-eq0.true

pub returns-in_err-store : goal.returns-in_err-store
returns-in_err-store g c =
    then_err g.M.Mem.seen g.M.Mem.same_rest (λ old now. Shifted old now c.args.geo.now c.args.place c.args.slot c.loop-steps.hole c.loop-steps.steps) (λ old now. Writes old now (store_at _ 0 ∷ [])) IsAsBefore (λ old now. Removes old now c.args.geo.now c.args.place c.args.slot) (λ old now. ShiftsPart old now c.args.geo.now c.args.place c.args.slot) _ c.load.new.self c.store.new.self _ c.from_residual-in_err-store.result c.from_residual-in_err-store.ensures.0 (g.met.M.Mem.rest_transitive _ _ _)
    (done_then g.M.Mem.seen g.M.Mem.same_rest (λ old now. Shifted old now c.args.geo.now c.args.place c.args.slot c.loop-steps.hole c.loop-steps.steps) Reads (λ old now. Shifted old now c.args.geo.now c.args.place c.args.slot c.loop-steps.hole c.loop-steps.steps) _ c.loop-steps.mem _ (g.met.M.Mem.rest_transitive _ _ _) c.loop-steps.invariant.so_far (done_by g.M.Mem.seen g.M.Mem.same_rest Reads IsAsBefore _ _ _ c.in_ok-word.ensures.loads.call) (λ shifted reads. shifted_reads _ _ _ c.args.geo.now c.args.place c.args.slot c.loop-steps.hole c.loop-steps.steps shifted reads)) c.in_err-store.ensures.stores.call
    (λ shifted same. (c.loop-steps.hole, c.loop-steps.steps, shifted_reads _ _ _ c.args.geo.now c.args.place c.args.slot c.loop-steps.hole c.loop-steps.steps shifted same.reads))

pub returns-then-word-eq0 : goal.returns-then-word-eq0
returns-then-word-eq0 g c =
    ends_ok g.M.Mem.seen g.M.Mem.same_rest (λ old now. Removes old now c.args.geo.now c.args.place c.args.slot) (λ old now. ShiftsPart old now c.args.geo.now c.args.place c.args.slot) _ c.store.new.self _
    (done_then g.M.Mem.seen g.M.Mem.same_rest (λ old now. Shifted old now c.args.geo.now c.args.place c.args.slot c.loop-steps.hole c.loop-steps.steps) (λ old now. Writes old now (store_at _ 0 ∷ [])) (λ old now. Removes old now c.args.geo.now c.args.place c.args.slot) _ c.load.new.self _ (g.met.M.Mem.rest_transitive _ _ _)
    (done_then g.M.Mem.seen g.M.Mem.same_rest (λ old now. Shifted old now c.args.geo.now c.args.place c.args.slot c.loop-steps.hole c.loop-steps.steps) Reads (λ old now. Shifted old now c.args.geo.now c.args.place c.args.slot c.loop-steps.hole c.loop-steps.steps) _ c.loop-steps.mem _ (g.met.M.Mem.rest_transitive _ _ _) c.loop-steps.invariant.so_far (done_by g.M.Mem.seen g.M.Mem.same_rest Reads IsAsBefore _ _ _ c.in_ok-word.ensures.loads.call) (λ shifted reads. shifted_reads _ _ _ c.args.geo.now c.args.place c.args.slot c.loop-steps.hole c.loop-steps.steps shifted reads)) (done_by g.M.Mem.seen g.M.Mem.same_rest _ IsAsBefore _ _ _ c.in_ok-store.ensures.stores.call)
    (λ shifted writes. removes_end (g.M.Mem.seen c.args.mem.now) (g.M.Mem.seen c.load.new.self) (g.M.Mem.seen c.store.new.self) c.args.geo.now c.args.place c.args.slot c.loop-steps.hole c.loop-steps.steps _ _ c.in_ok-word.word
    (record { geo_is = c.requires.writable.geo_is; place_inside = c.requires.slot.place_inside; slot_inside = c.requires.slot.slot_inside }) shifted
    (omega arith) (at_behind_from c.args.geo.now c.args.place c.slot_at-first.result (2 * c.chunks-slots.result) c.args.slot c.loop-steps.steps c.loop-steps.invariant.first_is c.loop-steps.invariant.slots_are) (at_behind_from c.args.geo.now c.args.place c.slot_at-first.result (2 * c.chunks-slots.result) c.args.slot c.loop-steps.hole c.loop-steps.invariant.first_is c.loop-steps.invariant.slots_are)
    c.in_ok-word.ensures.word c.if-word-eq0.true writes))

pub overflow_add-first-then-steps-way : goal.overflow_add-first-then-steps-way
overflow_add-first-then-steps-way g c =
    let within = behind_in_range (g.M.Mem.seen c.args.mem.now) c.args.geo.now c.args.place c.slot_at-first.result (2 * c.chunks-slots.result) c.args.slot c.loop-steps.hole c.requires.slot.place_inside c.requires.writable.geo_is c.loop-steps.invariant.first_is c.loop-steps.invariant.slots_are in
    omega (arith, within, segment_limit (g.M.Mem.seen c.args.mem.now).setting.geo)

pub store-requires-then-steps-way-clause-in_range : goal.store-requires-then-steps-way-clause-in_range
store-requires-then-steps-way-clause-in_range g c = behind_in_range (g.M.Mem.seen c.load.new.self) c.args.geo.now c.args.place c.slot_at-first.result (2 * c.chunks-slots.result) c.args.slot c.loop-steps.hole c.requires.slot.place_inside (ap (λ (s : Setting). s.geo) (keeps_transitive _ _ _ c.loop-steps.invariant.so_far.done.keeps c.in_ok-word.ensures.loads.call.done.keeps).setting ∙ c.requires.writable.geo_is) c.loop-steps.invariant.first_is c.loop-steps.invariant.slots_are

pub store-requires-then-steps-way-clause-inner : goal.store-requires-then-steps-way-clause-inner
store-requires-then-steps-way-clause-inner g c = behind_inner c.args.geo.now c.args.place c.slot_at-first.result (2 * c.chunks-slots.result) c.args.slot c.loop-steps.hole c.loop-steps.invariant.first_is c.loop-steps.invariant.slots_are

pub store-requires-then-steps-way-clause-allowed : goal.store-requires-then-steps-way-clause-allowed
store-requires-then-steps-way-clause-allowed g c =
    may_move (g.M.Mem.seen c.args.mem.now) (g.M.Mem.seen c.load.new.self) c.args.geo.now c.args.place c.args.slot c.loop-steps.hole c.loop-steps.steps _ _ c.in_ok-word.word
    (record { geo_is = c.requires.writable.geo_is; place_inside = c.requires.slot.place_inside; slot_inside = c.requires.slot.slot_inside }) c.requires.allowed
    (shifted_reads (g.M.Mem.seen c.args.mem.now) (g.M.Mem.seen c.loop-steps.mem) (g.M.Mem.seen c.load.new.self) c.args.geo.now c.args.place c.args.slot c.loop-steps.hole c.loop-steps.steps c.loop-steps.invariant.so_far.done c.in_ok-word.ensures.loads.call.done)
    (omega arith) (at_behind_from c.args.geo.now c.args.place c.slot_at-first.result (2 * c.chunks-slots.result) c.args.slot c.loop-steps.steps c.loop-steps.invariant.first_is c.loop-steps.invariant.slots_are) (at_behind_from c.args.geo.now c.args.place c.slot_at-first.result (2 * c.chunks-slots.result) c.args.slot c.loop-steps.hole c.loop-steps.invariant.first_is c.loop-steps.invariant.slots_are)
    c.in_ok-word.ensures.word c.if-word-eq0.false
    (goes_by c.args.geo.now (2 * c.chunks-slots.result) c.args.slot c.loop-steps.hole c.loop-steps.steps _ _ c.in_ok-word.word c.loop-steps.invariant.slots_are (at_behind c.args.geo.now (2 * c.chunks-slots.result) c.args.slot c.loop-steps.steps c.loop-steps.invariant.slots_are) (home_by c.args.geo.now (2 * c.chunks-slots.result) c.in_ok-word.word c.loop-steps.invariant.slots_are) c.if-steps-way.true)

pub returns-in_err-store-2 : goal.returns-in_err-store-2
returns-in_err-store-2 g c =
    then_err g.M.Mem.seen g.M.Mem.same_rest (λ old now. Shifted old now c.args.geo.now c.args.place c.args.slot c.loop-steps.hole c.loop-steps.steps) (λ old now. Writes old now (store_at _ c.in_ok-word.word ∷ [])) IsAsBefore (λ old now. Removes old now c.args.geo.now c.args.place c.args.slot) (λ old now. ShiftsPart old now c.args.geo.now c.args.place c.args.slot) _ c.load.new.self c.store-then-steps-way.new.self _ c.from_residual-in_err-store-2.result c.from_residual-in_err-store-2.ensures.0 (g.met.M.Mem.rest_transitive _ _ _)
    (done_then g.M.Mem.seen g.M.Mem.same_rest (λ old now. Shifted old now c.args.geo.now c.args.place c.args.slot c.loop-steps.hole c.loop-steps.steps) Reads (λ old now. Shifted old now c.args.geo.now c.args.place c.args.slot c.loop-steps.hole c.loop-steps.steps) _ c.loop-steps.mem _ (g.met.M.Mem.rest_transitive _ _ _) c.loop-steps.invariant.so_far (done_by g.M.Mem.seen g.M.Mem.same_rest Reads IsAsBefore _ _ _ c.in_ok-word.ensures.loads.call) (λ shifted reads. shifted_reads _ _ _ c.args.geo.now c.args.place c.args.slot c.loop-steps.hole c.loop-steps.steps shifted reads)) c.in_err-store-2.ensures.stores.call
    (λ shifted same. (c.loop-steps.hole, c.loop-steps.steps, shifted_reads _ _ _ c.args.geo.now c.args.place c.args.slot c.loop-steps.hole c.loop-steps.steps shifted same.reads))

pub loop-steps-preserved : goal.loop-steps-preserved
loop-steps-preserved g c = elim c.if-steps-way.branch [
  | then-steps-way+in_ok-store-2 w ↦ record {
    slots_are = c.loop-steps.invariant.slots_are;
    first_is = c.loop-steps.invariant.first_is;
    hole_before = omega arith;
    so_far = rw (w.mem-is, w.hole-is)
        (done_then g.M.Mem.seen g.M.Mem.same_rest (λ old now. Shifted old now c.args.geo.now c.args.place c.args.slot c.loop-steps.hole c.loop-steps.steps) (λ old now. Writes old now (store_at _ c.in_ok-word.word ∷ [])) (λ old now. Shifted old now c.args.geo.now c.args.place c.args.slot c.loop-steps.steps (c.loop-steps.steps + 1)) _ c.load.new.self _ (g.met.M.Mem.rest_transitive _ _ _)
        (done_then g.M.Mem.seen g.M.Mem.same_rest (λ old now. Shifted old now c.args.geo.now c.args.place c.args.slot c.loop-steps.hole c.loop-steps.steps) Reads (λ old now. Shifted old now c.args.geo.now c.args.place c.args.slot c.loop-steps.hole c.loop-steps.steps) _ c.loop-steps.mem _ (g.met.M.Mem.rest_transitive _ _ _) c.loop-steps.invariant.so_far (done_by g.M.Mem.seen g.M.Mem.same_rest Reads IsAsBefore _ _ _ c.in_ok-word.ensures.loads.call) (λ shifted reads. shifted_reads _ _ _ c.args.geo.now c.args.place c.args.slot c.loop-steps.hole c.loop-steps.steps shifted reads)) (done_by g.M.Mem.seen g.M.Mem.same_rest _ IsAsBefore _ _ _ w.in_ok-store-2.ensures.stores.call)
        (λ shifted writes. shifted_moves (g.M.Mem.seen c.args.mem.now) (g.M.Mem.seen c.load.new.self) (g.M.Mem.seen w.store-then-steps-way.new.self) c.args.geo.now c.args.place c.args.slot c.loop-steps.hole c.loop-steps.steps _ _ c.in_ok-word.word
        (record { geo_is = c.requires.writable.geo_is; place_inside = c.requires.slot.place_inside; slot_inside = c.requires.slot.slot_inside }) shifted
        (omega arith) (at_behind_from c.args.geo.now c.args.place c.slot_at-first.result (2 * c.chunks-slots.result) c.args.slot c.loop-steps.steps c.loop-steps.invariant.first_is c.loop-steps.invariant.slots_are) (at_behind_from c.args.geo.now c.args.place c.slot_at-first.result (2 * c.chunks-slots.result) c.args.slot c.loop-steps.hole c.loop-steps.invariant.first_is c.loop-steps.invariant.slots_are)
        c.in_ok-word.ensures.word c.if-word-eq0.false
        (goes_by c.args.geo.now (2 * c.chunks-slots.result) c.args.slot c.loop-steps.hole c.loop-steps.steps _ _ c.in_ok-word.word c.loop-steps.invariant.slots_are (at_behind c.args.geo.now (2 * c.chunks-slots.result) c.args.slot c.loop-steps.steps c.loop-steps.invariant.slots_are) (home_by c.args.geo.now (2 * c.chunks-slots.result) c.in_ok-word.word c.loop-steps.invariant.slots_are) w.if-steps-way.true)
        writes));
  }
  | else-steps-way w ↦ record {
    slots_are = c.loop-steps.invariant.slots_are;
    first_is = c.loop-steps.invariant.first_is;
    hole_before = omega arith;
    so_far = rw (w.mem-is, w.hole-is)
        (done_then g.M.Mem.seen g.M.Mem.same_rest (λ old now. Shifted old now c.args.geo.now c.args.place c.args.slot c.loop-steps.hole c.loop-steps.steps) Reads (λ old now. Shifted old now c.args.geo.now c.args.place c.args.slot c.loop-steps.hole (c.loop-steps.steps + 1)) _ c.loop-steps.mem _ (g.met.M.Mem.rest_transitive _ _ _) c.loop-steps.invariant.so_far (done_by g.M.Mem.seen g.M.Mem.same_rest Reads IsAsBefore _ _ _ c.in_ok-word.ensures.loads.call)
        (λ shifted reads. shifted_stays (g.M.Mem.seen c.args.mem.now) (g.M.Mem.seen c.load.new.self) c.args.geo.now c.args.place c.args.slot c.loop-steps.hole c.loop-steps.steps _ c.in_ok-word.word
        (record { geo_is = c.requires.writable.geo_is; place_inside = c.requires.slot.place_inside; slot_inside = c.requires.slot.slot_inside }) (shifted_reads _ _ _ c.args.geo.now c.args.place c.args.slot c.loop-steps.hole c.loop-steps.steps shifted reads)
        (omega arith) (at_behind_from c.args.geo.now c.args.place c.slot_at-first.result (2 * c.chunks-slots.result) c.args.slot c.loop-steps.steps c.loop-steps.invariant.first_is c.loop-steps.invariant.slots_are)
        c.in_ok-word.ensures.word c.if-word-eq0.false
        (stays_by c.args.geo.now (2 * c.chunks-slots.result) c.args.slot c.loop-steps.hole c.loop-steps.steps _ _ c.in_ok-word.word c.loop-steps.invariant.slots_are (at_behind c.args.geo.now (2 * c.chunks-slots.result) c.args.slot c.loop-steps.steps c.loop-steps.invariant.slots_are) (home_by c.args.geo.now (2 * c.chunks-slots.result) c.in_ok-word.word c.loop-steps.invariant.slots_are) w.if-steps-way.false)));
  }
]

pub returns : goal.returns
returns g c =
    ends_ok g.M.Mem.seen g.M.Mem.same_rest (λ old now. Removes old now c.args.geo.now c.args.place c.args.slot) (λ old now. ShiftsPart old now c.args.geo.now c.args.place c.args.slot) _ c.loop-steps.mem _
    (record {
      rest = c.loop-steps.invariant.so_far.rest;
      survives = c.loop-steps.invariant.so_far.survives;
      done =
          removes_round (g.M.Mem.seen c.args.mem.now) (g.M.Mem.seen c.loop-steps.mem) c.args.geo.now c.args.place c.args.slot c.loop-steps.hole c.loop-steps.steps (record { geo_is = c.requires.writable.geo_is; place_inside = c.requires.slot.place_inside; slot_inside = c.requires.slot.slot_inside }) c.loop-steps.invariant.so_far.done (omega arith);
    })
