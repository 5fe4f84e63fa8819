use Rattle.std.proofs.Common.{ap, ◌∙◌, ◌*◌, arith}
use Rattle.cm_geo.proofs.AddressOrder.{segment_limit}
use Rattle.cm_words.specs.Memory.{Setting}
use Rattle.cm_words.proofs.CallSequences.{loaded_more, loads_more_err, loads_more_ok}
use Rattle.cm_lookup.proofs.SearchLoop.{at_probe, at_probe_from, first_is_empty, none_is_empty, probe_in_range, some_more}
use Rattle.cm_lookup.proofs.Tiers.{slot_from_first}
use Rattle.cm_lookup.proofs.search.free_slot.Goals as goal

pub overflow_add-first : goal.overflow_add-first
overflow_add-first g c =
    let within = probe_in_range (g.M.Mem.seen c.args.mem.now) c.args.geo.now c.args.place c.slot_at-first.result c.home_of-home.result (2 * c.chunks-slots.result) c.args.fingerprint c.loop-steps.steps c.requires.place c.requires.readable.geo_is c.loop-steps.invariant.first_is c.loop-steps.invariant.home_is c.loop-steps.invariant.slots_are in
    omega (arith, within, segment_limit (g.M.Mem.seen c.args.mem.now).setting.geo)

pub load-requires-clause-in_range : goal.load-requires-clause-in_range
load-requires-clause-in_range g c =
    probe_in_range (g.M.Mem.seen c.loop-steps.mem) c.args.geo.now c.args.place c.slot_at-first.result c.home_of-home.result (2 * c.chunks-slots.result) c.args.fingerprint c.loop-steps.steps c.requires.place
    (ap (λ (s : Setting). s.geo) c.loop-steps.invariant.loaded.done.keeps.setting ∙ c.requires.readable.geo_is) c.loop-steps.invariant.first_is c.loop-steps.invariant.home_is c.loop-steps.invariant.slots_are

pub returns-in_err-word-clause-loads : goal.returns-in_err-word-clause-loads
returns-in_err-word-clause-loads g c =
    loads_more_err g.M.Mem.seen g.M.Mem.same_rest _ c.loop-steps.mem _ _ c.from_residual.result c.from_residual.ensures.0 (g.met.M.Mem.rest_transitive _ _ _) c.loop-steps.invariant.loaded c.in_err-word.ensures.loads

pub returns-then-word-eq0-clause-loads : goal.returns-then-word-eq0-clause-loads
returns-then-word-eq0-clause-loads g c = loads_more_ok g.M.Mem.seen g.M.Mem.same_rest _ c.loop-steps.mem _ _ _ (g.met.M.Mem.rest_transitive _ _ _) c.loop-steps.invariant.loaded c.in_ok-word.ensures.loads

pub returns-then-word-eq0-clause-first : goal.returns-then-word-eq0-clause-first
returns-then-word-eq0-clause-first g c =
    first_is_empty (g.M.Mem.seen c.loop-steps.mem) (g.M.Mem.seen c.load.new.self) c.args.geo.now c.args.place c.args.fingerprint c.loop-steps.steps _ _ c.in_ok-word.word
    c.loop-steps.invariant.passed c.in_ok-word.ensures.loads.call.done
    (at_probe c.args.geo.now c.home_of-home.result _ c.args.fingerprint c.loop-steps.steps c.loop-steps.invariant.home_is c.loop-steps.invariant.slots_are)
    (slot_from_first c.args.geo.now c.args.place _ _ c.loop-steps.invariant.first_is) c.in_ok-word.ensures.word c.if-word-eq0.true (omega arith)

pub returns-clause-first : goal.returns-clause-first
returns-clause-first g c =
    none_is_empty (g.M.Mem.seen c.loop-steps.mem) c.args.geo.now c.args.place c.args.fingerprint c.loop-steps.steps _ c.loop-steps.invariant.passed (omega arith)

pub loop-steps-preserved : goal.loop-steps-preserved
loop-steps-preserved g c = record {
  loaded = loaded_more g.M.Mem.seen g.M.Mem.same_rest _ c.loop-steps.mem _ _ (g.met.M.Mem.rest_transitive _ _ _) c.loop-steps.invariant.loaded c.in_ok-word.ensures.loads;
  events = omega (arith, c.loop-steps.invariant.events, c.in_ok-word.ensures.loads.event.events);
  slots_are = c.loop-steps.invariant.slots_are;
  first_is = c.loop-steps.invariant.first_is;
  home_is = c.loop-steps.invariant.home_is;
  passed = some_more (g.M.Mem.seen c.loop-steps.mem) (g.M.Mem.seen c.load.new.self) c.args.geo.now c.args.place c.args.fingerprint c.loop-steps.steps _ c.in_ok-word.word
      c.loop-steps.invariant.passed c.in_ok-word.ensures.loads.call.done
      (at_probe_from c.args.geo.now c.args.place _ c.home_of-home.result _ c.args.fingerprint c.loop-steps.steps c.loop-steps.invariant.first_is c.loop-steps.invariant.home_is c.loop-steps.invariant.slots_are)
      c.in_ok-word.ensures.word c.if-word-eq0.false;
}
