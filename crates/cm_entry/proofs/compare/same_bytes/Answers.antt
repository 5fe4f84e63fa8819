use Rattle.std.proofs.Common.{arith, refl, ◌+◌, ◌*◌}
use Rattle.cm_geo.proofs.AddressOrder.{segment_limit}
use Rattle.cm_words.proofs.CallSequences.{loaded_more, loaded_none, loads_more_ok}
use Rattle.cm_entry.proofs.SpanHashes.{inside_kept}
use Rattle.cm_entry.proofs.SpanEquality.{IsPart, decides_same, differs, never, other_number, same_more, same_none}
use Rattle.cm_entry.proofs.compare.same_bytes.Goals as goal

pub returns-then-bytes-span-clause-same : goal.returns-then-bytes-span-clause-same
returns-then-bytes-span-clause-same g c words fits =
    other_number words c.args.span c.args.bytes.now (omega (arith, fits.are.length_is, c.requires.inside.inside)) c.if-bytes-span.true

pub loop-i-init : goal.loop-i-init
loop-i-init g c = record {
  loaded = loaded_none g.M.Mem.seen g.M.Mem.same_rest c.args.mem.now (g.met.M.Mem.rest_reflexive _);
  events = omega arith;
  same = same_none (g.M.Mem.seen c.args.mem.now) c.args.span c.args.bytes.now;
}

pub overflow_add-span : goal.overflow_add-span
overflow_add-span g c = omega (arith, segment_limit (g.M.Mem.seen c.args.mem.now).setting.geo, c.requires.inside.inside)

pub returns-then-not-word_begins-clause-loads : goal.returns-then-not-word_begins-clause-loads
returns-then-not-word_begins-clause-loads g c = record {
  loads = loads_more_ok g.M.Mem.seen g.M.Mem.same_rest _ c.loop-i.mem c.load.new.self _ _ (g.met.M.Mem.rest_transitive _ _ _) c.loop-i.invariant.loaded c.in_ok-word.ensures.loads;
  count = omega (arith, c.loop-i.invariant.events, c.in_ok-word.ensures.loads.event.events, c.if-bytes-span.false);
  count_same = λ no. absurd (never no);
}

pub returns-then-not-word_begins-clause-same : goal.returns-then-not-word_begins-clause-same
returns-then-not-word_begins-clause-same g c =
    let part : IsPart c.args.span c.args.bytes.now c.loop-i.i (8 * c.loop-i.i) (8 * c.loop-i.i + 8) _ =
    record { len_is = c.if-bytes-span.false; below = omega arith; from_is = refl; to_is = omega (arith, c.if-bytes-span.false); part_is = refl } in
    differs (g.M.Mem.seen c.loop-i.mem) (g.M.Mem.seen c.load.new.self) c.args.span c.args.bytes.now _ c.loop-i.i (8 * c.loop-i.i) (8 * c.loop-i.i + 8) c.in_ok-word.word
    c.loop-i.invariant.same c.in_ok-word.ensures.loads.call.done c.in_ok-word.ensures.word c.requires.inside.inner
    (inside_kept (g.M.Mem.seen c.args.mem.now) (g.M.Mem.seen c.loop-i.mem) (g.M.Mem.seen c.load.new.self) c.args.span c.loop-i.invariant.loaded.done c.in_ok-word.ensures.loads.call.done c.requires.inside)
    part (λ e. never (c.if-not-word_begins.ensures.1 e))

pub loop-i-preserved : goal.loop-i-preserved
loop-i-preserved g c = record {
  loaded = loaded_more g.M.Mem.seen g.M.Mem.same_rest _ c.loop-i.mem _ _ (g.met.M.Mem.rest_transitive _ _ _) c.loop-i.invariant.loaded c.in_ok-word.ensures.loads;
  events = omega (arith, c.loop-i.invariant.events, c.in_ok-word.ensures.loads.event.events);
  same =
      let part : IsPart c.args.span c.args.bytes.now c.loop-i.i (8 * c.loop-i.i) (8 * c.loop-i.i + 8) _ =
      record { len_is = c.if-bytes-span.false; below = omega arith; from_is = refl; to_is = omega (arith, c.if-bytes-span.false); part_is = refl } in
      same_more (g.M.Mem.seen c.loop-i.mem) (g.M.Mem.seen c.load.new.self) c.args.span c.args.bytes.now _ c.loop-i.i (8 * c.loop-i.i) (8 * c.loop-i.i + 8) c.in_ok-word.word
      c.loop-i.invariant.same c.in_ok-word.ensures.loads.call.done c.in_ok-word.ensures.word c.requires.inside.inner
      (inside_kept (g.M.Mem.seen c.args.mem.now) (g.M.Mem.seen c.loop-i.mem) (g.M.Mem.seen c.load.new.self) c.args.span c.loop-i.invariant.loaded.done c.in_ok-word.ensures.loads.call.done c.requires.inside)
      part (c.if-not-word_begins.ensures.0 refl);
}

pub overflow_add-span-2 : goal.overflow_add-span-2
overflow_add-span-2 g c = omega (arith, segment_limit (g.M.Mem.seen c.args.mem.now).setting.geo, c.requires.inside.inside)

pub returns-clause-loads : goal.returns-clause-loads
returns-clause-loads g c = record {
  loads = loads_more_ok g.M.Mem.seen g.M.Mem.same_rest _ c.loop-i.mem c.load-2.new.self _ _ (g.met.M.Mem.rest_transitive _ _ _) c.loop-i.invariant.loaded c.in_ok-last.ensures.loads;
  count = omega (arith, c.loop-i.invariant.events, c.in_ok-last.ensures.loads.event.events, c.if-bytes-span.false);
  count_same = λ _. omega (arith, c.loop-i.invariant.events, c.in_ok-last.ensures.loads.event.events, c.if-bytes-span.false);
}

pub returns-clause-same : goal.returns-clause-same
returns-clause-same g c =
    decides_same (g.M.Mem.seen c.loop-i.mem) (g.M.Mem.seen c.load-2.new.self) c.args.span c.args.bytes.now c.loop-i.i c.in_ok-last.last c.word_begins-2.result
    c.loop-i.invariant.same (omega arith) (omega arith) c.if-bytes-span.false c.in_ok-last.ensures.loads.call.done c.in_ok-last.ensures.word c.requires.inside.inner
    (inside_kept (g.M.Mem.seen c.args.mem.now) (g.M.Mem.seen c.loop-i.mem) (g.M.Mem.seen c.load-2.new.self) c.args.span c.loop-i.invariant.loaded.done c.in_ok-last.ensures.loads.call.done c.requires.inside)
    c.word_begins-2.ensures
