use Rattle.std.proofs.Common.{arith, ◌+◌, ◌*◌, ◌/◌, ◌%◌, ◌∙◌, refl}
use Rattle.cm_geo.proofs.AddressOrder.{segment_limit}
use Rattle.cm_words.proofs.CallSequences.{loaded_more, loaded_none, loads_more_err, loads_more_ok}
use Rattle.cm_entry.proofs.LoadCounts.{answer_err}
use Rattle.cm_words.proofs.FittingLists.{reads_reflexive}
use Rattle.cm_entry.proofs.SpanHashes.{inside_kept}
use Rattle.cm_entry.proofs.SpanCopies.{copied_rest, copied_whole, rest_last, rest_whole, word_loaded}
use Rattle.cm_entry.proofs.copy.copy_on.Goals as goal

pub loop-i-init : goal.loop-i-init
loop-i-init g c = record {
  loaded = loaded_none g.M.Mem.seen g.M.Mem.same_rest c.args.mem.now (g.met.M.Mem.rest_reflexive _);
  events = omega arith;
  copied = c.requires.copied;
  behind = refl;
}

pub overflow_add-span : goal.overflow_add-span
overflow_add-span g c = omega (arith, segment_limit (g.M.Mem.seen c.args.mem.now).setting.geo, c.requires.span.inside.inside)

pub loop-i-preserved : goal.loop-i-preserved
loop-i-preserved g c = record {
  loaded = loaded_more g.M.Mem.seen g.M.Mem.same_rest _ c.loop-i.mem _ _ (g.met.M.Mem.rest_transitive _ _ _) c.loop-i.invariant.loaded c.in_ok-word.ensures.loads;
  events = omega (arith, c.loop-i.invariant.events, c.in_ok-word.ensures.loads.event.events);
  copied = copied_whole (g.M.Mem.seen c.loop-i.mem) (g.M.Mem.seen c.load.new.self) c.args.span c.loop-i.out c.copy_from_slice.new.self c.to_le_bytes.result c.loop-i.i (8 * c.loop-i.i) (8 * c.loop-i.i + 8) c.in_ok-word.word
      c.loop-i.invariant.copied c.in_ok-word.ensures.loads.call.done (word_loaded _ _ (c.args.span.at + c.loop-i.i) _ (omega (arith, c.requires.span.inside.inner)) c.in_ok-word.ensures.word (reads_reflexive _))
      (inside_kept (g.M.Mem.seen c.args.mem.now) (g.M.Mem.seen c.loop-i.mem) (g.M.Mem.seen c.load.new.self) c.args.span c.loop-i.invariant.loaded.done c.in_ok-word.ensures.loads.call.done c.requires.span.inside)
      (omega arith) (omega arith) refl refl c.to_le_bytes.ensures c.copy_from_slice.ensures.after;
  behind = rest_whole c.loop-i.out c.copy_from_slice.new.self c.to_le_bytes.result (8 * c.loop-i.i) (8 * c.loop-i.i + 8) c.args.span.len c.in_ok-word.word refl (omega arith) (omega arith) c.to_le_bytes.ensures c.copy_from_slice.ensures.after ∙ c.loop-i.invariant.behind;
}

pub overflow_add-span-2 : goal.overflow_add-span-2
overflow_add-span-2 g c = omega (arith, segment_limit (g.M.Mem.seen c.args.mem.now).setting.geo, c.requires.span.inside.inside)

pub returns-clause-copied : goal.returns-clause-copied
returns-clause-copied g c = record {
  counted = record {
    loads = loads_more_ok g.M.Mem.seen g.M.Mem.same_rest _ c.loop-i.mem c.load-2.new.self _ _ (g.met.M.Mem.rest_transitive _ _ _) c.loop-i.invariant.loaded c.in_ok-last.ensures.loads;
    count = omega (arith, c.loop-i.invariant.events, c.in_ok-last.ensures.loads.event.events);
  };
  answer = copied_rest (g.M.Mem.seen c.loop-i.mem) (g.M.Mem.seen c.load-2.new.self) c.args.span c.loop-i.out c.copy_from_slice-2.new.self c.to_le_bytes-2.result c.loop-i.i c.in_ok-last.last
      c.loop-i.invariant.copied (omega arith) (omega arith) c.in_ok-last.ensures.loads.call.done (word_loaded _ _ (c.args.span.at + c.args.span.len / 8) _ (omega (arith, c.requires.span.inside.inner)) c.in_ok-last.ensures.word (reads_reflexive _))
      (inside_kept (g.M.Mem.seen c.args.mem.now) (g.M.Mem.seen c.loop-i.mem) (g.M.Mem.seen c.load-2.new.self) c.args.span c.loop-i.invariant.loaded.done c.in_ok-last.ensures.loads.call.done c.requires.span.inside)
      (omega arith) c.to_le_bytes-2.ensures c.copy_from_slice-2.ensures.after;
}

pub returns-clause-rest : goal.returns-clause-rest
returns-clause-rest g c =
    rest_last c.loop-i.out c.copy_from_slice-2.new.self c.to_le_bytes-2.result (8 * (c.args.span.len / 8)) (c.args.span.len % 8) c.args.span.len c.in_ok-last.last (omega arith) (omega arith) (omega arith) c.to_le_bytes-2.ensures c.copy_from_slice-2.ensures.after ∙ c.loop-i.invariant.behind

pub returns-in_err-last-clause-copied : goal.returns-in_err-last-clause-copied
returns-in_err-last-clause-copied g c =
    answer_err g.M.Mem.seen g.M.Mem.same_rest _ c.load-2.new.self c.from_residual-in_err-last.result c.from_residual-in_err-last.ensures.0
    (loads_more_err g.M.Mem.seen g.M.Mem.same_rest _ c.loop-i.mem c.load-2.new.self _ c.from_residual-in_err-last.result c.from_residual-in_err-last.ensures.0 (g.met.M.Mem.rest_transitive _ _ _) c.loop-i.invariant.loaded c.in_err-last.ensures.loads) _ _
