use Rattle.std.proofs.Common.{arith, ◌<◌, ◌^◌}
use Rattle.cm_words.proofs.CallSequences.{loaded_more, loads_more_err, loads_more_ok}
use Rattle.cm_chunks.proofs.WordBits.{leading_short}
use Rattle.cm_chunks.proofs.SearchLoop.{find_across, find_inside, find_none, pass_word}
use Rattle.cm_chunks.proofs.fit.first_fit.Goals as goal

pub returns-then-chunks-before-clause-found : goal.returns-then-chunks-before-clause-found
returns-then-chunks-before-clause-found g c =
    find_across (g.M.Mem.seen c.loop-number.mem) (g.M.Mem.seen c.load.new.self) c.args.geo.now c.args.place c.args.chunks c.loop-number.number c.loop-number.before c.in_ok-word.word
    c.loop-number.invariant.passed
    (record { at = c.bits_at.result; at_is = c.bits_at.ensures.value; reads = c.in_ok-word.ensures.loads.call.done; knows = c.in_ok-word.ensures.word; small = omega arith })
    (omega arith) c.loop-number.invariant.before_few (omega arith)

pub returns-in-Some-clause-found : goal.returns-in-Some-clause-found
returns-in-Some-clause-found g c =
    find_inside (g.M.Mem.seen c.loop-number.mem) (g.M.Mem.seen c.load.new.self) c.args.geo.now c.args.place c.args.chunks c.loop-number.number c.loop-number.before c.in_ok-word.word c.in-Some.bit
    c.loop-number.invariant.passed
    (record { at = c.bits_at.result; at_is = c.bits_at.ensures.value; reads = c.in_ok-word.ensures.loads.call.done; knows = c.in_ok-word.ensures.word; small = omega arith })
    c.requires.within_limit (omega arith) (omega arith) c.in-Some.ensures

pub loop-number-preserved : goal.loop-number-preserved
loop-number-preserved g c = record {
  loaded = loaded_more g.M.Mem.seen g.M.Mem.same_rest _ c.loop-number.mem _ _ (g.met.M.Mem.rest_transitive _ _ _) c.loop-number.invariant.loaded c.in_ok-word.ensures.loads;
  events = omega (arith, c.in_ok-word.ensures.loads.event.events, c.loop-number.invariant.events);
  before_few =
      let small : c.in_ok-word.word < 2 ^ 64 = omega arith in
      omega (arith, leading_short c.in_ok-word.word small);
  passed =
      pass_word (g.M.Mem.seen c.loop-number.mem) (g.M.Mem.seen c.load.new.self) c.args.geo.now c.args.place c.args.chunks c.loop-number.number c.loop-number.before c.in_ok-word.word
      c.loop-number.invariant.passed
      (record { at = c.bits_at.result; at_is = c.bits_at.ensures.value; reads = c.in_ok-word.ensures.loads.call.done; knows = c.in_ok-word.ensures.word; small = omega arith })
      c.requires.within_limit (omega arith) c.in_default.ensures;
}

pub returns-clause-found : goal.returns-clause-found
returns-clause-found g c =
    find_none (g.M.Mem.seen c.loop-number.mem) c.args.geo.now c.args.place c.args.chunks c.loop-number.number c.loop-number.before c.loop-number.invariant.passed (omega arith) c.requires.nonzero

pub returns-then-chunks-before-clause-loads : goal.returns-then-chunks-before-clause-loads
returns-then-chunks-before-clause-loads g c = loads_more_ok g.M.Mem.seen g.M.Mem.same_rest _ c.loop-number.mem _ _ _ (g.met.M.Mem.rest_transitive _ _ _) c.loop-number.invariant.loaded c.in_ok-word.ensures.loads

pub returns-in-Some-clause-loads : goal.returns-in-Some-clause-loads
returns-in-Some-clause-loads g c = loads_more_ok g.M.Mem.seen g.M.Mem.same_rest _ c.loop-number.mem _ _ _ (g.met.M.Mem.rest_transitive _ _ _) c.loop-number.invariant.loaded c.in_ok-word.ensures.loads

pub returns-in_err-word-clause-loads : goal.returns-in_err-word-clause-loads
returns-in_err-word-clause-loads g c = loads_more_err g.M.Mem.seen g.M.Mem.same_rest _ c.loop-number.mem _ _ c.from_residual.result c.from_residual.ensures.0 (g.met.M.Mem.rest_transitive _ _ _) c.loop-number.invariant.loaded c.in_err-word.ensures.loads
