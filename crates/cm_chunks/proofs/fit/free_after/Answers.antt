use Rattle.std.proofs.Common.{arith}
use Rattle.cm_words.specs.Effects.{IsAsBefore, Reads}
use Rattle.cm_words.proofs.CallSequences.{done_by, loads_more_err, loads_more_ok}
use Rattle.cm_chunks.proofs.Freeing.{free_after_one, free_after_two, not_free_after}
use Rattle.cm_chunks.proofs.fit.free_after.Goals as goal

pub returns-then-end-le64-clause-free : goal.returns-then-end-le64-clause-free
returns-then-end-le64-clause-free g c =
    free_after_one (g.M.Mem.seen c.args.mem.now) (g.M.Mem.seen c.load.new.self) c.args.geo.now c.args.place c.args.chunk c.args.chunks c.in_ok-word.word c.bits_between.result
    (record { at = c.bits_at.result; at_is = c.bits_at.ensures.value; reads = c.in_ok-word.ensures.loads.call.done; knows = c.in_ok-word.ensures.word; small = omega arith })
    (omega arith) (omega arith) c.bits_between.ensures

pub returns-then-word-bits_between-ne0-clause-free : goal.returns-then-word-bits_between-ne0-clause-free
returns-then-word-bits_between-ne0-clause-free g c =
    not_free_after (g.M.Mem.seen c.args.mem.now) (g.M.Mem.seen c.load.new.self) c.args.geo.now c.args.place c.args.chunk c.args.chunks c.in_ok-word.word c.bits_between-2.result
    (record { at = c.bits_at.result; at_is = c.bits_at.ensures.value; reads = c.in_ok-word.ensures.loads.call.done; knows = c.in_ok-word.ensures.word; small = omega arith })
    (omega arith) c.bits_between-2.ensures c.if-word-bits_between-ne0.true

pub returns-clause-free : goal.returns-clause-free
returns-clause-free g c =
    free_after_two (g.M.Mem.seen c.args.mem.now) (g.M.Mem.seen c.load.new.self) (g.M.Mem.seen c.load-2.new.self) c.args.geo.now c.args.place c.args.chunk c.args.chunks c.in_ok-word.word c.bits_between-2.result c.in_ok-next.next c.bits_between-3.result
    (record { at = c.bits_at.result; at_is = c.bits_at.ensures.value; reads = c.in_ok-word.ensures.loads.call.done; knows = c.in_ok-word.ensures.word; small = omega arith })
    (record { at = c.bits_at-2.result; at_is = c.bits_at-2.ensures.value; reads = c.in_ok-next.ensures.loads.call.done; knows = c.in_ok-next.ensures.word; small = omega arith })
    (omega arith) (omega arith) c.requires.within_limit c.bits_between-2.ensures c.if-word-bits_between-ne0.false c.bits_between-3.ensures

pub returns-in_err-next-clause-loads : goal.returns-in_err-next-clause-loads
returns-in_err-next-clause-loads g c = loads_more_err g.M.Mem.seen g.M.Mem.same_rest _ c.load.new.self _ _ c.from_residual-in_err-next.result c.from_residual-in_err-next.ensures.0 (g.met.M.Mem.rest_transitive _ _ _) (done_by g.M.Mem.seen g.M.Mem.same_rest Reads IsAsBefore _ _ _ c.in_ok-word.ensures.loads.call) c.in_err-next.ensures.loads

pub returns-clause-loads : goal.returns-clause-loads
returns-clause-loads g c = loads_more_ok g.M.Mem.seen g.M.Mem.same_rest _ c.load.new.self _ _ _ (g.met.M.Mem.rest_transitive _ _ _) (done_by g.M.Mem.seen g.M.Mem.same_rest Reads IsAsBefore _ _ _ c.in_ok-word.ensures.loads.call) c.in_ok-next.ensures.loads
