use Rattle.std.proofs.Common.{arith}
use Rattle.cm_words.specs.Effects.{IsAsBefore, Reads}
use Rattle.cm_words.proofs.CallSequences.{done_by, loads_then_err}
use Rattle.cm_entry.specs.Spans.{bytes_in}
use Rattle.cm_entry.proofs.EntryParts.{hash_by}
use Rattle.cm_entry.proofs.LoadCounts.{at_most_after, at_most_err, loads_once_err}
use Rattle.cm_entry.proofs.read.key_hash.Goals as goal

pub returns-in_err-span-clause-loads : goal.returns-in_err-span-clause-loads
returns-in_err-span-clause-loads g c =
    at_most_err g.M.Mem.seen g.M.Mem.same_rest _ c.key_span.new.mem c.from_residual.result c.from_residual.ensures.0
    (loads_once_err g.M.Mem.seen g.M.Mem.same_rest _ c.key_span.new.mem _ c.from_residual.result c.from_residual.ensures.0 c.in_err-span.ensures.loads) _

pub returns-in_err-key-clause-loads : goal.returns-in_err-key-clause-loads
returns-in_err-key-clause-loads g c =
    at_most_err g.M.Mem.seen g.M.Mem.same_rest _ c.hash_span.new.mem c.from_residual-in_err-key.result c.from_residual-in_err-key.ensures.0
    (loads_then_err g.M.Mem.seen g.M.Mem.same_rest _ c.key_span.new.mem c.hash_span.new.mem _ c.from_residual-in_err-key.result c.from_residual-in_err-key.ensures.0 (g.met.M.Mem.rest_transitive _ _ _)
    (done_by g.M.Mem.seen g.M.Mem.same_rest Reads IsAsBefore _ _ _ c.in_ok-span.ensures.loads.call) c.in_err-key.ensures.counted.loads) _

pub returns-clause-loads : goal.returns-clause-loads
returns-clause-loads g c =
    at_most_after g.M.Mem.seen g.M.Mem.same_rest _ c.key_span.new.mem c.hash_span.new.mem _ _ _ _ (g.met.M.Mem.rest_transitive _ _ _)
    (done_by g.M.Mem.seen g.M.Mem.same_rest Reads IsAsBefore _ _ _ c.in_ok-span.ensures.loads.call) c.in_ok-key.ensures.counted (omega (arith, c.in_ok-span.ensures.loads.event.events, c.in_ok-span.ensures.span.within_limit))

pub returns-clause-hash : goal.returns-clause-hash
returns-clause-hash g c words fits pair stands =
    let here = c.in_ok-span.ensures.span.stands words (c.in_ok-key.ensures.counted.loads.done.fits words fits) pair stands in
    let over = c.in_ok-key.ensures.answer words fits in
    hash_by c.hash.result c.in_ok-key.key.state (bytes_in words c.in_ok-span.span) pair.key c.hash.ensures over.state_is here.bytes_are
