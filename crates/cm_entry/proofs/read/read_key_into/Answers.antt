use Rattle.std.proofs.Common.{arith, refl}
use Rattle.cm_plain.specs.declared.reply.Pair.{Pair}
use Rattle.cm_words.specs.Effects.{IsAsBefore, Reads}
use Rattle.cm_words.proofs.CallSequences.{done_by, loads_then_err}
use Rattle.cm_entry.proofs.EntryParts.{copy_by, keeps_rest_err, rest_behind}
use Rattle.cm_entry.proofs.LoadCounts.{counted_after, counted_err, loads_once_err}
use Rattle.cm_entry.proofs.read.read_key_into.Goals as goal

pub copy_bytes-requires-clause-room : goal.copy_bytes-requires-clause-room
copy_bytes-requires-clause-room g c = omega (arith, c.in_ok-span.ensures.span.within_limit)

pub returns-in_err-span-clause-loads : goal.returns-in_err-span-clause-loads
returns-in_err-span-clause-loads g c =
    counted_err g.M.Mem.seen g.M.Mem.same_rest _ c.key_span.new.mem c.from_residual.result c.from_residual.ensures.0
    (loads_once_err g.M.Mem.seen g.M.Mem.same_rest _ c.key_span.new.mem _ c.from_residual.result c.from_residual.ensures.0 c.in_err-span.ensures.loads) _

pub returns-in_err-span-clause-rest : goal.returns-in_err-span-clause-rest
returns-in_err-span-clause-rest g c = keeps_rest_err 256 c.args.out.now _ c.from_residual.result c.from_residual.ensures.0 refl

pub returns-in_err-copy_bytes-clause-loads : goal.returns-in_err-copy_bytes-clause-loads
returns-in_err-copy_bytes-clause-loads g c =
    counted_err g.M.Mem.seen g.M.Mem.same_rest _ c.copy_bytes.new.mem c.from_residual-in_err-copy_bytes.result c.from_residual-in_err-copy_bytes.ensures.0
    (loads_then_err g.M.Mem.seen g.M.Mem.same_rest _ c.key_span.new.mem c.copy_bytes.new.mem _ c.from_residual-in_err-copy_bytes.result c.from_residual-in_err-copy_bytes.ensures.0 (g.met.M.Mem.rest_transitive _ _ _)
    (done_by g.M.Mem.seen g.M.Mem.same_rest Reads IsAsBefore _ _ _ c.in_ok-span.ensures.loads.call) c.in_err-copy_bytes.ensures.copied.counted.loads) _

pub returns-in_err-copy_bytes-clause-rest : goal.returns-in_err-copy_bytes-clause-rest
returns-in_err-copy_bytes-clause-rest g c =
    keeps_rest_err 256 c.args.out.now c.copy_bytes.new.out c.from_residual-in_err-copy_bytes.result c.from_residual-in_err-copy_bytes.ensures.0
    (rest_behind c.args.out.now c.copy_bytes.new.out c.in_ok-span.span.len 256 c.in_ok-span.ensures.span.within_limit c.copy_bytes.ensures.rest)

pub returns-clause-loads : goal.returns-clause-loads
returns-clause-loads g c =
    counted_after g.M.Mem.seen g.M.Mem.same_rest _ c.key_span.new.mem c.copy_bytes.new.mem _ _ _ _ (g.met.M.Mem.rest_transitive _ _ _)
    (done_by g.M.Mem.seen g.M.Mem.same_rest Reads IsAsBefore _ _ _ c.in_ok-span.ensures.loads.call) c.in_ok-copy_bytes.ensures.copied.counted (omega (arith, c.in_ok-span.ensures.loads.event.events))

pub returns-clause-key : goal.returns-clause-key
returns-clause-key g c =
    copy_by (g.M.Mem.seen c.key_span.new.mem) (g.M.Mem.seen c.copy_bytes.new.mem) c.args.geo.now c.args.place c.args.chunk _ c.in_ok-span.span (λ (pair : Pair). pair.key) c.copy_bytes.new.out
    c.in_ok-span.ensures.span.within_limit c.in_ok-span.ensures.span.stands c.in_ok-copy_bytes.ensures.copied.counted.loads.done c.in_ok-copy_bytes.ensures.copied.answer
