use Rattle.cm_geo.specs.Need.{parts_for}
use Rattle.std.proofs.Common.{length}
use Rattle.cm_plain.specs.declared.reply.Pair.{Pair}
use Rattle.cm_words.specs.Effects.{IsAsBefore, Reads}
use Rattle.cm_words.proofs.CallSequences.{done_by}
use Rattle.cm_entry.proofs.EntryParts.{equals_by}
use Rattle.cm_entry.proofs.LoadCounts.{compare_after, compare_err, loads_once_err}
use Rattle.cm_entry.proofs.read.value_equals.Goals as goal

pub returns-in_err-span-clause-loads : goal.returns-in_err-span-clause-loads
returns-in_err-span-clause-loads g c =
    compare_err g.M.Mem.seen g.M.Mem.same_rest _ c.value_span.new.mem c.from_residual.result _ c.from_residual.ensures.0
    (loads_once_err g.M.Mem.seen g.M.Mem.same_rest _ c.value_span.new.mem _ c.from_residual.result c.from_residual.ensures.0 c.in_err-span.ensures.loads)

pub returns-clause-loads : goal.returns-clause-loads
returns-clause-loads g c =
    compare_after g.M.Mem.seen g.M.Mem.same_rest _ c.value_span.new.mem c.same_bytes.new.mem 1 (parts_for 8 (length c.args.value.now)) c.same_bytes.result (g.met.M.Mem.rest_transitive _ _ _)
    (done_by g.M.Mem.seen g.M.Mem.same_rest Reads IsAsBefore _ _ _ c.in_ok-span.ensures.loads.call) c.in_ok-span.ensures.loads.event.events c.same_bytes.ensures.loads

pub returns-clause-equals : goal.returns-clause-equals
returns-clause-equals g c =
    equals_by (g.M.Mem.seen c.value_span.new.mem) (g.M.Mem.seen c.same_bytes.new.mem) c.args.geo.now c.args.place c.args.chunk c.in_ok-span.span c.args.value.now (λ (pair : Pair). pair.value) c.same_bytes.result
    c.in_ok-span.ensures.span.stands c.same_bytes.ensures.loads.loads.done c.same_bytes.ensures.same
