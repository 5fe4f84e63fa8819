-- The slot's entry, if it has one, is read.
use Rattle.std.proofs.lemmas.Result.{IfOk-weaker}
use Rattle.cm_words.specs.Effects.{IsAsBefore, Reads}
use Rattle.cm_words.proofs.CallSequences.{done_by, ends_ok, then_call}
use Rattle.cm_words.proofs.FittingLists.{reads_transitive}
use Rattle.cm_segment.proofs.WalkSteps.{no_chunk, slot_answer}
use Rattle.cm_segment.proofs.walks.key_at.Goals as goal

pub returns-in_default-clause-loads : goal.returns-in_default-clause-loads
returns-in_default-clause-loads g c =
    ends_ok g.M.Mem.seen g.M.Mem.same_rest Reads Reads _ c.slot_of.new.mem _
    (done_by g.M.Mem.seen g.M.Mem.same_rest Reads IsAsBefore _ _ _ c.in_ok-parts.ensures.loads.call)

pub returns-in_default-clause-found : goal.returns-in_default-clause-found
returns-in_default-clause-found g c =
    no_chunk (g.M.Mem.seen c.slot_of.new.mem) c.args.geo.now c.args.place c.args.slot c.args.prefix.now c.in_ok-parts.parts c.in_ok-parts.ensures.parts
    (rw c.in_default.is at c.chunk_of.ensures)

pub returns-clause-loads : goal.returns-clause-loads
returns-clause-loads g c =
    then_call g.M.Mem.seen g.M.Mem.same_rest Reads Reads Reads Reads Reads _ c.slot_of.new.mem c.read_key_with_prefix.new.mem c.read_key_with_prefix.result
    (g.met.M.Mem.rest_transitive _ _ _)
    (done_by g.M.Mem.seen g.M.Mem.same_rest Reads IsAsBefore _ _ _ c.in_ok-parts.ensures.loads.call) c.read_key_with_prefix.ensures.loads
    (reads_transitive _ (g.M.Mem.seen c.slot_of.new.mem) _) (reads_transitive _ (g.M.Mem.seen c.slot_of.new.mem) _)

pub returns-clause-inside : goal.returns-clause-inside
returns-clause-inside g c = IfOk-weaker c.read_key_with_prefix.result _ _ (λ found is. is.inside) c.read_key_with_prefix.ensures.key

pub returns-clause-found : goal.returns-clause-found
returns-clause-found g c =
    slot_answer (g.M.Mem.seen c.slot_of.new.mem) (g.M.Mem.seen c.read_key_with_prefix.new.mem) c.args.geo.now c.args.place c.args.slot c.in-Some.chunk
    c.args.prefix.now c.read_key_with_prefix.new.out c.in_ok-parts.parts c.read_key_with_prefix.result
    c.requires.slot.slot_inside c.in_ok-parts.ensures.parts (rw c.in-Some.is at c.chunk_of.ensures) c.read_key_with_prefix.ensures.loads.done
    c.read_key_with_prefix.ensures.key
