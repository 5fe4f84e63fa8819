use Rattle.std.proofs.Common.{[], ◌∷◌, arith}
use Rattle.cm_words.specs.Effects.{IsAsBefore, Reads}
use Rattle.cm_words.specs.Stores.{Writes, WritesEach, store_at}
use Rattle.cm_words.proofs.CallSequences.{done_by, ends_err, then_call}
use Rattle.cm_words.proofs.FittingLists.{reads_transitive}
use Rattle.cm_words.proofs.StoreLists.{may_store_remade, writes_remade}
use Rattle.cm_segment.specs.Counts.{one_less, stores_to_lower}
use Rattle.cm_segment.proofs.removing.lower.Goals as goal

pub store-requires-clause-allowed : goal.store-requires-clause-allowed
store-requires-clause-allowed g c =
    may_store_remade (g.M.Mem.seen c.args.mem.now) (g.M.Mem.seen c.load.new.self) c.args.at c.in_ok-word.word _ one_less c.requires.allowed
    c.in_ok-word.ensures.loads.call.done (omega (arith, c.requires.inner)) c.in_ok-word.ensures.word (omega arith)

pub returns-in_err-word : goal.returns-in_err-word
returns-in_err-word g c =
    ends_err g.M.Mem.seen g.M.Mem.same_rest Reads IsAsBefore (λ old now. WritesEach old now (stores_to_lower c.args.at)) Reads _ _ _ c.from_residual.result
    c.from_residual.ensures.0 c.in_err-word.ensures.loads.call (λ same. same.reads)

pub returns : goal.returns
returns g c =
    then_call g.M.Mem.seen g.M.Mem.same_rest Reads (λ old now. Writes old now (store_at _ _ ∷ [])) IsAsBefore
    (λ old now. WritesEach old now (stores_to_lower c.args.at)) Reads _ c.load.new.self _ _ (g.met.M.Mem.rest_transitive _ _ _)
    (done_by g.M.Mem.seen g.M.Mem.same_rest Reads IsAsBefore _ _ _ c.in_ok-word.ensures.loads.call) c.store.ensures.stores.call
    (λ reads writes. writes_remade (g.M.Mem.seen c.args.mem.now) (g.M.Mem.seen c.load.new.self) _ c.args.at c.in_ok-word.word _ one_less reads
    (omega (arith, c.requires.inner)) c.in_ok-word.ensures.word (omega arith) writes)
    (λ reads same. reads_transitive _ _ _ reads same.reads)
