use Rattle.std.proofs.Common.{arith, refl, [], ◌∷◌}
use Rattle.cm_words.specs.Effects.{IsAsBefore, Reads}
use Rattle.cm_words.specs.Stores.{Writes, WritesEach, store_at}
use Rattle.cm_words.proofs.CallSequences.{done_by, ends_err, then_call}
use Rattle.cm_words.proofs.FittingLists.{reads_transitive}
use Rattle.cm_words.proofs.StoreLists.{may_store_remade, writes_remade}
use Rattle.cm_segment.specs.Counts.{one_more, stores_to_raise}
use Rattle.cm_segment.proofs.placing.raise.Goals as goal

pub returns-in_err-word : goal.returns-in_err-word
returns-in_err-word g c =
    ends_err g.M.Mem.seen g.M.Mem.same_rest Reads IsAsBefore (λ old now. WritesEach old now (stores_to_raise c.args.at)) Reads _ c.load.new.self _
    c.from_residual.result c.from_residual.ensures.0 c.in_err-word.ensures.loads.call (λ same. same.reads)

pub store-requires-clause-allowed : goal.store-requires-clause-allowed
store-requires-clause-allowed g c =
    may_store_remade (g.M.Mem.seen c.args.mem.now) (g.M.Mem.seen c.load.new.self) c.args.at c.in_ok-word.word _ one_more c.requires.allowed
    c.in_ok-word.ensures.loads.call.done (omega (arith, c.requires.inner)) c.in_ok-word.ensures.word refl

pub returns : goal.returns
returns g c =
    then_call g.M.Mem.seen g.M.Mem.same_rest Reads (λ old now. Writes old now (store_at c.args.at (one_more c.in_ok-word.word) ∷ [])) IsAsBefore
    (λ old now. WritesEach old now (stores_to_raise c.args.at)) Reads _ c.load.new.self c.store.new.self c.store.result
    (g.met.M.Mem.rest_transitive _ _ _) (done_by g.M.Mem.seen g.M.Mem.same_rest Reads IsAsBefore _ _ _ c.in_ok-word.ensures.loads.call)
    c.store.ensures.stores.call
    (λ reads writes. writes_remade (g.M.Mem.seen c.args.mem.now) (g.M.Mem.seen c.load.new.self)
    (g.M.Mem.seen c.store.new.self) c.args.at c.in_ok-word.word _ one_more reads (omega (arith, c.requires.inner)) c.in_ok-word.ensures.word refl writes)
    (λ reads same. reads_transitive (g.M.Mem.seen c.args.mem.now) (g.M.Mem.seen c.load.new.self) (g.M.Mem.seen c.store.new.self) reads same.reads)
