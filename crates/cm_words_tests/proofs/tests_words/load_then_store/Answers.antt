use Rattle.std.proofs.Common.{[], ◌∷◌, arith}
use Rattle.cm_words.specs.Effects.{IsAsBefore, Reads}
use Rattle.cm_words.specs.Stores.{Writes, WritesPrefix, store_at}
use Rattle.cm_words.proofs.CallSequences.{done_by, done_then, ends_err, ends_ok, then_err}
use Rattle.cm_words.proofs.StoreLists.{may_store_after, prefix_none, reads_writes, writes_none, writes_reads}
use Rattle.cm_words.proofs.FittingLists.{reads_transitive}
use Rattle.cm_words_tests.proofs.tests_words.load_then_store.Goals as goal

pub returns-in_err-found-clause-stores : goal.returns-in_err-found-clause-stores
returns-in_err-found-clause-stores g c =
    ends_err g.M.Mem.seen g.M.Mem.same_rest Reads IsAsBefore _ _ c.args.mem.now c.load.new.self _ c.from_residual.result c.from_residual.ensures.0 c.in_err-found.ensures.loads.call (λ same. prefix_none _ _ _ same.reads)

pub store-requires-clause-allowed : goal.store-requires-clause-allowed
store-requires-clause-allowed g c =
    may_store_after _ (g.M.Mem.seen c.load.new.self) [] [] c.args.at c.args.word c.requires.allowed (writes_reads _ _ _ (λ _. []) (writes_none (g.M.Mem.seen c.args.mem.now)) c.in_ok-found.ensures.loads.call.done)

pub returns-in_err-store-clause-stores : goal.returns-in_err-store-clause-stores
returns-in_err-store-clause-stores g c =
    then_err g.M.Mem.seen g.M.Mem.same_rest Reads (λ old now. Writes old now (store_at c.args.at c.args.word ∷ [])) IsAsBefore _ _ c.args.mem.now c.load.new.self c.store.new.self _ c.from_residual-in_err-store.result c.from_residual-in_err-store.ensures.0
    (g.met.M.Mem.rest_transitive _ _ _) (done_by g.M.Mem.seen g.M.Mem.same_rest Reads IsAsBefore _ _ _ c.in_ok-found.ensures.loads.call) c.in_err-store.ensures.stores.call
    (λ reads same. prefix_none _ _ _ (reads_transitive _ _ _ reads same.reads))

pub returns-clause-stores : goal.returns-clause-stores
returns-clause-stores g c =
    ends_ok g.M.Mem.seen g.M.Mem.same_rest (λ old now. Writes old now (store_at c.args.at c.args.word ∷ [])) _ c.args.mem.now c.store.new.self _
    (done_then g.M.Mem.seen g.M.Mem.same_rest Reads (λ old now. Writes old now (store_at c.args.at c.args.word ∷ [])) (λ old now. Writes old now (store_at c.args.at c.args.word ∷ [])) _ c.load.new.self _ (g.met.M.Mem.rest_transitive _ _ _)
    (done_by g.M.Mem.seen g.M.Mem.same_rest Reads IsAsBefore _ _ _ c.in_ok-found.ensures.loads.call) (done_by g.M.Mem.seen g.M.Mem.same_rest (λ old now. Writes old now (store_at c.args.at c.args.word ∷ [])) IsAsBefore _ _ _ c.in_ok-store.ensures.stores.call)
    (λ reads writes. reads_writes _ _ _ (λ _. store_at c.args.at c.args.word ∷ []) reads writes))
