use Rattle.std.proofs.Common.{[], ◌∷◌}
use Rattle.cm_words.specs.Stores.{Writes, WritesPrefix, store_at}
use Rattle.cm_words.proofs.CallSequences.{done_by, done_then, ends_err, ends_ok, then_err}
use Rattle.cm_words.proofs.StoreLists.{may_prefix, may_suffix, prefix_first, prefix_then, writes_append}
use Rattle.cm_words_tests.proofs.tests_words.store_two.Goals as goal

pub load_then_store-requires-clause-allowed : goal.load_then_store-requires-clause-allowed
load_then_store-requires-clause-allowed g c = may_prefix _ (store_at c.args.first c.args.one ∷ []) (store_at c.args.second c.args.other ∷ []) c.requires.allowed

pub load_then_store-requires-2-clause-allowed : goal.load_then_store-requires-2-clause-allowed
load_then_store-requires-2-clause-allowed g c = may_suffix _ _ (store_at c.args.first c.args.one ∷ []) (store_at c.args.second c.args.other ∷ []) c.requires.allowed c.in_ok-load_then_store.ensures.stores.done

pub returns-in_err-load_then_store-clause-stores : goal.returns-in_err-load_then_store-clause-stores
returns-in_err-load_then_store-clause-stores g c =
    ends_err g.M.Mem.seen g.M.Mem.same_rest _ _ _ _ c.args.mem.now c.load_then_store.new.mem _ c.from_residual.result c.from_residual.ensures.0 c.in_err-load_then_store.ensures.stores
    (λ part. prefix_first _ _ (store_at c.args.first c.args.one ∷ []) (store_at c.args.second c.args.other ∷ []) part)

pub returns-in_err-load_then_store-2-clause-stores : goal.returns-in_err-load_then_store-2-clause-stores
returns-in_err-load_then_store-2-clause-stores g c =
    then_err g.M.Mem.seen g.M.Mem.same_rest _ _ _ _ _ c.args.mem.now c.load_then_store.new.mem c.load_then_store-2.new.mem _ c.from_residual-in_err-load_then_store-2.result c.from_residual-in_err-load_then_store-2.ensures.0
    (g.met.M.Mem.rest_transitive _ _ _) (done_by g.M.Mem.seen g.M.Mem.same_rest (λ old now. Writes old now (store_at c.args.first c.args.one ∷ [])) _ _ _ _ c.in_ok-load_then_store.ensures.stores) c.in_err-load_then_store-2.ensures.stores
    (λ writes part. prefix_then _ _ _ (store_at c.args.first c.args.one ∷ []) (store_at c.args.second c.args.other ∷ []) writes part)

pub returns-clause-stores : goal.returns-clause-stores
returns-clause-stores g c =
    ends_ok g.M.Mem.seen g.M.Mem.same_rest _ _ c.args.mem.now c.load_then_store-2.new.mem _
    (done_then g.M.Mem.seen g.M.Mem.same_rest (λ old now. Writes old now (store_at c.args.first c.args.one ∷ [])) (λ old now. Writes old now (store_at c.args.second c.args.other ∷ [])) _ _ c.load_then_store.new.mem _ (g.met.M.Mem.rest_transitive _ _ _)
    (done_by g.M.Mem.seen g.M.Mem.same_rest _ _ _ _ _ c.in_ok-load_then_store.ensures.stores) (done_by g.M.Mem.seen g.M.Mem.same_rest _ _ _ _ _ c.in_ok-load_then_store-2.ensures.stores)
    (λ one two. writes_append _ _ _ (store_at c.args.first c.args.one ∷ []) (store_at c.args.second c.args.other ∷ []) one two))
