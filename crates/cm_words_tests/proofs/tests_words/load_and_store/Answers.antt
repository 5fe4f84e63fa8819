use Rattle.std.proofs.Common.{rules, ◌∙◌, ℕ, List, [], ◌∷◌}
use Rattle.cm_words.specs.Stores.{WordStore, store_at}
use Rattle.cm_words.proofs.StoreLists.{reads_writes, writes_reads}
use Rattle.cm_words.proofs.OneMemoryState.{lender_has}
use Rattle.cm_words_tests.proofs.tests_words.load_and_store.Goals as goal

pub returns-clause-stored : goal.returns-clause-stored
returns-clause-stored g c =
    let stores : List WordStore = store_at 2 7 ∷ store_at 3 9 ∷ [] in
    let all = writes_reads _ _ _ (λ _. stores) (reads_writes _ _ _ (λ _. stores) c.in_ok-load.ensures.loads.call.done c.in_ok-store_two.ensures.stores.done) c.in_ok-word.ensures.loads.call.done in
    let over = c.free-mem.ensures.over in
    lender_has g.F.Fuse.fused c.free-mem.result c.load-2.new.self c.args.words.now _ 0 stores all over.map_is over.segment_is (c.in_ok-word.ensures.loads.call.rest.segment ∙ (c.in_ok-store_two.ensures.stores.rest.segment ∙ (c.in_ok-load.ensures.loads.call.rest.segment ∙ over.segment_is))) (search rules)
