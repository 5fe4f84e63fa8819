use Rattle.std.proofs.Common.{ℕ, ◌+◌, arith, ap, sym, subst, ◌∙◌, [], ◌∷◌}
use Rattle.cm_geo.specs.Addresses.{chunk_at}
use Rattle.cm_geo.specs.Hash.{hash}
use Rattle.cm_geo.proofs.AddressOrder.{segment_limit}
use Rattle.cm_words.specs.Effects.{IsAsBefore}
use Rattle.cm_words.specs.Stores.{MayStoreAll, Writes, WritesPrefix, store_at}
use Rattle.cm_words.proofs.CallSequences.{done_by, done_then, ends_err, ends_ok, then_err}
use Rattle.cm_words.proofs.FittingLists.{keeps_transitive}
use Rattle.cm_words.proofs.StoreLists.{prefix_none, writes_append}
use Rattle.cm_entry.specs.Packing.{words_of}
use Rattle.cm_entry.specs.EntryStores.{entry_stores, stores_from, value_stores}
use Rattle.cm_entry.proofs.EntryStores.{behind_heads, entry_stands, may_first, may_key_words, may_value, prefix_after_key, prefix_key_words, room_in, so_far_is, storable_key, storable_value, writes_joined}
use Rattle.cm_entry.proofs.store.write.Goals as goal

pub store-requires-clause-inner : goal.store-requires-clause-inner
store-requires-clause-inner g c = behind_heads c.args.geo.now c.args.place c.args.chunk c.chunk_at-at.result c.chunk_at-at.ensures.value

pub store-requires-clause-allowed : goal.store-requires-clause-allowed
store-requires-clause-allowed g c = may_first (g.M.Mem.seen c.args.mem.now) c.chunk_at-at.result c.head_of-head.result c.args.key.now c.args.value.now c.head_of-head.ensures (subst (λ (n : ℕ). MayStoreAll (g.M.Mem.seen c.args.mem.now) (entry_stores n c.args.key.now c.args.value.now)) (sym c.chunk_at-at.ensures.value) c.requires.allowed)

pub returns-in_err-store-clause-stores : goal.returns-in_err-store-clause-stores
returns-in_err-store-clause-stores g c =
    ends_err g.M.Mem.seen g.M.Mem.same_rest (λ old now. Writes old now (store_at c.chunk_at-at.result c.head_of-head.result ∷ [])) IsAsBefore (λ old now. Writes old now (entry_stores (chunk_at c.args.geo.now c.args.place c.args.chunk) c.args.key.now c.args.value.now)) (λ old now. WritesPrefix old now (entry_stores (chunk_at c.args.geo.now c.args.place c.args.chunk) c.args.key.now c.args.value.now)) _ c.store.new.self _ c.from_residual.result c.from_residual.ensures.0 c.in_err-store.ensures.stores.call (λ same. prefix_none _ _ _ same.reads)

pub overflow_add-at : goal.overflow_add-at
overflow_add-at g c =
    let room = room_in (g.M.Mem.seen c.args.mem.now) c.args.geo.now c.args.place c.args.chunk c.chunk_at-at.result c.args.key.now c.args.value.now c.requires.writable.geo_is c.chunk_at-at.ensures.value c.requires.room in
    omega (arith, room, segment_limit (g.M.Mem.seen c.args.mem.now).setting.geo)

pub store_bytes-requires-clause-room : goal.store_bytes-requires-clause-room
store_bytes-requires-clause-room g c = storable_key (g.M.Mem.seen c.args.mem.now) (g.M.Mem.seen c.store.new.self) c.args.geo.now c.args.place c.args.chunk c.chunk_at-at.result c.args.key.now c.args.value.now c.requires.writable c.requires.room c.in_ok-store.ensures.stores.call.done.keeps c.chunk_at-at.ensures.value

pub store_bytes-requires-clause-allowed : goal.store_bytes-requires-clause-allowed
store_bytes-requires-clause-allowed g c = may_key_words (g.M.Mem.seen c.args.mem.now) (g.M.Mem.seen c.store.new.self) c.chunk_at-at.result c.head_of-head.result c.args.key.now c.args.value.now c.head_of-head.ensures (subst (λ (n : ℕ). MayStoreAll (g.M.Mem.seen c.args.mem.now) (entry_stores n c.args.key.now c.args.value.now)) (sym c.chunk_at-at.ensures.value) c.requires.allowed) c.in_ok-store.ensures.stores.call.done

pub returns-in_err-over_key-clause-stores : goal.returns-in_err-over_key-clause-stores
returns-in_err-over_key-clause-stores g c =
    then_err g.M.Mem.seen g.M.Mem.same_rest (λ old now. Writes old now (store_at c.chunk_at-at.result c.head_of-head.result ∷ [])) (λ old now. Writes old now (stores_from (c.chunk_at-at.result + 2) (words_of c.args.key.now))) (λ old now. WritesPrefix old now (stores_from (c.chunk_at-at.result + 2) (words_of c.args.key.now))) (λ old now. Writes old now (entry_stores (chunk_at c.args.geo.now c.args.place c.args.chunk) c.args.key.now c.args.value.now)) (λ old now. WritesPrefix old now (entry_stores (chunk_at c.args.geo.now c.args.place c.args.chunk) c.args.key.now c.args.value.now)) _ c.store.new.self c.store_bytes.new.mem _ c.from_residual-in_err-over_key.result c.from_residual-in_err-over_key.ensures.0 (g.met.M.Mem.rest_transitive _ _ _) (done_by g.M.Mem.seen g.M.Mem.same_rest (λ old now. Writes old now (store_at c.chunk_at-at.result c.head_of-head.result ∷ [])) IsAsBefore _ _ _ c.in_ok-store.ensures.stores.call) c.in_err-over_key.ensures.stores
    (λ first prefix. (subst (λ (n : ℕ). WritesPrefix (g.M.Mem.seen c.args.mem.now) (g.M.Mem.seen c.store_bytes.new.mem) (entry_stores n c.args.key.now c.args.value.now)) c.chunk_at-at.ensures.value
    (prefix_key_words (g.M.Mem.seen c.args.mem.now) (g.M.Mem.seen c.store.new.self) (g.M.Mem.seen c.store_bytes.new.mem) c.chunk_at-at.result c.head_of-head.result c.args.key.now c.args.value.now c.head_of-head.ensures first prefix)))

pub store_value-requires-clause-room : goal.store_value-requires-clause-room
store_value-requires-clause-room g c =
    storable_value (g.M.Mem.seen c.args.mem.now) (g.M.Mem.seen c.store_bytes.new.mem) c.args.geo.now c.args.place c.args.chunk c.chunk_at-at.result c.args.key.now c.args.value.now c.requires.writable c.requires.room
    (keeps_transitive (g.M.Mem.seen c.args.mem.now) (g.M.Mem.seen c.store.new.self) (g.M.Mem.seen c.store_bytes.new.mem) c.in_ok-store.ensures.stores.call.done.keeps c.in_ok-over_key.ensures.stores.done.keeps) c.chunk_at-at.ensures.value

pub store_value-requires-clause-so_far : goal.store_value-requires-clause-so_far
store_value-requires-clause-so_far g c = so_far_is c.args.key.now c.args.value.now c.head_of-head.result c.hash_head-over_head.result c.in_ok-over_key.over_key c.head_of-head.ensures c.hash_head-over_head.ensures c.in_ok-over_key.ensures.hash

pub store_value-requires-clause-allowed : goal.store_value-requires-clause-allowed
store_value-requires-clause-allowed g c =
    may_value (g.M.Mem.seen c.args.mem.now) (g.M.Mem.seen c.store.new.self) (g.M.Mem.seen c.store_bytes.new.mem) c.chunk_at-at.result c.head_of-head.result c.args.key.now c.args.value.now c.head_of-head.ensures (subst (λ (n : ℕ). MayStoreAll (g.M.Mem.seen c.args.mem.now) (entry_stores n c.args.key.now c.args.value.now)) (sym c.chunk_at-at.ensures.value) c.requires.allowed) c.in_ok-store.ensures.stores.call.done c.in_ok-over_key.ensures.stores.done

pub returns-in_err-store_value-clause-stores : goal.returns-in_err-store_value-clause-stores
returns-in_err-store_value-clause-stores g c =
    then_err g.M.Mem.seen g.M.Mem.same_rest (λ old now. Writes old now (store_at c.chunk_at-at.result c.head_of-head.result ∷ stores_from (c.chunk_at-at.result + 2) (words_of c.args.key.now))) (λ old now. Writes old now (value_stores c.chunk_at-at.result c.args.key.now c.args.value.now)) (λ old now. WritesPrefix old now (value_stores c.chunk_at-at.result c.args.key.now c.args.value.now)) (λ old now. Writes old now (entry_stores (chunk_at c.args.geo.now c.args.place c.args.chunk) c.args.key.now c.args.value.now)) (λ old now. WritesPrefix old now (entry_stores (chunk_at c.args.geo.now c.args.place c.args.chunk) c.args.key.now c.args.value.now)) _ c.store_bytes.new.mem c.store_value.new.mem _ c.from_residual-in_err-store_value.result c.from_residual-in_err-store_value.ensures.0 (g.met.M.Mem.rest_transitive _ _ _)
    (done_then g.M.Mem.seen g.M.Mem.same_rest (λ old now. Writes old now (store_at c.chunk_at-at.result c.head_of-head.result ∷ [])) (λ old now. Writes old now (stores_from (c.chunk_at-at.result + 2) (words_of c.args.key.now))) (λ old now. Writes old now (store_at c.chunk_at-at.result c.head_of-head.result ∷ stores_from (c.chunk_at-at.result + 2) (words_of c.args.key.now))) _ c.store.new.self _ (g.met.M.Mem.rest_transitive _ _ _) (done_by g.M.Mem.seen g.M.Mem.same_rest (λ old now. Writes old now (store_at c.chunk_at-at.result c.head_of-head.result ∷ [])) IsAsBefore _ _ _ c.in_ok-store.ensures.stores.call) (done_by g.M.Mem.seen g.M.Mem.same_rest (λ old now. Writes old now (stores_from (c.chunk_at-at.result + 2) (words_of c.args.key.now))) (λ old now. WritesPrefix old now (stores_from (c.chunk_at-at.result + 2) (words_of c.args.key.now))) _ _ _ c.in_ok-over_key.ensures.stores) (λ first words. writes_append (g.M.Mem.seen c.args.mem.now) (g.M.Mem.seen c.store.new.self) (g.M.Mem.seen c.store_bytes.new.mem) (store_at c.chunk_at-at.result c.head_of-head.result ∷ []) (stores_from (c.chunk_at-at.result + 2) (words_of c.args.key.now)) first words)) c.in_err-store_value.ensures
    (λ written prefix. (subst (λ (n : ℕ). WritesPrefix (g.M.Mem.seen c.args.mem.now) (g.M.Mem.seen c.store_value.new.mem) (entry_stores n c.args.key.now c.args.value.now)) c.chunk_at-at.ensures.value
    (prefix_after_key (g.M.Mem.seen c.args.mem.now) (g.M.Mem.seen c.store_bytes.new.mem) (g.M.Mem.seen c.store_value.new.mem) c.chunk_at-at.result c.head_of-head.result c.args.key.now c.args.value.now c.head_of-head.ensures written prefix)))

stored : goal.returns-clause-stores
stored g c =
    ends_ok g.M.Mem.seen g.M.Mem.same_rest (λ old now. Writes old now (entry_stores (chunk_at c.args.geo.now c.args.place c.args.chunk) c.args.key.now c.args.value.now)) (λ old now. WritesPrefix old now (entry_stores (chunk_at c.args.geo.now c.args.place c.args.chunk) c.args.key.now c.args.value.now)) _ c.store_value.new.mem _
    (done_then g.M.Mem.seen g.M.Mem.same_rest (λ old now. Writes old now (store_at c.chunk_at-at.result c.head_of-head.result ∷ stores_from (c.chunk_at-at.result + 2) (words_of c.args.key.now))) (λ old now. Writes old now (value_stores c.chunk_at-at.result c.args.key.now c.args.value.now)) (λ old now. Writes old now (entry_stores (chunk_at c.args.geo.now c.args.place c.args.chunk) c.args.key.now c.args.value.now)) _ c.store_bytes.new.mem _ (g.met.M.Mem.rest_transitive _ _ _)
    (done_then g.M.Mem.seen g.M.Mem.same_rest (λ old now. Writes old now (store_at c.chunk_at-at.result c.head_of-head.result ∷ [])) (λ old now. Writes old now (stores_from (c.chunk_at-at.result + 2) (words_of c.args.key.now))) (λ old now. Writes old now (store_at c.chunk_at-at.result c.head_of-head.result ∷ stores_from (c.chunk_at-at.result + 2) (words_of c.args.key.now))) _ c.store.new.self _ (g.met.M.Mem.rest_transitive _ _ _) (done_by g.M.Mem.seen g.M.Mem.same_rest (λ old now. Writes old now (store_at c.chunk_at-at.result c.head_of-head.result ∷ [])) IsAsBefore _ _ _ c.in_ok-store.ensures.stores.call) (done_by g.M.Mem.seen g.M.Mem.same_rest (λ old now. Writes old now (stores_from (c.chunk_at-at.result + 2) (words_of c.args.key.now))) (λ old now. WritesPrefix old now (stores_from (c.chunk_at-at.result + 2) (words_of c.args.key.now))) _ _ _ c.in_ok-over_key.ensures.stores) (λ first words. writes_append (g.M.Mem.seen c.args.mem.now) (g.M.Mem.seen c.store.new.self) (g.M.Mem.seen c.store_bytes.new.mem) (store_at c.chunk_at-at.result c.head_of-head.result ∷ []) (stores_from (c.chunk_at-at.result + 2) (words_of c.args.key.now)) first words)) (done_by g.M.Mem.seen g.M.Mem.same_rest (λ old now. Writes old now (value_stores c.chunk_at-at.result c.args.key.now c.args.value.now)) (λ old now. WritesPrefix old now (value_stores c.chunk_at-at.result c.args.key.now c.args.value.now)) _ _ _ c.in_ok-store_value.ensures)
    (λ written last. (subst (λ (n : ℕ). Writes (g.M.Mem.seen c.args.mem.now) (g.M.Mem.seen c.store_value.new.mem) (entry_stores n c.args.key.now c.args.value.now)) c.chunk_at-at.ensures.value
    (writes_joined (g.M.Mem.seen c.args.mem.now) (g.M.Mem.seen c.store_bytes.new.mem) (g.M.Mem.seen c.store_value.new.mem) c.chunk_at-at.result c.head_of-head.result c.args.key.now c.args.value.now c.head_of-head.ensures written last))))

pub returns-clause-stores : goal.returns-clause-stores
returns-clause-stores g c = stored g c

pub returns-clause-stands : goal.returns-clause-stands
returns-clause-stands g c =
    entry_stands (g.M.Mem.seen c.args.mem.now) (g.M.Mem.seen c.store_value.new.mem) c.args.geo.now c.args.place c.args.chunk c.args.key.now c.args.value.now c.requires.writable.geo_is (λ i. omega (arith, c.type_inv.key i)) (λ i. omega (arith, c.type_inv.value i)) c.requires.room (stored g c).done
