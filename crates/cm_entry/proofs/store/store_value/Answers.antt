use Rattle.std.proofs.Common.{ℕ, ◌+◌, arith, ap, [], ◌∷◌}
use Rattle.cm_geo.proofs.AddressOrder.{segment_limit}
use Rattle.cm_words.specs.Effects.{IsAsBefore}
use Rattle.cm_words.specs.Stores.{Writes, WritesPrefix, store_at}
use Rattle.cm_words.proofs.CallSequences.{done_by, done_then, ends_err, ends_ok, then_err}
use Rattle.cm_entry.specs.Packing.{words_of}
use Rattle.cm_entry.specs.EntryStores.{stores_from, value_stores}
use Rattle.cm_entry.proofs.EntryStores.{checksum_is, may_checksum, may_value_words, prefix_checksum, prefix_value_words, writes_value}
use Rattle.cm_entry.proofs.store.store_value.Goals as goal

pub overflow_add-at : goal.overflow_add-at
overflow_add-at g c = omega (arith, segment_limit (g.M.Mem.seen c.args.mem.now).setting.geo, c.requires.room.in_range)

pub overflow_add-at-2 : goal.overflow_add-at-2
overflow_add-at-2 g c = omega (arith, segment_limit (g.M.Mem.seen c.args.mem.now).setting.geo, c.requires.room.in_range)

pub store_bytes-requires-clause-room : goal.store_bytes-requires-clause-room
store_bytes-requires-clause-room g c = record { writable = c.requires.room.writable; inner = omega arith; within_limit = c.requires.room.lengths.value_short; in_range = omega (arith, c.requires.room.in_range, c.words_for.ensures) }

pub store_bytes-requires-clause-allowed : goal.store_bytes-requires-clause-allowed
store_bytes-requires-clause-allowed g c = may_value_words (g.M.Mem.seen c.args.mem.now) c.args.at (c.args.at + 2 + c.words_for.result) c.args.key.now c.args.value.now (ap (λ (n : ℕ). c.args.at + 2 + n) c.words_for.ensures) c.requires.allowed

pub returns-in_err-checksum : goal.returns-in_err-checksum
returns-in_err-checksum g c =
    ends_err g.M.Mem.seen g.M.Mem.same_rest (λ old now. Writes old now (stores_from (c.args.at + 2 + c.words_for.result) (words_of c.args.value.now))) (λ old now. WritesPrefix old now (stores_from (c.args.at + 2 + c.words_for.result) (words_of c.args.value.now))) (λ old now. Writes old now (value_stores c.args.at c.args.key.now c.args.value.now)) (λ old now. WritesPrefix old now (value_stores c.args.at c.args.key.now c.args.value.now)) _ c.store_bytes.new.mem _ c.from_residual.result c.from_residual.ensures.0 c.in_err-checksum.ensures.stores
    (λ prefix. prefix_value_words (g.M.Mem.seen c.args.mem.now) (g.M.Mem.seen c.store_bytes.new.mem) c.args.at (c.args.at + 2 + c.words_for.result) c.args.key.now c.args.value.now (ap (λ (n : ℕ). c.args.at + 2 + n) c.words_for.ensures) prefix)

pub overflow_add-at-3 : goal.overflow_add-at-3
overflow_add-at-3 g c = omega (arith, segment_limit (g.M.Mem.seen c.args.mem.now).setting.geo, c.requires.room.in_range)

pub store-requires-clause-allowed : goal.store-requires-clause-allowed
store-requires-clause-allowed g c = may_checksum (g.M.Mem.seen c.args.mem.now) (g.M.Mem.seen c.store_bytes.new.mem) c.args.at (c.args.at + 2 + c.words_for.result) c.in_ok-checksum.checksum c.args.key.now c.args.value.now (ap (λ (n : ℕ). c.args.at + 2 + n) c.words_for.ensures) (checksum_is c.args.key.now c.args.value.now c.args.so_far c.in_ok-checksum.checksum c.requires.so_far c.in_ok-checksum.ensures.hash) c.requires.allowed c.in_ok-checksum.ensures.stores.done

pub returns-in_err-store : goal.returns-in_err-store
returns-in_err-store g c =
    then_err g.M.Mem.seen g.M.Mem.same_rest (λ old now. Writes old now (stores_from (c.args.at + 2 + c.words_for.result) (words_of c.args.value.now))) (λ old now. Writes old now (store_at (c.args.at + 1) c.in_ok-checksum.checksum ∷ [])) IsAsBefore (λ old now. Writes old now (value_stores c.args.at c.args.key.now c.args.value.now)) (λ old now. WritesPrefix old now (value_stores c.args.at c.args.key.now c.args.value.now)) _ c.store_bytes.new.mem c.store.new.self _ c.from_residual-in_err-store.result c.from_residual-in_err-store.ensures.0 (g.met.M.Mem.rest_transitive _ _ _)
    (done_by g.M.Mem.seen g.M.Mem.same_rest (λ old now. Writes old now (stores_from (c.args.at + 2 + c.words_for.result) (words_of c.args.value.now))) (λ old now. WritesPrefix old now (stores_from (c.args.at + 2 + c.words_for.result) (words_of c.args.value.now))) _ _ _ c.in_ok-checksum.ensures.stores) c.in_err-store.ensures.stores.call
    (λ written same. prefix_checksum (g.M.Mem.seen c.args.mem.now) (g.M.Mem.seen c.store_bytes.new.mem) (g.M.Mem.seen c.store.new.self) c.args.at (c.args.at + 2 + c.words_for.result) c.args.key.now c.args.value.now (ap (λ (n : ℕ). c.args.at + 2 + n) c.words_for.ensures) written same.reads)

pub returns : goal.returns
returns g c =
    ends_ok g.M.Mem.seen g.M.Mem.same_rest (λ old now. Writes old now (value_stores c.args.at c.args.key.now c.args.value.now)) (λ old now. WritesPrefix old now (value_stores c.args.at c.args.key.now c.args.value.now)) _ c.store.new.self _
    (done_then g.M.Mem.seen g.M.Mem.same_rest (λ old now. Writes old now (stores_from (c.args.at + 2 + c.words_for.result) (words_of c.args.value.now))) (λ old now. Writes old now (store_at (c.args.at + 1) c.in_ok-checksum.checksum ∷ [])) (λ old now. Writes old now (value_stores c.args.at c.args.key.now c.args.value.now)) _ c.store_bytes.new.mem _ (g.met.M.Mem.rest_transitive _ _ _)
    (done_by g.M.Mem.seen g.M.Mem.same_rest (λ old now. Writes old now (stores_from (c.args.at + 2 + c.words_for.result) (words_of c.args.value.now))) (λ old now. WritesPrefix old now (stores_from (c.args.at + 2 + c.words_for.result) (words_of c.args.value.now))) _ _ _ c.in_ok-checksum.ensures.stores) (done_by g.M.Mem.seen g.M.Mem.same_rest _ IsAsBefore _ _ _ c.in_ok-store.ensures.stores.call)
    (λ written last. writes_value (g.M.Mem.seen c.args.mem.now) (g.M.Mem.seen c.store_bytes.new.mem) (g.M.Mem.seen c.store.new.self) c.args.at (c.args.at + 2 + c.words_for.result) c.in_ok-checksum.checksum c.args.key.now c.args.value.now (ap (λ (n : ℕ). c.args.at + 2 + n) c.words_for.ensures) (checksum_is c.args.key.now c.args.value.now c.args.so_far c.in_ok-checksum.checksum c.requires.so_far c.in_ok-checksum.ensures.hash) written last))
