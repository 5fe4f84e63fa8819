use Rattle.std.proofs.Common.{ℕ, arith, ap, sym, subst, ◌∙◌}
use Rattle.cm_geo.specs.Addresses.{chunk_at}
use Rattle.cm_geo.specs.Hash.{hash}
use Rattle.cm_plain.specs.Readings.{head_of}
use Rattle.cm_words.specs.Effects.{Reads}
use Rattle.cm_words.specs.Stores.{MayStoreEach, Writes, WritesEach, WritesPrefix, WritesPrefixEach}
use Rattle.cm_words.proofs.CallSequences.{done_by, done_then, ends_err, ends_ok, then_err}
use Rattle.cm_words.proofs.StoreLists.{prefix_each_none}
use Rattle.cm_entry.specs.EntryStores.{Replaces, head_stores, replacing_stores, value_stores}
use Rattle.cm_entry.proofs.EntryStores.{may_head, may_value_each, prefix_replaced, so_far_is, storable_head, storable_value, value_stands}
use Rattle.cm_entry.proofs.store.write_value.Goals as goal

pub store_head-requires-clause-room : goal.store_head-requires-clause-room
store_head-requires-clause-room g c = storable_head (g.M.Mem.seen c.args.mem.now) c.args.geo.now c.args.place c.args.chunk c.chunk_at-at.result c.args.key.now c.args.value.now c.requires.writable c.requires.room c.chunk_at-at.ensures.value

pub store_head-requires-clause-allowed : goal.store_head-requires-clause-allowed
store_head-requires-clause-allowed g c = may_head (g.M.Mem.seen c.args.mem.now) c.chunk_at-at.result c.head_of-head.result c.args.key.now c.args.value.now c.head_of-head.ensures (subst (λ (n : ℕ). MayStoreEach (g.M.Mem.seen c.args.mem.now) (replacing_stores n c.args.key.now c.args.value.now)) (sym c.chunk_at-at.ensures.value) c.requires.allowed)

pub returns-in_err-store_head : goal.returns-in_err-store_head
returns-in_err-store_head g c =
    ends_err g.M.Mem.seen g.M.Mem.same_rest (λ old now. WritesEach old now (head_stores c.chunk_at-at.result c.head_of-head.result)) Reads (λ old now. Replaces old now c.args.geo.now c.args.place c.args.chunk c.args.key.now c.args.value.now) (λ old now. WritesPrefixEach old now (replacing_stores (chunk_at c.args.geo.now c.args.place c.args.chunk) c.args.key.now c.args.value.now)) _ c.store_head.new.mem _ c.from_residual.result c.from_residual.ensures.0 c.in_err-store_head.ensures (λ reads. prefix_each_none _ _ _ reads)

pub store_value-requires-clause-room : goal.store_value-requires-clause-room
store_value-requires-clause-room g c = storable_value (g.M.Mem.seen c.args.mem.now) (g.M.Mem.seen c.store_head.new.mem) c.args.geo.now c.args.place c.args.chunk c.chunk_at-at.result c.args.key.now c.args.value.now c.requires.writable c.requires.room c.in_ok-store_head.ensures.done.keeps c.chunk_at-at.ensures.value

pub store_value-requires-clause-so_far : goal.store_value-requires-clause-so_far
store_value-requires-clause-so_far g c = so_far_is c.args.key.now c.args.value.now c.head_of-head.result c.hash_head-over_head.result c.hash_words.result c.head_of-head.ensures c.hash_head-over_head.ensures c.hash_words.ensures

pub store_value-requires-clause-allowed : goal.store_value-requires-clause-allowed
store_value-requires-clause-allowed g c = may_value_each (g.M.Mem.seen c.args.mem.now) (g.M.Mem.seen c.store_head.new.mem) c.chunk_at-at.result c.head_of-head.result c.args.key.now c.args.value.now c.head_of-head.ensures (subst (λ (n : ℕ). MayStoreEach (g.M.Mem.seen c.args.mem.now) (replacing_stores n c.args.key.now c.args.value.now)) (sym c.chunk_at-at.ensures.value) c.requires.allowed) c.in_ok-store_head.ensures.done

pub returns-in_err-store_value : goal.returns-in_err-store_value
returns-in_err-store_value g c =
    then_err g.M.Mem.seen g.M.Mem.same_rest (λ old now. WritesEach old now (head_stores c.chunk_at-at.result c.head_of-head.result)) (λ old now. Writes old now (value_stores c.chunk_at-at.result c.args.key.now c.args.value.now)) (λ old now. WritesPrefix old now (value_stores c.chunk_at-at.result c.args.key.now c.args.value.now)) (λ old now. Replaces old now c.args.geo.now c.args.place c.args.chunk c.args.key.now c.args.value.now) (λ old now. WritesPrefixEach old now (replacing_stores (chunk_at c.args.geo.now c.args.place c.args.chunk) c.args.key.now c.args.value.now)) _ c.store_head.new.mem c.store_value.new.mem _ c.from_residual-in_err-store_value.result c.from_residual-in_err-store_value.ensures.0 (g.met.M.Mem.rest_transitive _ _ _) (done_by g.M.Mem.seen g.M.Mem.same_rest (λ old now. WritesEach old now (head_stores c.chunk_at-at.result c.head_of-head.result)) Reads _ _ _ c.in_ok-store_head.ensures) c.in_err-store_value.ensures
    (λ heads prefix. subst (λ (n : ℕ). WritesPrefixEach (g.M.Mem.seen c.args.mem.now) (g.M.Mem.seen c.store_value.new.mem) (replacing_stores n c.args.key.now c.args.value.now)) c.chunk_at-at.ensures.value
    (prefix_replaced (g.M.Mem.seen c.args.mem.now) (g.M.Mem.seen c.store_head.new.mem) (g.M.Mem.seen c.store_value.new.mem) c.chunk_at-at.result c.head_of-head.result c.args.key.now c.args.value.now c.head_of-head.ensures heads prefix))

pub returns : goal.returns
returns g c =
    ends_ok g.M.Mem.seen g.M.Mem.same_rest (λ old now. Replaces old now c.args.geo.now c.args.place c.args.chunk c.args.key.now c.args.value.now) (λ old now. WritesPrefixEach old now (replacing_stores (chunk_at c.args.geo.now c.args.place c.args.chunk) c.args.key.now c.args.value.now)) _ c.store_value.new.mem _
    (done_then g.M.Mem.seen g.M.Mem.same_rest (λ old now. WritesEach old now (head_stores c.chunk_at-at.result c.head_of-head.result)) (λ old now. Writes old now (value_stores c.chunk_at-at.result c.args.key.now c.args.value.now)) (λ old now. Replaces old now c.args.geo.now c.args.place c.args.chunk c.args.key.now c.args.value.now) _ c.store_head.new.mem _ (g.met.M.Mem.rest_transitive _ _ _) (done_by g.M.Mem.seen g.M.Mem.same_rest (λ old now. WritesEach old now (head_stores c.chunk_at-at.result c.head_of-head.result)) Reads _ _ _ c.in_ok-store_head.ensures) (done_by g.M.Mem.seen g.M.Mem.same_rest (λ old now. Writes old now (value_stores c.chunk_at-at.result c.args.key.now c.args.value.now)) (λ old now. WritesPrefix old now (value_stores c.chunk_at-at.result c.args.key.now c.args.value.now)) _ _ _ c.in_ok-store_value.ensures)
    (λ heads writes. value_stands (g.M.Mem.seen c.args.mem.now) (g.M.Mem.seen c.store_head.new.mem) (g.M.Mem.seen c.store_value.new.mem) c.args.geo.now c.args.place c.args.chunk c.args.key.now c.args.value.now c.requires.writable.geo_is (λ i. omega (arith, c.type_inv.value i)) c.requires.room
    (subst (λ (n : ℕ). WritesEach (g.M.Mem.seen c.args.mem.now) (g.M.Mem.seen c.store_head.new.mem) (head_stores n (head_of c.args.key.now c.args.value.now))) c.chunk_at-at.ensures.value
    (subst (λ (head : ℕ). WritesEach (g.M.Mem.seen c.args.mem.now) (g.M.Mem.seen c.store_head.new.mem) (head_stores c.chunk_at-at.result head)) c.head_of-head.ensures heads))
    (subst (λ (n : ℕ). Writes (g.M.Mem.seen c.store_head.new.mem) (g.M.Mem.seen c.store_value.new.mem) (value_stores n c.args.key.now c.args.value.now)) c.chunk_at-at.ensures.value writes)))
