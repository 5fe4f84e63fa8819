use Rattle.std.proofs.Common.{ℕ, ◌+◌, arith, ap, sym, ◌∙◌, take, [], ◌∷◌}
use Rattle.std.specs.Int.{to_le_bytes, w64}
use Rattle.cm_geo.proofs.AddressOrder.{segment_limit}
use Rattle.cm_words.specs.Effects.{IsAsBefore}
use Rattle.cm_words.specs.Stores.{Writes, WritesPrefix, store_at}
use Rattle.cm_words.proofs.CallSequences.{done_by, done_then, ends_ok, then_err}
use Rattle.cm_words.proofs.MeterCounts.{survives_reflexive}
use Rattle.cm_words.proofs.StoreLists.{writes_none}
use Rattle.cm_entry.specs.Packing.{hash_on, words_of}
use Rattle.cm_entry.specs.EntryStores.{stores_from}
use Rattle.cm_entry.proofs.Packing.{hash_on_all, hash_on_more, hash_on_none}
use Rattle.cm_entry.proofs.EntryStores.{may_store_next, prefix_next, writes_all, writes_next}
use Rattle.cm_entry.proofs.store.store_bytes.Goals as goal

pub loop-number-init : goal.loop-number-init
loop-number-init g c = record {
  stored = record { rest = g.met.M.Mem.rest_reflexive _; survives = survives_reflexive (g.M.Mem.seen c.args.mem.now).meter; done = writes_none (g.M.Mem.seen c.args.mem.now) };
  hash_is = sym (hash_on_none c.args.bytes.now c.args.state);
}

pub overflow_add-at : goal.overflow_add-at
overflow_add-at g c = omega (arith, segment_limit (g.M.Mem.seen c.args.mem.now).setting.geo, c.requires.room.in_range)

pub store-requires-clause-allowed : goal.store-requires-clause-allowed
store-requires-clause-allowed g c =
    may_store_next (g.M.Mem.seen c.args.mem.now) (g.M.Mem.seen c.loop-number.mem) c.args.at c.loop-number.number c.nth_word-word.result c.args.bytes.now (omega arith) c.nth_word-word.ensures c.requires.allowed c.loop-number.invariant.stored.done

pub returns-in_err-store-clause-stores : goal.returns-in_err-store-clause-stores
returns-in_err-store-clause-stores g c =
    then_err g.M.Mem.seen g.M.Mem.same_rest (λ old now. Writes old now (stores_from c.args.at (take c.loop-number.number (words_of c.args.bytes.now)))) (λ old now. Writes old now (store_at (c.args.at + c.loop-number.number) c.nth_word-word.result ∷ [])) IsAsBefore (λ old now. Writes old now (stores_from c.args.at (words_of c.args.bytes.now))) (λ old now. WritesPrefix old now (stores_from c.args.at (words_of c.args.bytes.now))) _ c.loop-number.mem c.store.new.self _ c.from_residual.result c.from_residual.ensures.0 (g.met.M.Mem.rest_transitive _ _ _) c.loop-number.invariant.stored c.in_err-store.ensures.stores.call
    (λ so_far same. prefix_next (g.M.Mem.seen c.args.mem.now) (g.M.Mem.seen c.loop-number.mem) (g.M.Mem.seen c.store.new.self) c.args.at c.loop-number.number c.args.bytes.now (omega arith) so_far same.reads)

pub loop-number-preserved : goal.loop-number-preserved
loop-number-preserved g c = record {
  stored = done_then g.M.Mem.seen g.M.Mem.same_rest (λ old now. Writes old now (stores_from c.args.at (take c.loop-number.number (words_of c.args.bytes.now)))) (λ old now. Writes old now (store_at (c.args.at + c.loop-number.number) c.nth_word-word.result ∷ [])) (λ old now. Writes old now (stores_from c.args.at (take (c.loop-number.number + 1) (words_of c.args.bytes.now)))) _ c.loop-number.mem _ (g.met.M.Mem.rest_transitive _ _ _) c.loop-number.invariant.stored (done_by g.M.Mem.seen g.M.Mem.same_rest _ IsAsBefore _ _ _ c.in_ok-store.ensures.stores.call)
      (λ so_far next. writes_next (g.M.Mem.seen c.args.mem.now) (g.M.Mem.seen c.loop-number.mem) (g.M.Mem.seen c.store.new.self) c.args.at c.loop-number.number c.nth_word-word.result c.args.bytes.now (omega arith) c.nth_word-word.ensures so_far next);
  hash_is = hash_on_more c.args.bytes.now c.loop-number.number c.args.state c.loop-number.hash c.hash_word-hash.result (omega arith) c.loop-number.invariant.hash_is
      (c.hash_word-hash.ensures ∙ ap (λ (word : ℕ). hash_on c.loop-number.hash (to_le_bytes w64 word)) c.nth_word-word.ensures);
}

pub returns-clause-stores : goal.returns-clause-stores
returns-clause-stores g c =
    ends_ok g.M.Mem.seen g.M.Mem.same_rest (λ old now. Writes old now (stores_from c.args.at (words_of c.args.bytes.now))) (λ old now. WritesPrefix old now (stores_from c.args.at (words_of c.args.bytes.now))) _ c.loop-number.mem _
    (record {
      rest = c.loop-number.invariant.stored.rest;
      survives = c.loop-number.invariant.stored.survives;
      done = writes_all (g.M.Mem.seen c.args.mem.now) (g.M.Mem.seen c.loop-number.mem) c.args.at c.loop-number.number c.args.bytes.now (omega arith) c.loop-number.invariant.stored.done;
    })

pub returns-clause-hash : goal.returns-clause-hash
returns-clause-hash g c = hash_on_all c.args.bytes.now c.loop-number.number c.args.state c.loop-number.hash (λ i. omega (arith, c.type_inv.bytes i)) (omega arith) c.loop-number.invariant.hash_is
