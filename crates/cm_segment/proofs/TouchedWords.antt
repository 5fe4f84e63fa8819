-- The words that the stores of a run's bits and of an entry touch.
use Rattle.cm_plain.proofs.EntryWords.{words_within}
use Rattle.cm_words.specs.Stores.{store_at}
use Rattle.cm_plain.proofs.Each.{each_append}
use Rattle.cm_entry.specs.EntryStores.{stores_from, entry_stores, value_stores}
use Rattle.std.proofs.Common.{◌≡◌, ℕ, ◌+◌, ◌*◌, ◌/◌, ◌%◌, ◌<◌, ◌≤◌, List, [], ◌∷◌, ◌++◌, length, flat_map, nat_lt, sym, subst, arith, inl, inr}
use Rattle.std.specs.List.{AllByRecursion}
use Rattle.std.proofs.lemmas.Bool.{cases_Bool}
use Rattle.std.proofs.lemmas.Bool.Decides.{nat_tests}
use Rattle.cm_geo.specs.declared.geo.Geo.{Geo}
use Rattle.cm_geo.specs.Addresses.{bits_at, chunk_at}
use Rattle.cm_geo.specs.Need.{need, parts_for}
use Rattle.cm_geo.proofs.Ranges.{chunk_words_range, chunks_whole}
use Rattle.cm_plain.specs.declared.plan.Run.{Run}
use Rattle.cm_plain.specs.Readings.{entry_checksum}
use Rattle.cm_chunks.specs.RunBits.{IsRunIn}
use Rattle.cm_chunks.specs.Turns.{bit_words_of}
use Rattle.cm_entry.specs.Packing.{words_of}
use Rattle.cm_entry.proofs.Packing.{words_len}
use Rattle.cm_segment.specs.Frames.{IsBitWord, IsChunkWord}
use Rattle.cm_segment.proofs.Frames.{IsTouchedAt, touched_bits, touched_chunk}

-- what holds of each of some stores holds of each of the first ones
pub each_front : {X : Type 0} (P : X → Type 0) (made left all : List X) → made ++ left ≡ all → AllByRecursion P all → AllByRecursion P made
each_front {X} P made left all e each = front made left (subst (AllByRecursion P) (sym e) each)
  where
    front : (made left : List X) → AllByRecursion P (made ++ left) → AllByRecursion P made
    front [] left h = tt
    front (x ∷ made) left h = (h.0, front made left h.1)

-- a store of each word in which the bits of a run lie, whatever it stores, touches a word of bits of its tier
pub bits_touched : (geo : Geo) (touched : ℕ → ℕ → Type 0) (run : Run) (word : ℕ → ℕ) → IsRunIn geo run → ((i : ℕ) → IsBitWord geo i → touched run.place i)
    → AllByRecursion (λ store. IsTouchedAt geo touched store.at)
    (flat_map (λ number. store_at (bits_at geo run.place number) (word number) ∷ []) (bit_words_of run))
bits_touched geo touched run word at touches =
    let whole = chunks_whole geo in
    let first = touched_bits geo touched run.place (run.chunk / 64) (omega (arith, whole.1, at.nonzero, at.inside)) touches in
    elim (cases_Bool (nat_lt 64 (run.chunk % 64 + run.chunks))) [
      | inl long ↦
          let over : 64 < run.chunk % 64 + run.chunks = grind (arith, nat_tests) in
          rw long (first, (touched_bits geo touched run.place (run.chunk / 64 + 1) (omega (arith, whole.1, at.within_limit, at.inside)) touches, tt))
      | inr short ↦ rw short (first, tt)
    ]

-- stores one after the other touch so many words
pub from_touched : (geo : Geo) (touched : ℕ → ℕ → Type 0) (at from : ℕ) (ws : List ℕ) (size : ℕ) → from + length ws ≤ size
    → ((j : ℕ) → j < size → IsTouchedAt geo touched (at + j))
    → AllByRecursion (λ store. IsTouchedAt geo touched store.at) (stores_from (at + from) ws)
from_touched geo touched at from [] size within each = tt
from_touched geo touched at from (w ∷ ws) size within each =
    let e : at + (from + 1) ≡ at + from + 1 = omega arith in (
      each from (omega arith),
      subst (λ (n : ℕ). AllByRecursion (λ store. IsTouchedAt geo touched store.at) (stores_from n ws)) e
          (from_touched geo touched at (from + 1) ws size (omega arith) each),
    )

-- the stores of an entry touch words of its run
pub entry_touched : (geo : Geo) (touched : ℕ → ℕ → Type 0) (place chunk chunks : ℕ) (key value : List ℕ) → chunks ≡ need geo (length key) (length value)
    → chunk + chunks ≤ geo.chunks → ((i : ℕ) → IsChunkWord geo chunk chunks i → touched place i)
    → AllByRecursion (λ store. IsTouchedAt geo touched store.at) (entry_stores (chunk_at geo place chunk) key value)
unfolding entry_stores value_stores
entry_touched geo touched place chunk chunks key value size inside touches =
    let at : ℕ = chunk_at geo place chunk in
    let pk : ℕ = parts_for 8 (length key) in
    let pv : ℕ = parts_for 8 (length value) in
    let some : 1 ≤ geo.chunk_words = omega (arith, (chunk_words_range geo).0) in
    let enough : 2 + pk + pv ≤ chunks * geo.chunk_words = rw size (words_within (2 + pk + pv) geo.chunk_words some) in
    let each : (j : ℕ) → j < 2 + pk + pv → IsTouchedAt geo touched (at + j) =
    λ j below. touched_chunk geo touched place chunk chunks j inside (below_all j pk pv (chunks * geo.chunk_words) enough below) touches in (
      subst (λ (n : ℕ). IsTouchedAt geo touched n) (nothing at) (each 0 (some_of pk pv)),
      each_append (λ store. IsTouchedAt geo touched store.at) (stores_from (at + 2) (words_of key))
          (stores_from (at + 2 + pk) (words_of value) ++ store_at (at + 1) (entry_checksum key value) ∷ [])
          (from_touched geo touched at 2 (words_of key) (2 + pk + pv) (rw (words_len key) (first_of pk pv)) each)
          (each_append (λ store. IsTouchedAt geo touched store.at) (stores_from (at + 2 + pk) (words_of value))
          (store_at (at + 1) (entry_checksum key value) ∷ [])
          (subst (λ (n : ℕ). AllByRecursion (λ store. IsTouchedAt geo touched store.at) (stores_from n (words_of value))) (both at pk)
          (from_touched geo touched at (2 + pk) (words_of value) (2 + pk + pv) (rw (words_len value) (second_of pk pv)) each))
          (each 1 (one_of pk pv), tt)),
    )
  where
    below_all : (j pk pv size : ℕ) → 2 + pk + pv ≤ size → j < 2 + pk + pv → j < size
    below_all j pk pv size h b = omega arith

    nothing : (at : ℕ) → at + 0 ≡ at
    nothing at = omega arith

    some_of : (pk pv : ℕ) → 0 < 2 + pk + pv
    some_of pk pv = omega arith

    one_of : (pk pv : ℕ) → 1 < 2 + pk + pv
    one_of pk pv = omega arith

    first_of : (pk pv : ℕ) → 2 + pk ≤ 2 + pk + pv
    first_of pk pv = omega arith

    second_of : (pk pv : ℕ) → 2 + pk + pv ≤ 2 + pk + pv
    second_of pk pv = omega arith

    both : (at pk : ℕ) → at + (2 + pk) ≡ at + 2 + pk
    both at pk = omega arith
