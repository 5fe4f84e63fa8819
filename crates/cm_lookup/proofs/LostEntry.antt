-- Which slots a tier has after a slot was removed from it.
use Rattle.std.proofs.Common.{◌≡◌, ◌≢◌, ℕ, ◌+◌, ◌*◌, ◌/◌, ◌%◌, ◌^◌, ◌<◌, ◌↔◌, List, length, get_or, set, refl, sym, ap, ◌∙◌, arith, Some, Contains, IsPermutation, length-set, get_or-set_same, get_or-set_other}
use Rattle.std.proofs.lemmas.List.Sorted.{Contains-permutation, IsPermutation-sym}
use Rattle.cm_geo.specs.declared.geo.Geo.{Geo}
use Rattle.cm_geo.specs.Addresses.{slot_at}
use Rattle.cm_geo.specs.Hash.{fingerprint_in, hash}
use Rattle.cm_geo.proofs.Ranges.{chunks_range}
use Rattle.cm_plain.specs.Slots.{IsPointedOnce, Points, Slot, slot_for, slot_in}
use Rattle.cm_lookup.specs.Rings.{occupied_words}
use Rattle.cm_lookup.specs.Shifts.{IsShift}
use Rattle.cm_words.specs.Stores.{WordStore, after_stores}
use Rattle.cm_lookup.specs.Tiers.{at_slots, ring_of, slot_word, slot_words}
use Rattle.cm_lookup.proofs.RingMembers.{IsIn, word_of_slot, word_taken}
use Rattle.cm_lookup.proofs.SingleSlot.{StandsOnce, once_emptied, once_moved}
use Rattle.cm_lookup.proofs.RemovalFrame.{IsTier, slot_from_word, tier_is_table, whole_within, word_to_slot}
use Rattle.cm_lookup.proofs.Shifting.{rearranged}
use Rattle.cm_lookup.proofs.Tiers.{slot_words_after, slot_words_at, slot_words_long}
use Rattle.cm_lookup.proofs.SlotWords.{half_chunk, slot_of_slot_word, slot_parts}

-- the words of the slots are those of the other slots before, in another order
pub record Rearranged (geo : Geo) (before now : List ℕ) (place slot : ℕ) : Type 0 where
  pub inside : slot < 2 * geo.chunks
  pub others : IsPermutation (occupied_words (set (slot_words geo before place) slot 0)) (occupied_words (slot_words geo now place))

-- after the whole shift they are
pub shift_rearranges : (geo : Geo) (words : List ℕ) (place slot : ℕ) (stores : List WordStore) → IsTier geo words place slot → IsShift (ring_of geo) (slot_words geo words place) slot stores
    → Rearranged geo words (after_stores words (at_slots geo place stores)) place slot
shift_rearranges geo words place slot stores tier whole =
    let table = tier_is_table geo words place slot tier in
    let now_is : slot_words geo (after_stores words (at_slots geo place stores)) place ≡ after_stores (slot_words geo words place) stores =
    slot_words_after geo words place stores tier.length_is tier.place_inside (whole_within (ring_of geo) (slot_words geo words place) slot stores table.ring_is.nonzero whole) in
    record { inside = tier.slot_inside; others = rw now_is (rearranged (ring_of geo) (slot_words geo words place) slot stores table whole) }

-- each other slot still stands in the tier
pub lost_still_there : (geo : Geo) (before now : List ℕ) (place slot number : ℕ) (seen : Slot) → Rearranged geo before now place slot → number < 2 * geo.chunks → number ≢ slot → slot_in geo before place number ≡ Some seen
    → (other : ℕ) × (other < 2 * geo.chunks) × (slot_in geo now place other ≡ Some seen)
lost_still_there geo before now place slot number seen moved below apart is =
    let word : ℕ = get_or before (slot_at geo place number) 0 in
    let long : length (set (slot_words geo before place) slot 0) ≡ 2 * geo.chunks = length-set (slot_words geo before place) slot 0 ∙ slot_words_long geo before place in
    let nonzero = (slot_parts geo before place number seen is).0 in
    let was : Contains (occupied_words (set (slot_words geo before place) slot 0)) (get_or before (slot_at geo place number) 0) =
    word_taken (set (slot_words geo before place) slot 0) number (get_or before (slot_at geo place number) 0) (omega (arith, long, below))
    (get_or-set_other (slot_words geo before place) slot number 0 0 apart ∙ slot_words_at geo before place number below) nonzero in
    let found : IsIn (slot_words geo now place) (get_or before (slot_at geo place number) 0) =
    word_of_slot (slot_words geo now place) (get_or before (slot_at geo place number) 0) (Contains-permutation _ _ (get_or before (slot_at geo place number) 0) moved.others was) in
    let found_below : found.0 < 2 * geo.chunks = omega (arith, found.1, slot_words_long geo now place) in (
      found.0,
      found_below,
      word_to_slot geo now place found.0 seen (get_or before (slot_at geo place number) 0) (slot_from_word geo before place number seen (get_or before (slot_at geo place number) 0) is refl)
          (sym (slot_words_at geo now place found.0 found_below) ∙ found.2),
    )

-- each slot that stands in the tier stood there before, and is another than the removed one
pub lost_stood_before : (geo : Geo) (before now : List ℕ) (place slot number : ℕ) (seen : Slot) → Rearranged geo before now place slot → number < 2 * geo.chunks → slot_in geo now place number ≡ Some seen
    → (other : ℕ) × (other < 2 * geo.chunks) × (other ≢ slot) × (slot_in geo before place other ≡ Some seen)
lost_stood_before geo before now place slot number seen moved below is =
    let nonzero = (slot_parts geo now place number seen is).0 in
    let stands : Contains (occupied_words (slot_words geo now place)) (get_or now (slot_at geo place number) 0) =
    word_taken (slot_words geo now place) number (get_or now (slot_at geo place number) 0) (omega (arith, below, slot_words_long geo now place)) (slot_words_at geo now place number below) nonzero in
    let found : IsIn (set (slot_words geo before place) slot 0) (get_or now (slot_at geo place number) 0) =
    word_of_slot (set (slot_words geo before place) slot 0) (get_or now (slot_at geo place number) 0) (Contains-permutation _ _ (get_or now (slot_at geo place number) 0) (IsPermutation-sym _ _ moved.others) stands) in
    let inside : slot < length (slot_words geo before place) = omega (arith, moved.inside, slot_words_long geo before place) in
    let apart : found.0 ≢ slot =
    λ same. nonzero (sym found.2 ∙ (ap (λ (k : ℕ). get_or (set (slot_words geo before place) slot 0) k 0) same ∙ get_or-set_same (slot_words geo before place) slot 0 0 inside)) in
    let found_below : found.0 < 2 * geo.chunks = omega (arith, found.1, length-set (slot_words geo before place) slot 0, slot_words_long geo before place) in (
      found.0,
      found_below,
      apart,
      word_to_slot geo before place found.0 seen (get_or now (slot_at geo place number) 0) (slot_from_word geo now place number seen (get_or now (slot_at geo place number) 0) is refl)
          (sym (slot_words_at geo before place found.0 found_below) ∙ (sym (get_or-set_other (slot_words geo before place) slot found.0 0 0 apart) ∙ found.2)),
    )

-- ---- just one slot

-- a slot points to a chunk for a key just where its word is that of the two
pub points_by_word : (geo : Geo) (words : List ℕ) (place : ℕ) (key : List ℕ) (chunk number : ℕ) → chunk + 1 < 2 ^ 32 → number < 2 * geo.chunks
    → Points geo words place key chunk number ↔ (get_or words (slot_at geo place number) 0 ≡ slot_word (fingerprint_in geo (hash key)) chunk)
points_by_word geo words place key chunk number small below = (forth, back)
  where
    forth : Points geo words place key chunk number → get_or words (slot_at geo place number) 0 ≡ slot_word (fingerprint_in geo (hash key)) chunk
    forth points =
        let parts = slot_parts geo words place number (slot_for geo key chunk) points.slot_is in
        whole (get_or words (slot_at geo place number) 0) (fingerprint_in geo (hash key)) chunk parts.1 ((half_chunk (get_or words (slot_at geo place number) 0 % 2 ^ 32) chunk).0 (sym parts.2))
      where
        whole : (word fingerprint chunk : ℕ) → fingerprint ≡ word / 2 ^ 32 → word % 2 ^ 32 ≡ chunk + 1 → word ≡ fingerprint * 2 ^ 32 + chunk + 1
        whole word fingerprint chunk upper lower = omega arith

    back : get_or words (slot_at geo place number) 0 ≡ slot_word (fingerprint_in geo (hash key)) chunk → Points geo words place key chunk number
    back e = record { inside = below; slot_is = word_to_slot geo words place number (slot_for geo key chunk) (slot_word (fingerprint_in geo (hash key)) chunk) (slot_of_slot_word (fingerprint_in geo (hash key)) chunk small) e }

-- an entry that has just one slot still has, where that isn't the removed one
pub lost_pointed_once : (geo : Geo) (before now : List ℕ) (place slot : ℕ) (key : List ℕ) (chunk : ℕ) → Rearranged geo before now place slot → chunk < geo.chunks → slot_in geo before place slot ≢ Some (slot_for geo key chunk)
    → IsPointedOnce geo before place key chunk → IsPointedOnce geo now place key chunk
lost_pointed_once geo before now place slot key chunk moved chunk_below apart pointed =
    let word : ℕ = slot_word (fingerprint_in geo (hash key)) chunk in
    let small : chunk + 1 < 2 ^ 32 = omega (arith, chunks_range geo, chunk_below) in
    let nonzero : slot_word (fingerprint_in geo (hash key)) chunk ≢ 0 = omega arith in
    let inside : slot < length (slot_words geo before place) = omega (arith, moved.inside, slot_words_long geo before place) in
    let once : StandsOnce (slot_words geo before place) (slot_word (fingerprint_in geo (hash key)) chunk) = record {
      number = pointed.0;
      below = omega (arith, pointed.1.inside, slot_words_long geo before place);
      here = slot_words_at geo before place pointed.0 pointed.1.inside ∙ (points_by_word geo before place key chunk pointed.0 small pointed.1.inside).0 pointed.1;
      only = λ other below is. (let other_below : other < 2 * geo.chunks = omega (arith, below, slot_words_long geo before place) in
          pointed.2 other ((points_by_word geo before place key chunk other small other_below).1 (sym (slot_words_at geo before place other other_below) ∙ is)));
    } in
    let differs : get_or (slot_words geo before place) slot 0 ≢ slot_word (fingerprint_in geo (hash key)) chunk =
    λ is. apart ((points_by_word geo before place key chunk slot small moved.inside).1 (sym (slot_words_at geo before place slot moved.inside) ∙ is)).slot_is in
    let still : StandsOnce (slot_words geo now place) (slot_word (fingerprint_in geo (hash key)) chunk) =
    once_moved (slot_word (fingerprint_in geo (hash key)) chunk) (set (slot_words geo before place) slot 0) (slot_words geo now place) moved.others nonzero
    (once_emptied (slot_word (fingerprint_in geo (hash key)) chunk) slot (slot_words geo before place) inside nonzero differs once) in
    let still_below : still.number < 2 * geo.chunks = omega (arith, still.below, slot_words_long geo now place) in (
      still.number,
      (points_by_word geo now place key chunk still.number small still_below).1 (sym (slot_words_at geo now place still.number still_below) ∙ still.here),
      λ other points. still.only other (omega (arith, points.inside, slot_words_long geo now place))
          (slot_words_at geo now place other points.inside ∙ (points_by_word geo now place key chunk other small points.inside).0 points),
    )
