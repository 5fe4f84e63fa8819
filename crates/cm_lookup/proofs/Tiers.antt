-- The slots of a tier as a ring of words, and what stores at slots leave.
use Rattle.std.proofs.Common.{◌≡◌, ◌≢◌, ℕ, ◌+◌, ◌*◌, ◌/◌, ◌%◌, ◌^◌, ◌<◌, List, [], ◌∷◌, length, get_or, set, slice_set, refl, sym, subst, ap, ◌∙◌, arith, inl, inr, None, length-set, get_or-set_same, get_or-set_other, mod-lt}
use Rattle.std.specs.List.{AllByRecursion}
use Rattle.std.proofs.lemmas.Bool.{cases_eq}
use Rattle.std.proofs.lemmas.List.FromFn.{length-map-range_with_len, get_or-map-range_with_len}
use Rattle.std.proofs.lemmas.Grind.{same_number_lists}
use Rattle.cm_geo.specs.declared.geo.Geo.{Geo}
use Rattle.cm_geo.specs.Addresses.{slot_at, words_in_segment}
use Rattle.cm_geo.specs.Hash.{home_in}
use Rattle.cm_geo.proofs.Ranges.{chunks_range}
use Rattle.cm_geo.proofs.AddressOrder.{slot_in_range, slots_behind_head, tier_behind_head}
use Rattle.cm_geo.proofs.AddressesApart.{slots_apart}
use Rattle.cm_plain.specs.Slots.{chunk_of_half, slot_in, word_at}
use Rattle.cm_plain.specs.Lawful.{KeepsSlotLaw, slot_behind, steps_between}
use Rattle.cm_lookup.specs.Rings.{IsRing, KeepsLaw}
use Rattle.cm_words.specs.Stores.{WordStore, after_stores}
use Rattle.cm_lookup.specs.Tiers.{at_slots, ring_of, slot_words}
use Rattle.cm_lookup.proofs.SlotWords.{slot_empty, slot_parts, slot_some}

-- a tier's slots are a ring
pub tier_is_ring : (geo : Geo) → IsRing (ring_of geo)
tier_is_ring geo = record { nonzero = omega (arith, chunks_range geo); inside = λ word. mod-lt (word / 2 ^ 32) (omega (arith, chunks_range geo)) }

-- as many words as slots
pub slot_words_long : (geo : Geo) (words : List ℕ) (place : ℕ) → length (slot_words geo words place) ≡ 2 * geo.chunks
unfolding slot_words
slot_words_long geo words place = length-map-range_with_len (λ slot. word_at words (slot_at geo place slot)) 0 (2 * geo.chunks)

-- the word of a slot
pub slot_words_at : (geo : Geo) (words : List ℕ) (place slot : ℕ) → slot < 2 * geo.chunks → get_or (slot_words geo words place) slot 0 ≡ get_or words (slot_at geo place slot) 0
unfolding slot_words
slot_words_at geo words place slot below = get_or-map-range_with_len (λ slot. word_at words (slot_at geo place slot)) 0 (2 * geo.chunks) slot slot 0 below (omega arith)

-- ---- stores at slots

-- one store at a slot
pub slot_words_set : (geo : Geo) (words : List ℕ) (place slot word : ℕ) → length words ≡ words_in_segment geo → place < geo.tiers → slot < 2 * geo.chunks
    → slot_words geo (slice_set words (slot_at geo place slot) word) place ≡ set (slot_words geo words place) slot word
slot_words_set geo words place slot word length_is place_below below =
    same_number_lists (slot_words geo (slice_set words (slot_at geo place slot) word) place) (set (slot_words geo words place) slot word)
    (slot_words_long geo (slice_set words (slot_at geo place slot) word) place ∙ sym (length-set (slot_words geo words place) slot word ∙ slot_words_long geo words place))
    (λ k k_below. each k (omega (arith, slot_words_long geo (slice_set words (slot_at geo place slot) word) place)))
  where
    each : (k : ℕ) → k < 2 * geo.chunks → get_or (slot_words geo (slice_set words (slot_at geo place slot) word) place) k 0 ≡ get_or (set (slot_words geo words place) slot word) k 0
    each k k_below =
        let in_range : slot_at geo place slot < length words = omega (arith, length_is, slot_in_range geo place slot place_below below) in
        let inside : slot < length (slot_words geo words place) = omega (arith, slot_words_long geo words place) in
        elim (cases_eq k slot) [
          | inl same ↦ subst (λ (i : ℕ). get_or (slot_words geo (slice_set words (slot_at geo place slot) word) place) i 0 ≡ get_or (set (slot_words geo words place) slot word) i 0) (sym same)
              (slot_words_at geo (slice_set words (slot_at geo place slot) word) place slot below ∙ (get_or-set_same words (slot_at geo place slot) word 0 in_range ∙ sym (get_or-set_same (slot_words geo words place) slot word 0 inside)))
          | inr other ↦ slot_words_at geo (slice_set words (slot_at geo place slot) word) place k k_below
              ∙ (get_or-set_other words (slot_at geo place slot) (slot_at geo place k) word 0 (slots_apart geo place place k slot k_below below (λ _. other))
              ∙ (sym (slot_words_at geo words place k k_below) ∙ sym (get_or-set_other (slot_words geo words place) slot k word 0 other)))
        ]

-- the stores are at slots of the ring
abbrev pub AreWithin : ℕ → List WordStore → Type 0
AreWithin size stores = AllByRecursion (λ store. store.at < size) stores

-- stores keep the number of words
pub after_stores_long : (words : List ℕ) (stores : List WordStore) → length (after_stores words stores) ≡ length words
after_stores_long words [] = refl
after_stores_long words (store ∷ stores) = after_stores_long (set words store.at store.word) stores ∙ length-set words store.at store.word

-- stores at slots of a tier, one after the other
pub slot_words_after : (geo : Geo) (words : List ℕ) (place : ℕ) (stores : List WordStore) → length words ≡ words_in_segment geo → place < geo.tiers → AreWithin (2 * geo.chunks) stores
    → slot_words geo (after_stores words (at_slots geo place stores)) place ≡ after_stores (slot_words geo words place) stores
slot_words_after geo words place [] length_is place_below within = refl
slot_words_after geo words place (store ∷ stores) length_is place_below within =
    slot_words_after geo (set words (slot_at geo place store.at) store.word) place stores (length-set words (slot_at geo place store.at) store.word ∙ length_is) place_below within.1
    ∙ ap (λ (ws : List ℕ). after_stores ws stores) (slot_words_set geo words place store.at store.word length_is place_below within.0)

-- a word that is at no slot of the tier is left
pub after_stores_left : (geo : Geo) (words : List ℕ) (place : ℕ) (stores : List WordStore) (at : ℕ) → AreWithin (2 * geo.chunks) stores
    → ((slot : ℕ) → slot < 2 * geo.chunks → at ≢ slot_at geo place slot) → get_or (after_stores words (at_slots geo place stores)) at 0 ≡ get_or words at 0
after_stores_left geo words place [] at within apart = refl
after_stores_left geo words place (store ∷ stores) at within apart =
    after_stores_left geo (set words (slot_at geo place store.at) store.word) place stores at within.1 apart
    ∙ get_or-set_other words (slot_at geo place store.at) at store.word 0 (apart store.at within.0)

-- ---- the slot law

-- of the tier's words from that of its slots
pub law_of_ring : (geo : Geo) (words : List ℕ) (place : ℕ) → KeepsSlotLaw geo words place → KeepsLaw (ring_of geo) (slot_words geo words place)
law_of_ring geo words place law number word below is nonzero steps on_way =
    let there = slot_some geo words place number word (sym (slot_words_at geo words place number below) ∙ is) nonzero in
    let some_ring : 0 < 2 * geo.chunks = omega (arith, chunks_range geo) in
    λ gone. law number (record { fingerprint = word / 2 ^ 32; chunk = chunk_of_half (word % 2 ^ 32) }) below there steps on_way
    ((slot_empty geo words place (slot_behind (2 * geo.chunks) (home_in geo (word / 2 ^ 32)) steps)).1
    (sym (slot_words_at geo words place (slot_behind (2 * geo.chunks) (home_in geo (word / 2 ^ 32)) steps) (mod-lt (home_in geo (word / 2 ^ 32) + steps) some_ring)) ∙ gone))

-- and back
pub law_of_tier : (geo : Geo) (words : List ℕ) (place : ℕ) → KeepsLaw (ring_of geo) (slot_words geo words place) → KeepsSlotLaw geo words place
law_of_tier geo words place law number slot below is steps on_way =
    let parts = slot_parts geo words place number slot is in
    let some_ring : 0 < 2 * geo.chunks = omega (arith, chunks_range geo) in
    λ gone. law number (get_or words (slot_at geo place number) 0) below (slot_words_at geo words place number below) parts.0 steps
    (subst (λ (f : ℕ). steps < steps_between (2 * geo.chunks) (home_in geo f) number) parts.1 on_way)
    (slot_words_at geo words place _ (mod-lt (home_in geo (get_or words (slot_at geo place number) 0 / 2 ^ 32) + steps) some_ring)
    ∙ (slot_empty geo words place _).0 (subst (λ (f : ℕ). slot_in geo words place (slot_behind (2 * geo.chunks) (home_in geo f) steps) ≡ None) parts.1 gone))

-- the address of a slot, counted from that of the tier's first one
pub slot_from_first : (geo : Geo) (place first slot : ℕ) → first ≡ slot_at geo place 0 → first + slot ≡ slot_at geo place slot
unfolding slot_at
slot_from_first geo place first slot first_is = omega arith

-- a slot's word is neither the lock word nor the change number
pub slot_inner : (geo : Geo) (place slot : ℕ) → 1 < slot_at geo place slot
slot_inner geo place slot = omega (arith, slots_behind_head geo place slot, tier_behind_head geo place)
