-- What one store leaves of the slots of tiers.
use Rattle.std.proofs.Common.{◌≡◌, ◌≢◌, ℕ, ◌+◌, ◌*◌, ◌/◌, ◌%◌, ◌^◌, ◌<◌, List, ◌∷◌, length, get_or, set, slice_set, mod-lt, sym, subst, ap, ◌∙◌, arith, inl, inr, Some, None, IsPermutation, length-set, set-set, get_or-set_same, get_or-set_other}
use Rattle.std.proofs.lemmas.Bool.{cases_eq}
use Rattle.std.proofs.lemmas.List.{set-get_or}
use Rattle.cm_geo.specs.declared.geo.Geo.{Geo}
use Rattle.cm_geo.specs.Addresses.{bits_at, chunk_at, slot_at, tier_at, words_in_segment}
use Rattle.cm_geo.specs.Hash.{home_in}
use Rattle.cm_geo.proofs.Ranges.{chunks_range}
use Rattle.cm_geo.proofs.AddressOrder.{slot_in_range}
use Rattle.cm_geo.proofs.Unchanged.{slot_kept_by_bits, slot_kept_by_chunk_word, slot_kept_by_slot, slot_kept_by_tier_head}
use Rattle.cm_plain.specs.Slots.{Slot, slot_in, slot_of_word}
use Rattle.cm_plain.specs.Lawful.{KeepsSlotLaw, steps_between}
use Rattle.cm_lookup.specs.Probing.{IsFirstEmpty, probe}
use Rattle.cm_lookup.specs.Rings.{Ring, KeepsLaw, ring_steps, word_behind, occupied_words}
use Rattle.cm_lookup.specs.Tiers.{ring_of, slot_word, slot_words}
use Rattle.cm_lookup.proofs.RingArithmetic.{ring_steps-ring_slot}
use Rattle.cm_lookup.proofs.OccupiedWords.{taken_off}
use Rattle.cm_lookup.proofs.Finding.{probe_below}
use Rattle.cm_lookup.proofs.Tiers.{law_of_ring, law_of_tier, slot_words_at, slot_words_long, slot_words_set}
use Rattle.cm_lookup.proofs.SlotWords.{slot_empty, slot_of_slot_word}

-- ---- which slots a store leaves

-- a slot whose word is as before is as before
pub same_slot : (geo : Geo) (before now : List ℕ) (place number : ℕ) → get_or now (slot_at geo place number) 0 ≡ get_or before (slot_at geo place number) 0 → slot_in geo now place number ≡ slot_in geo before place number
unfolding slot_in
same_slot geo before now place number e = ap slot_of_word e

-- a store at a head word of a tier leaves all slots
pub slot_in_kept_by_tier_head : (geo : Geo) (words : List ℕ) (p q i number at word : ℕ) → at ≡ tier_at geo p + i → i < 4 → number < 2 * geo.chunks → slot_in geo (slice_set words at word) q number ≡ slot_in geo words q number
slot_in_kept_by_tier_head geo words p q i number at word is i_below below = same_slot geo words (slice_set words at word) q number (slot_kept_by_tier_head geo words p q i number at word is i_below below)

-- so does one at a word of bits
pub slot_in_kept_by_bits : (geo : Geo) (words : List ℕ) (p q i number at word : ℕ) → at ≡ bits_at geo p i → i < geo.chunks / 64 → number < 2 * geo.chunks → slot_in geo (slice_set words at word) q number ≡ slot_in geo words q number
slot_in_kept_by_bits geo words p q i number at word is i_below below = same_slot geo words (slice_set words at word) q number (slot_kept_by_bits geo words p q i number at word is i_below below)

-- and one at a word of a chunk
pub slot_in_kept_by_chunk_word : (geo : Geo) (words : List ℕ) (p q c i number at word : ℕ) → at ≡ chunk_at geo p c + i → c * geo.chunk_words + i < geo.chunks * geo.chunk_words → number < 2 * geo.chunks
    → slot_in geo (slice_set words at word) q number ≡ slot_in geo words q number
slot_in_kept_by_chunk_word geo words p q c i number at word is i_below below = same_slot geo words (slice_set words at word) q number (slot_kept_by_chunk_word geo words p q c i number at word is i_below below)

-- one at a slot leaves the other slots
pub slot_in_kept_by_slot : (geo : Geo) (words : List ℕ) (p q i number at word : ℕ) → at ≡ slot_at geo p i → i < 2 * geo.chunks → number < 2 * geo.chunks → (q ≡ p → number ≢ i)
    → slot_in geo (slice_set words at word) q number ≡ slot_in geo words q number
slot_in_kept_by_slot geo words p q i number at word is i_below below differ = same_slot geo words (slice_set words at word) q number (slot_kept_by_slot geo words p q i number at word is i_below below differ)

-- and stores its word there
pub slot_in_stored : (geo : Geo) (words : List ℕ) (place number word : ℕ) → length words ≡ words_in_segment geo → place < geo.tiers → number < 2 * geo.chunks
    → slot_in geo (slice_set words (slot_at geo place number) word) place number ≡ slot_of_word word
unfolding slot_in
slot_in_stored geo words place number word length_is place_below below =
    ap slot_of_word (get_or-set_same words (slot_at geo place number) word 0 (omega (arith, length_is, slot_in_range geo place number place_below below)))

-- the slot of a fingerprint and a chunk
pub slot_put : (geo : Geo) (words : List ℕ) (place number fingerprint chunk : ℕ) → length words ≡ words_in_segment geo → place < geo.tiers → number < 2 * geo.chunks → chunk < geo.chunks
    → slot_in geo (slice_set words (slot_at geo place number) (slot_word fingerprint chunk)) place number ≡ Some (record { fingerprint = fingerprint; chunk = Some chunk })
slot_put geo words place number fingerprint chunk length_is place_below below chunk_below =
    slot_in_stored geo words place number (slot_word fingerprint chunk) length_is place_below below
    ∙ slot_of_slot_word fingerprint chunk (omega (arith, chunks_range geo, chunk_below))

-- ---- the slot law after a word was put

-- in a ring, at a slot to which no slot from the word's home on is empty
law_put : (ring : Ring) (slots : List ℕ) (at word : ℕ) → at < length slots → word ≢ 0 → KeepsLaw ring slots
    → ((steps : ℕ) → steps < ring_steps ring (ring.home word) at → word_behind ring slots (ring.home word) steps ≢ 0) → KeepsLaw ring (set slots at word)
law_put ring slots at word inside nonzero law reached number other below is other_some steps on_way = elim (cases_eq number at) [
  | inl same ↦
      let word_is : other ≡ word = sym is ∙ (ap (λ (k : ℕ). get_or (set slots at word) k 0) same ∙ get_or-set_same slots at word 0 inside) in
      let on_it : steps < ring_steps ring (ring.home word) at = subst (λ (k : ℕ). steps < ring_steps ring (ring.home word) k) same (subst (λ (w : ℕ). steps < ring_steps ring (ring.home w) number) word_is on_way) in
      subst (λ (w : ℕ). word_behind ring (set slots at word) (ring.home w) steps ≢ 0) (sym word_is) (still (ring.home word) (reached steps on_it))
  | inr apart ↦ still (ring.home other) (law number other below (sym (get_or-set_other slots at number word 0 apart) ∙ is) other_some steps on_way)
]
  where
    still : (home : ℕ) → word_behind ring slots home steps ≢ 0 → word_behind ring (set slots at word) home steps ≢ 0
    still home full empty = elim (cases_eq ((home + steps) % ring.size) at) [
      | inl same ↦ nonzero (sym (get_or-set_same slots at word 0 inside) ∙ (ap (λ (k : ℕ). get_or (set slots at word) k 0) (sym same) ∙ empty))
      | inr apart ↦ full (sym (get_or-set_other slots at ((home + steps) % ring.size) word 0 apart) ∙ empty)
    ]

-- in a tier
pub slot_law_put : (geo : Geo) (words : List ℕ) (place number word : ℕ) → length words ≡ words_in_segment geo → place < geo.tiers → number < 2 * geo.chunks → word ≢ 0 → KeepsSlotLaw geo words place
    → ((steps : ℕ) → steps < steps_between (2 * geo.chunks) (home_in geo (word / 2 ^ 32)) number → slot_in geo words place (probe geo (word / 2 ^ 32) steps) ≢ None)
    → KeepsSlotLaw geo (slice_set words (slot_at geo place number) word) place
slot_law_put geo words place number word length_is place_below below nonzero law reached =
    law_of_tier geo (slice_set words (slot_at geo place number) word) place
    (rw (slot_words_set geo words place number word length_is place_below below)
    (law_put (ring_of geo) (slot_words geo words place) number word (omega (arith, slot_words_long geo words place)) nonzero (law_of_ring geo words place law)
    (λ steps on_way empty. reached steps on_way ((slot_empty geo words place (probe geo (word / 2 ^ 32) steps)).1 (sym (slot_words_at geo words place (probe geo (word / 2 ^ 32) steps) (probe_below geo (word / 2 ^ 32) steps)) ∙ empty)))))

-- the upper half of a slot's word is its fingerprint
upper_of_slot_word : (geo : Geo) (fingerprint chunk : ℕ) → chunk < geo.chunks → slot_word fingerprint chunk / 2 ^ 32 ≡ fingerprint
upper_of_slot_word geo fingerprint chunk below = small fingerprint chunk (omega (arith, chunks_range geo, below))
  where
    small : (fingerprint chunk : ℕ) → chunk < 4096 → (fingerprint * 2 ^ 32 + chunk + 1) / 2 ^ 32 ≡ fingerprint
    small fingerprint chunk h = omega arith

-- at the first empty slot from the fingerprint's home on
pub slot_law_put_first : (geo : Geo) (words : List ℕ) (place number fingerprint chunk : ℕ) → length words ≡ words_in_segment geo → place < geo.tiers → chunk < geo.chunks → KeepsSlotLaw geo words place
    → IsFirstEmpty geo words place fingerprint number → KeepsSlotLaw geo (slice_set words (slot_at geo place number) (slot_word fingerprint chunk)) place
slot_law_put_first geo words place number fingerprint chunk length_is place_below chunk_below law first =
    let nonzero : 0 < 2 * geo.chunks = omega (arith, chunks_range geo) in
    let below : number < 2 * geo.chunks = subst (λ (k : ℕ). k < 2 * geo.chunks) (sym first.slot_is) (probe_below geo fingerprint first.steps) in
    let upper : slot_word fingerprint chunk / 2 ^ 32 ≡ fingerprint = upper_of_slot_word geo fingerprint chunk chunk_below in
    let ring_steps_is : steps_between (2 * geo.chunks) (home_in geo fingerprint) number ≡ first.steps =
    ap (steps_between (2 * geo.chunks) (home_in geo fingerprint)) first.slot_is ∙ ring_steps-ring_slot (ring_of geo) (home_in geo fingerprint) first.steps (mod-lt fingerprint nonzero) first.inside in
    slot_law_put geo words place number (slot_word fingerprint chunk) length_is place_below below (omega arith) law
    (subst (λ (f : ℕ). (steps : ℕ) → steps < steps_between (2 * geo.chunks) (home_in geo f) number → slot_in geo words place (probe geo f steps) ≢ None) (sym upper)
    (λ steps on_way. first.before steps (omega (arith, on_way, ring_steps_is))))

-- over a slot of the same fingerprint
pub slot_law_put_over : (geo : Geo) (words : List ℕ) (place number fingerprint chunk : ℕ) (slot : Slot) → length words ≡ words_in_segment geo → place < geo.tiers → number < 2 * geo.chunks → chunk < geo.chunks → KeepsSlotLaw geo words place
    → slot_in geo words place number ≡ Some slot → slot.fingerprint ≡ fingerprint → KeepsSlotLaw geo (slice_set words (slot_at geo place number) (slot_word fingerprint chunk)) place
slot_law_put_over geo words place number fingerprint chunk slot length_is place_below below chunk_below law is same =
    let upper : slot_word fingerprint chunk / 2 ^ 32 ≡ fingerprint = upper_of_slot_word geo fingerprint chunk chunk_below in
    slot_law_put geo words place number (slot_word fingerprint chunk) length_is place_below below (omega arith) law
    (subst (λ (f : ℕ). (steps : ℕ) → steps < steps_between (2 * geo.chunks) (home_in geo f) number → slot_in geo words place (probe geo f steps) ≢ None) (same ∙ sym upper) (law number slot below is))

-- ---- the words of the slots after a word was put

-- in an empty slot: it is one word more
pub word_put : (geo : Geo) (words : List ℕ) (place number word : ℕ) → length words ≡ words_in_segment geo → place < geo.tiers → number < 2 * geo.chunks → slot_in geo words place number ≡ None → word ≢ 0
    → IsPermutation (occupied_words (slot_words geo (slice_set words (slot_at geo place number) word) place)) (word ∷ occupied_words (slot_words geo words place))
word_put geo words place number word length_is place_below below empty nonzero =
    let slots : List ℕ = slot_words geo words place in
    let inside : number < length (slot_words geo words place) = omega (arith, slot_words_long geo words place) in
    let none : get_or (slot_words geo words place) number 0 ≡ 0 = slot_words_at geo words place number below ∙ (slot_empty geo words place number).0 empty in
    let back : set (set (slot_words geo words place) number word) number 0 ≡ slot_words geo words place =
    set-set (slot_words geo words place) number word 0 ∙ (ap (set (slot_words geo words place) number) (sym none) ∙ set-get_or (slot_words geo words place) number 0) in
    let off = taken_off (set (slot_words geo words place) number word) number word (omega (arith, length-set (slot_words geo words place) number word)) (get_or-set_same (slot_words geo words place) number word 0 inside) nonzero in
    rw (slot_words_set geo words place number word length_is place_below below) (subst (λ (ws : List ℕ). IsPermutation (occupied_words (set (slot_words geo words place) number word)) (word ∷ occupied_words ws)) back off)
