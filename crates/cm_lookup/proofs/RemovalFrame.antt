-- What the shift of a removal leaves of a tier and of the other words.
use Rattle.std.proofs.Common.{◌≡◌, ◌≢◌, ℕ, ◌+◌, ◌*◌, ◌/◌, ◌<◌, List, length, get_or, refl, sym, subst, ap, ◌∙◌, arith, Some, None}
use Rattle.cm_geo.specs.declared.geo.Geo.{Geo}
use Rattle.cm_geo.specs.Addresses.{bits_at, chunk_at, slot_at, tier_at, words_in_segment}
use Rattle.cm_geo.proofs.AddressesApart.{run_not_slot, slot_not_bits, slot_not_tier_head, slots_apart}
use Rattle.cm_plain.specs.Slots.{Slot, slot_in, slot_of_word, word_at}
use Rattle.cm_plain.proofs.Each.{each_append}
use Rattle.cm_plain.specs.Lawful.{KeepsSlotLaw}
use Rattle.cm_lookup.specs.Rings.{Ring}
use Rattle.cm_lookup.specs.Shifts.{IsShift, Shift}
use Rattle.cm_words.specs.Stores.{WordStore, after_stores}
use Rattle.cm_lookup.specs.Shifts.Shift.{begins, stays, moves}
use Rattle.cm_lookup.specs.Tiers.{HasEmptySlot, LostSlot, at_slots, ring_of, slot_words}
use Rattle.cm_lookup.proofs.RingArithmetic.{ring_slot_below}
use Rattle.cm_lookup.proofs.Shifting.{IsTable, removed, shifting}
use Rattle.cm_lookup.proofs.RingMembers.{still_there, stood_before}
use Rattle.cm_lookup.proofs.ShiftEnd.{HasEnded, shift_ends}
use Rattle.cm_lookup.proofs.SlotWords.{slot_empty, slot_parts}
use Rattle.cm_lookup.proofs.Tiers.{AreWithin, after_stores_left, law_of_ring, law_of_tier, slot_words_after, slot_words_at, slot_words_long, tier_is_ring}

-- a slot of a tier in the words of a segment
pub record IsTier (geo : Geo) (words : List ℕ) (place slot : ℕ) : Type 0 where
  pub length_is : length words ≡ words_in_segment geo
  pub place_inside : place < geo.tiers
  pub slot_inside : slot < 2 * geo.chunks

-- its slots as a ring
pub tier_is_table : (geo : Geo) (words : List ℕ) (place slot : ℕ) → IsTier geo words place slot → IsTable (ring_of geo) (slot_words geo words place) slot
tier_is_table geo words place slot tier = record {
  ring_is = tier_is_ring geo;
  long = slot_words_long geo words place;
  inside = tier.slot_inside;
}

-- a slot that isn't empty, as a word
pub some_in_ring : (geo : Geo) (words : List ℕ) (place slot : ℕ) → slot < 2 * geo.chunks → slot_in geo words place slot ≢ None → get_or (slot_words geo words place) slot 0 ≢ 0
some_in_ring geo words place slot inside nonzero empty = nonzero ((slot_empty geo words place slot).1 (sym (slot_words_at geo words place slot inside) ∙ empty))

-- ---- where the stores are

-- each store of a shift is at a slot
pub shift_within : (ring : Ring) (slots : List ℕ) (slot hole steps : ℕ) (made : List WordStore) → 0 < ring.size → Shift ring slots slot hole steps made → AreWithin ring.size made
shift_within ring slots slot hole steps made nonzero begins = tt
shift_within ring slots slot hole steps made nonzero (stays h s m shift below full stay) = shift_within ring slots slot h s m nonzero shift
shift_within ring slots slot hole steps made nonzero (moves h s m shift below full fuse) =
    each_append (λ (store : WordStore). store.at < ring.size) m _ (shift_within ring slots slot h s m nonzero shift) (ring_slot_below ring slot h nonzero, tt)

pub whole_within : (ring : Ring) (slots : List ℕ) (slot : ℕ) (stores : List WordStore) → 0 < ring.size → IsShift ring slots slot stores → AreWithin ring.size stores
whole_within ring slots slot stores nonzero whole =
    subst (AreWithin ring.size) (sym whole.stores_are)
    (each_append (λ (store : WordStore). store.at < ring.size) whole.made _ (shift_within ring slots slot whole.hole whole.steps whole.made nonzero whole.shift) (ring_slot_below ring slot whole.hole nonzero, tt))

-- they leave the head words of tiers
pub heads_left : (geo : Geo) (words : List ℕ) (place other word : ℕ) (stores : List WordStore) → AreWithin (2 * geo.chunks) stores → word < 4
    → get_or (after_stores words (at_slots geo place stores)) (tier_at geo other + word) 0 ≡ get_or words (tier_at geo other + word) 0
heads_left geo words place other word stores within below =
    after_stores_left geo words place stores (tier_at geo other + word) within (λ slot slot_below e. slot_not_tier_head geo place other slot word slot_below below (sym e))

-- words of bits
pub bits_left : (geo : Geo) (words : List ℕ) (place other word : ℕ) (stores : List WordStore) → AreWithin (2 * geo.chunks) stores → word < geo.chunks / 64
    → get_or (after_stores words (at_slots geo place stores)) (bits_at geo other word) 0 ≡ get_or words (bits_at geo other word) 0
bits_left geo words place other word stores within below =
    after_stores_left geo words place stores (bits_at geo other word) within (λ slot slot_below e. slot_not_bits geo place other slot word slot_below below (sym e))

-- the slots of other tiers
pub slots_left : (geo : Geo) (words : List ℕ) (place other number : ℕ) (stores : List WordStore) → AreWithin (2 * geo.chunks) stores → number < 2 * geo.chunks → other ≢ place
    → get_or (after_stores words (at_slots geo place stores)) (slot_at geo other number) 0 ≡ get_or words (slot_at geo other number) 0
slots_left geo words place other number stores within below differs =
    after_stores_left geo words place stores (slot_at geo other number) within (λ slot slot_below e. slots_apart geo other place number slot below slot_below (λ same. absurd (differs same)) e)

-- and words of chunks
pub chunks_left : (geo : Geo) (words : List ℕ) (place other chunk word : ℕ) (stores : List WordStore) → AreWithin (2 * geo.chunks) stores → chunk < geo.chunks → word < geo.chunk_words
    → get_or (after_stores words (at_slots geo place stores)) (chunk_at geo other chunk + word) 0 ≡ get_or words (chunk_at geo other chunk + word) 0
chunks_left geo words place other chunk word stores within chunk_below below =
    after_stores_left geo words place stores (chunk_at geo other chunk + word) within
    (λ slot slot_below e. run_not_slot geo other place chunk 1 word slot (omega arith) (omega arith) slot_below e)

-- ---- after the whole shift

-- the tier lost just the removed slot
pub lost_slot : (geo : Geo) (words : List ℕ) (place slot : ℕ) (stores : List WordStore) → IsTier geo words place slot → slot_in geo words place slot ≢ None → KeepsSlotLaw geo words place → IsShift (ring_of geo) (slot_words geo words place) slot stores
    → LostSlot geo words (after_stores words (at_slots geo place stores)) place slot
lost_slot geo words place slot stores tier nonzero law whole =
    let table = tier_is_table geo words place slot tier in
    let left = removed (ring_of geo) (slot_words geo words place) slot stores table (some_in_ring geo words place slot tier.slot_inside nonzero) (law_of_ring geo words place law) whole in
    let now_is : slot_words geo (after_stores words (at_slots geo place stores)) place ≡ after_stores (slot_words geo words place) stores =
    slot_words_after geo words place stores tier.length_is tier.place_inside (whole_within (ring_of geo) (slot_words geo words place) slot stores table.ring_is.nonzero whole) in
    let here : get_or (slot_words geo words place) slot 0 ≡ get_or words (slot_at geo place slot) 0 = slot_words_at geo words place slot tier.slot_inside in
    record {
      law = law_of_tier geo (after_stores words (at_slots geo place stores)) place (rw now_is left.law);
      lost = rw (now_is, ← here) left.words;
    }

-- where some slot is empty, the shift comes to its end
pub shift_in_tier : (geo : Geo) (words : List ℕ) (place slot : ℕ) → IsTier geo words place slot → slot_in geo words place slot ≢ None → HasEmptySlot geo words place → HasEnded (ring_of geo) (slot_words geo words place) slot
shift_in_tier geo words place slot tier nonzero empty =
    shift_ends (ring_of geo) (slot_words geo words place) slot empty.0 (tier_is_table geo words place slot tier) (some_in_ring geo words place slot tier.slot_inside nonzero) empty.1
    (slot_words_at geo words place empty.0 empty.1 ∙ (slot_empty geo words place empty.0).0 empty.2)

-- ---- after some of its stores

-- the slot at a number then, by the tier's words as a ring
pub slot_from_word : (geo : Geo) (words : List ℕ) (place number : ℕ) (slot : Slot) (word : ℕ) → slot_in geo words place number ≡ Some slot → word_at words (slot_at geo place number) ≡ word → slot_of_word word ≡ Some slot
unfolding slot_in
slot_from_word geo words place number slot word is same = subst (λ (w : ℕ). slot_of_word w ≡ Some slot) same is

pub word_to_slot : (geo : Geo) (words : List ℕ) (place number : ℕ) (slot : Slot) (word : ℕ) → slot_of_word word ≡ Some slot → word_at words (slot_at geo place number) ≡ word → slot_in geo words place number ≡ Some slot
unfolding slot_in
word_to_slot geo words place number slot word is same = subst (λ (w : ℕ). slot_of_word w ≡ Some slot) (sym same) is

-- each slot but the removed one still stands in the tier
pub slot_still_there : (geo : Geo) (words : List ℕ) (place slot hole steps : ℕ) (made : List WordStore) (number : ℕ) (seen : Slot) → IsTier geo words place slot
    → Shift (ring_of geo) (slot_words geo words place) slot hole steps made → number < 2 * geo.chunks → number ≢ slot → slot_in geo words place number ≡ Some seen
    → (other : ℕ) × (other < 2 * geo.chunks) × (slot_in geo (after_stores words (at_slots geo place made)) place other ≡ Some seen)
slot_still_there geo words place slot hole steps made number seen tier shift below apart is =
    let table = tier_is_table geo words place slot tier in
    let so_far = shifting (ring_of geo) (slot_words geo words place) slot hole steps made table shift in
    let now_is : slot_words geo (after_stores words (at_slots geo place made)) place ≡ after_stores (slot_words geo words place) made =
    slot_words_after geo words place made tier.length_is tier.place_inside (shift_within (ring_of geo) (slot_words geo words place) slot hole steps made table.ring_is.nonzero shift) in
    let word_is : slot_of_word (get_or words (slot_at geo place number) 0) ≡ Some seen = slot_from_word geo words place number seen (get_or words (slot_at geo place number) 0) is refl in
    let found = still_there (ring_of geo) (slot_words geo words place) (after_stores (slot_words geo words place) made) slot hole steps number (get_or words (slot_at geo place number) 0) table so_far below apart
    (slot_words_at geo words place number below) (slot_parts geo words place number seen is).0 in (
      found.0,
      found.1,
      word_to_slot geo (after_stores words (at_slots geo place made)) place found.0 seen (get_or words (slot_at geo place number) 0) word_is
          (sym (slot_words_at geo (after_stores words (at_slots geo place made)) place found.0 found.1) ∙ (ap (λ (ws : List ℕ). get_or ws found.0 0) now_is ∙ found.3)),
    )

-- and each slot that stands there stood there before
pub slot_stood_before : (geo : Geo) (words : List ℕ) (place slot hole steps : ℕ) (made : List WordStore) (number : ℕ) (seen : Slot) → IsTier geo words place slot
    → Shift (ring_of geo) (slot_words geo words place) slot hole steps made → number < 2 * geo.chunks → slot_in geo (after_stores words (at_slots geo place made)) place number ≡ Some seen
    → (other : ℕ) × (other < 2 * geo.chunks) × (slot_in geo words place other ≡ Some seen)
slot_stood_before geo words place slot hole steps made number seen tier shift below is =
    let table = tier_is_table geo words place slot tier in
    let so_far = shifting (ring_of geo) (slot_words geo words place) slot hole steps made table shift in
    let now_is : slot_words geo (after_stores words (at_slots geo place made)) place ≡ after_stores (slot_words geo words place) made =
    slot_words_after geo words place made tier.length_is tier.place_inside (shift_within (ring_of geo) (slot_words geo words place) slot hole steps made table.ring_is.nonzero shift) in
    let word : ℕ = get_or (after_stores words (at_slots geo place made)) (slot_at geo place number) 0 in
    let word_is : slot_of_word word ≡ Some seen = slot_from_word geo (after_stores words (at_slots geo place made)) place number seen word is refl in
    let found = stood_before (ring_of geo) (slot_words geo words place) (after_stores (slot_words geo words place) made) slot hole steps number word table so_far below
    (ap (λ (ws : List ℕ). get_or ws number 0) (sym now_is) ∙ slot_words_at geo (after_stores words (at_slots geo place made)) place number below) (slot_parts geo (after_stores words (at_slots geo place made)) place number seen is).0 in
    (found.0, found.1, word_to_slot geo words place found.0 seen word word_is (sym (slot_words_at geo words place found.0 found.1) ∙ found.2))
