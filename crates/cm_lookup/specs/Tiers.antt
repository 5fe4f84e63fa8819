-- The slots of a tier as a ring (own).
use Rattle.cm_words.specs.Stores.{WordStore, store_at}
use Rattle.std.specs.Prelude.{ℕ, ◌≡◌, ◌+◌, ◌*◌, ◌/◌, ◌^◌, ◌<◌, List, ◌∷◌, map, None}
use Rattle.std.specs.List.{range_with_len}
use Rattle.std.specs.List.Sorted.{IsPermutation}
use Rattle.cm_geo.specs.declared.geo.Geo.{Geo}
use Rattle.cm_geo.specs.Addresses.{slot_at}
use Rattle.cm_geo.specs.Hash.{home_in}
use Rattle.cm_plain.specs.Slots.{slot_in, word_at}
use Rattle.cm_plain.specs.Lawful.{KeepsSlotLaw}
use Rattle.cm_lookup.specs.Rings.{Ring, occupied_words}

-- the ring: a word's home is that of its upper half, the fingerprint
abbrev pub ring_of : Geo → Ring
ring_of geo = record { size = 2 * geo.chunks; home = λ word. home_in geo (word / 2 ^ 32) }

-- the words of the slots of the tier at a place
unfoldable pub slot_words : Geo → List ℕ → ℕ → List ℕ
slot_words geo words place = map (λ slot. word_at words (slot_at geo place slot)) (range_with_len 0 (2 * geo.chunks))

-- stores at slots as stores at the words of those slots
abbrev pub at_slots : Geo → ℕ → List WordStore → List WordStore
at_slots geo place stores = map (λ store. store_at (slot_at geo place store.at) store.word) stores

-- the geometry has this slot in a tier at this place
pub record IsSlot (geo : Geo) (place slot : ℕ) : Type 0 where
  pub place_inside : place < geo.tiers
  pub slot_inside : slot < 2 * geo.chunks

-- the word of a slot that points to a chunk
abbrev pub slot_word : ℕ → ℕ → ℕ
slot_word fingerprint chunk = fingerprint * 2 ^ 32 + chunk + 1

-- some slot of the tier is empty
abbrev pub HasEmptySlot : Geo → List ℕ → ℕ → Type 0
HasEmptySlot geo words place = (number : ℕ) × (number < 2 * geo.chunks) × (slot_in geo words place number ≡ None)

-- the slot law holds, and the words of the slots, in any order, have lost just the one of this slot
pub record LostSlot (geo : Geo) (before words : List ℕ) (place slot : ℕ) : Type 0 where
  pub law : KeepsSlotLaw geo words place
  pub lost : IsPermutation (occupied_words (slot_words geo before place)) (word_at before (slot_at geo place slot) ∷ occupied_words (slot_words geo words place))
