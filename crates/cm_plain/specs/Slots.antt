-- What stands in the words of a segment (own): its slots. The words are a list of numbers; behind its end there is 0.
use Rattle.std.specs.Prelude.{ℕ, ◌≡◌, ◌-◌, ◌*◌, ◌/◌, ◌%◌, ◌^◌, ◌<◌, ◌==◌, List, slice_index, Option, Some, None, if◌then◌else◌}
use Rattle.cm_geo.specs.declared.geo.Geo.{Geo}
use Rattle.cm_geo.specs.Addresses.{slot_at}
use Rattle.cm_geo.specs.Hash.{fingerprint_in, hash}

-- the word at an address
abbrev pub word_at : List ℕ → ℕ → ℕ
word_at words at = slice_index words at

-- a slot that isn't empty: a fingerprint, and the chunk that it points to, if to any
pub record Slot : Type 0 where
  pub fingerprint : ℕ
  pub chunk : Option ℕ

-- the lower half of a slot's word is the chunk's number plus 1; 0 points to no chunk
abbrev pub chunk_of_half : ℕ → Option ℕ
chunk_of_half half = if half == 0 then None else Some (half - 1)

-- the upper half is the fingerprint; the word 0 is an empty slot
abbrev pub slot_of_word : ℕ → Option Slot
slot_of_word word =
    if word == 0 then None else Some (record { fingerprint = word / 2 ^ 32; chunk = chunk_of_half (word % 2 ^ 32) })

-- the slot of this number in the tier at a place, unless it is empty
unfoldable pub slot_in : Geo → List ℕ → ℕ → ℕ → Option Slot
slot_in geo words place slot = slot_of_word (word_at words (slot_at geo place slot))

-- the slot that points to a chunk for a key
abbrev pub slot_for : Geo → List ℕ → ℕ → Slot
slot_for geo key chunk = record { fingerprint = fingerprint_in geo (hash key); chunk = Some chunk }

-- a slot of the tier at a place points to a chunk for a key
pub record Points (geo : Geo) (words : List ℕ) (place : ℕ) (key : List ℕ) (chunk slot : ℕ) : Type 0 where
  pub inside : slot < 2 * geo.chunks
  pub slot_is : slot_in geo words place slot ≡ Some (slot_for geo key chunk)

-- some slot does
abbrev pub IsPointed : Geo → List ℕ → ℕ → List ℕ → ℕ → Type 0
IsPointed geo words place key chunk = (slot : ℕ) × Points geo words place key chunk slot

-- just one slot does
abbrev pub IsPointedOnce : Geo → List ℕ → ℕ → List ℕ → ℕ → Type 0
IsPointedOnce geo words place key chunk =
    (slot : ℕ) × Points geo words place key chunk slot × ((other : ℕ) → Points geo words place key chunk other → other ≡ slot)
