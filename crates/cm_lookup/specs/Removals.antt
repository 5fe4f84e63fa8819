-- What the removal of a slot does over a memory (own).
use Rattle.std.specs.Prelude.{ℕ, ◌≢◌, List, slice_set, None}
use Rattle.cm_geo.specs.declared.geo.Geo.{Geo}
use Rattle.cm_geo.specs.Addresses.{slot_at}
use Rattle.cm_plain.specs.Slots.{slot_in}
use Rattle.cm_plain.specs.Lawful.{KeepsSlotLaw}
use Rattle.cm_words.specs.Memory.{FitsNotes, IsAllowed, MemSeen, origin}
use Rattle.cm_words.specs.Effects.{Changes}
use Rattle.cm_words.specs.Stores.{Leads, WordStore, after_stores}
use Rattle.cm_lookup.specs.Shifts.{IsShift, NextStore, Shift}
use Rattle.cm_lookup.specs.Tiers.{HasEmptySlot, LostSlot, at_slots, ring_of, slot_words}

-- the slot isn't empty, another one is, and the tier keeps the slot law
pub record CanLose (geo : Geo) (words : List ℕ) (place slot : ℕ) : Type 0 where
  pub removed : slot_in geo words place slot ≢ None
  pub empty : HasEmptySlot geo words place
  pub law : KeepsSlotLaw geo words place

-- each list of words that the stores of the shift lead to is allowed
abbrev pub MayShift : MemSeen → Geo → ℕ → ℕ → Type 0
MayShift m geo place slot =
    (words : List ℕ) → FitsNotes m words → (made : List WordStore) (at word : ℕ) → NextStore (ring_of geo) (slot_words geo words place) slot made at word
    → IsAllowed m.setting m.plan (origin m words) (after_stores words (at_slots geo place made)) (slice_set (after_stores words (at_slots geo place made)) (slot_at geo place at) word)

-- stores of the shift lead from a list to another: the hole is so many steps behind the removed slot, and the slots of so many steps were looked at
pub record LeadsShift (old now : MemSeen) (geo : Geo) (place slot hole steps : ℕ) (before words : List ℕ) : Type 0 where
  pub made : List WordStore
  pub by : Leads old now (at_slots geo place made) before words
  pub shift : Shift (ring_of geo) (slot_words geo before place) slot hole steps made

-- the shift has come so far
abbrev pub Shifted : MemSeen → MemSeen → Geo → ℕ → ℕ → ℕ → ℕ → Type 0
Shifted old now geo place slot hole steps = Changes old now (LeadsShift old now geo place slot hole steps)

-- some of the stores of the shift were made
abbrev pub ShiftsPart : MemSeen → MemSeen → Geo → ℕ → ℕ → Type 0
ShiftsPart old now geo place slot = (hole : ℕ) × (steps : ℕ) × Shifted old now geo place slot hole steps

-- the whole shift leads from a list to another, if that was one that could lose the slot
pub record LeadsRemoval (old now : MemSeen) (geo : Geo) (place slot : ℕ) (before words : List ℕ) : Type 0 where
  pub stores : List WordStore
  pub by : Leads old now (at_slots geo place stores) before words
  pub whole : CanLose geo before place slot → IsShift (ring_of geo) (slot_words geo before place) slot stores
  pub lost : CanLose geo before place slot → LostSlot geo before words place slot

-- all stores of the shift were made
abbrev pub Removes : MemSeen → MemSeen → Geo → ℕ → ℕ → Type 0
Removes old now geo place slot = Changes old now (LeadsRemoval old now geo place slot)
