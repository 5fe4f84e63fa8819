-- Slots that keep the laws on slots (own), as the laws behind them use it.
use Rattle.std.specs.Prelude.{ℕ, ◌≡◌, ◌≢◌, ◌+◌, ◌-◌, ◌*◌, ◌%◌, ◌<◌, ◌≤◌, false, List, Contains, None, Some}
use Rattle.cm_geo.specs.declared.geo.Geo.{Geo}
use Rattle.cm_geo.specs.Addresses.{tier_at}
use Rattle.cm_geo.specs.Hash.{segment_of_key}
use Rattle.cm_plain.specs.declared.placed.Placed.{Placed}
use Rattle.cm_plain.specs.States.{HasRun}
use Rattle.cm_plain.specs.Slots.{slot_for, slot_in, word_at}
use Rattle.cm_plain.specs.Readings.{Stands}
use Rattle.cm_check.specs.Places.{chain_in}
use Rattle.cm_check.specs.SlotEntries.{entry_in}
use Rattle.cm_check.specs.SlotLaws.{is_astray, is_cut_off, is_overlapping}
use Rattle.cm_check.specs.CountLaws.{occupied_among}

-- each slot of the tier at a place that isn't empty points to an entry of the segment, whose key has its fingerprint
abbrev pub IsTierRightful : Geo → ℕ → List ℕ → ℕ → Type 0
IsTierRightful geo segment words place = (number : ℕ) → number < 2 * geo.chunks → is_astray geo segment words place number ≡ false

-- each is reached from its home
abbrev pub IsTierReached : Geo → List ℕ → ℕ → Type 0
IsTierReached geo words place = (number : ℕ) → number < 2 * geo.chunks → is_cut_off geo words place number ≡ false

-- no two runs meet
abbrev pub IsTierApart : Geo → List ℕ → ℕ → Type 0
IsTierApart geo words place = (number : ℕ) → number < 2 * geo.chunks → is_overlapping geo words place number ≡ false

-- it is so for each tier of the chain
abbrev pub AreRightful : Geo → ℕ → List ℕ → Type 0
AreRightful geo segment words = (place : ℕ) → Contains (chain_in geo words) place → IsTierRightful geo segment words place

abbrev pub AreReached : Geo → List ℕ → Type 0
AreReached geo words = (place : ℕ) → Contains (chain_in geo words) place → IsTierReached geo words place

abbrev pub AreRunsApart : Geo → List ℕ → Type 0
AreRunsApart geo words = (place : ℕ) → Contains (chain_in geo words) place → IsTierApart geo words place

-- the count of each tier of the chain is the number of its slots that aren't empty
abbrev pub AreCounted : Geo → List ℕ → Type 0
AreCounted geo words = (place : ℕ) → Contains (chain_in geo words) place → word_at words (tier_at geo place + 1) ≡ occupied_among geo words place (2 * geo.chunks)

-- a slot points to an entry of the segment that stands at this chunk
pub record IsEntryAt (geo : Geo) (segment : ℕ) (words : List ℕ) (place number chunk : ℕ) : Type 0 where
  pub placed : Placed
  pub entry_is : entry_in geo words place number ≡ Some placed
  pub slot_is : slot_in geo words place number ≡ Some (slot_for geo placed.key placed.chunk)
  pub place_is : placed.place ≡ place
  pub chunk_is : placed.chunk ≡ chunk
  pub stands : Stands geo words placed
  pub here : segment_of_key geo placed.key ≡ segment
  pub run : HasRun geo placed

-- the slot so many steps before another, from the first to the last
abbrev pub slot_before : ℕ → ℕ → ℕ → ℕ
slot_before size number steps = (number + size - steps) % size

-- so many slots before one aren't empty, and the one before them is
pub record IsReach (geo : Geo) (words : List ℕ) (place number reach : ℕ) : Type 0 where
  pub occupied : (steps : ℕ) → 1 ≤ steps → steps ≤ reach → steps < 2 * geo.chunks → slot_in geo words place (slot_before (2 * geo.chunks) number steps) ≢ None
  pub ends : reach < 2 * geo.chunks → slot_in geo words place (slot_before (2 * geo.chunks) number (reach + 1)) ≡ None
