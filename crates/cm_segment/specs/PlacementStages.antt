-- While an entry is placed in a free run (own): the phases, in the order of the stores.
use Rattle.std.specs.Prelude.{ℕ, ◌≡◌, ◌≢◌, ◌*◌, ◌<◌, ◌↔◌, ◌⊎◌, List, Some}
use Rattle.cm_geo.specs.declared.geo.Geo.{Geo}
use Rattle.cm_geo.specs.Hash.{fingerprint_in, hash}
use Rattle.cm_plain.specs.declared.plan.Run.{Run}
use Rattle.cm_plain.specs.States.{State}
use Rattle.cm_plain.specs.Changes.{Change, new_entry}
use Rattle.cm_plain.specs.Slots.{Slot, slot_for, slot_in, word_at}
use Rattle.cm_plain.specs.Lawful.{HasBit}
use Rattle.cm_plain.specs.Readings.{Stands}
use Rattle.cm_chunks.specs.RunBits.{IsInRun}
use Rattle.cm_lookup.specs.Probing.{IsFirstEmpty}
use Rattle.cm_segment.specs.Counts.{IsCountAt, one_more}
use Rattle.cm_segment.specs.Frames.{DiffersAt, IsBitWord, IsChunkWord, IsCountWord, IsSlotWord}

-- a word of a run's chunks, of its tier's bits, or the tier's count
pub data IsRunWord (geo : Geo) (run : Run) (place offset : ℕ) : Type 0 where
  count : place ≡ run.place → IsCountWord offset → IsRunWord geo run place offset
  bits : place ≡ run.place → IsBitWord geo offset → IsRunWord geo run place offset
  chunks : place ≡ run.place → IsChunkWord geo run.chunk run.chunks offset → IsRunWord geo run place offset

-- or a slot of the tier
pub data IsPlacingWord (geo : Geo) (run : Run) (place offset : ℕ) : Type 0 where
  of_run : IsRunWord geo run place offset → IsPlacingWord geo run place offset
  slots : place ≡ run.place → (slot : ℕ) → slot < 2 * geo.chunks → IsSlotWord geo slot offset → IsPlacingWord geo run place offset

-- a slot points to the new entry, which stands
pub record PointsToNew (geo : Geo) (words : List ℕ) (change : Change) (run : Run) (place : ℕ) (slot : Slot) : Type 0 where
  pub place_is : place ≡ run.place
  pub slot_is : slot ≡ slot_for geo change.key run.chunk
  pub stands : Stands geo words (new_entry change run)

-- the run is written: no slot, no other run and no link has changed
abbrev pub IsWriting : Geo → Run → List ℕ → List ℕ → Type 0
IsWriting geo run start words = DiffersAt geo (IsRunWord geo run) start words

-- the entry is placed: each slot is as it was, or it was empty and points to the new entry, which stands
pub record IsPlacing (geo : Geo) (change : Change) (run : Run) (start words : List ℕ) : Type 0 where
  pub differs : DiffersAt geo (IsPlacingWord geo run) start words
  pub stay : (place number : ℕ) (slot : Slot) → number < 2 * geo.chunks → slot_in geo start place number ≡ Some slot
      → slot_in geo words place number ≡ Some slot
  pub new : (place number : ℕ) (slot : Slot) → number < 2 * geo.chunks → slot_in geo words place number ≡ Some slot
      → (slot_in geo start place number ≡ Some slot) ⊎ PointsToNew geo words change run place slot

-- the bits that are set are those from the start, and the run's
abbrev pub AddsBits : Geo → Run → List ℕ → List ℕ → Type 0
AddsBits geo run start words =
    (place chunk : ℕ) → chunk < geo.chunks → (HasBit geo words place chunk ↔ (IsInRun run place chunk ⊎ HasBit geo start place chunk))

-- the slot that was the first empty one for the key points to the new run, and all others are as they were
pub record AddsSlot (geo : Geo) (change : Change) (run : Run) (start words : List ℕ) : Type 0 where
  pub slot : ℕ
  pub below : slot < 2 * geo.chunks
  pub first : IsFirstEmpty geo start run.place (fingerprint_in geo (hash change.key)) slot
  pub here : slot_in geo words run.place slot ≡ Some (slot_for geo change.key run.chunk)
  pub others : (place number : ℕ) → number < 2 * geo.chunks → (place ≡ run.place → number ≢ slot)
      → slot_in geo words place number ≡ slot_in geo start place number

-- the counts are those from the start
abbrev pub SameCounts : Geo → Run → List ℕ → List ℕ → Type 0
SameCounts geo run start words = (at : ℕ) → IsCountAt geo run.place at → word_at words at ≡ word_at start at

-- 1. the run's bits are set
pub record IsRunTaken (geo : Geo) (run : Run) (state : State) (start words : List ℕ) : Type 0 where
  pub writing : IsWriting geo run start words
  pub bits : AddsBits geo run start words
  pub counts : SameCounts geo run start words

-- 2. the entry stands, and no slot points to it
pub record IsEntryWritten (geo : Geo) (change : Change) (run : Run) (state : State) (start words : List ℕ) : Type 0 where
  pub taken : IsRunTaken geo run state start words
  pub stands : Stands geo words (new_entry change run)

-- the entry is there: its bits are set, it stands, and a slot points to it
pub record IsEntryThere (geo : Geo) (change : Change) (run : Run) (start words : List ℕ) : Type 0 where
  pub placing : IsPlacing geo change run start words
  pub bits : AddsBits geo run start words
  pub slot : AddsSlot geo change run start words
  pub stands : Stands geo words (new_entry change run)

-- 3. it is there, and no count has changed
pub record IsEntryPointed (geo : Geo) (change : Change) (run : Run) (state : State) (start words : List ℕ) : Type 0 where
  pub there : IsEntryThere geo change run start words
  pub counts : SameCounts geo run start words

-- 4. it is there, and both counts are raised: all is stored
pub record IsEntryCounted (geo : Geo) (change : Change) (run : Run) (state : State) (start words : List ℕ) : Type 0 where
  pub there : IsEntryThere geo change run start words
  pub counts : (at : ℕ) → IsCountAt geo run.place at → word_at words at ≡ one_more (word_at start at)
