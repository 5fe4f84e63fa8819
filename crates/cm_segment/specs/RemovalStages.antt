-- How far the removal of an entry has come (own): its slot is removed, then the bits of its run are cleared, then the counts are lowered.
use Rattle.std.specs.Prelude.{ℕ, ◌≡◌, ◌≢◌, ◌+◌, ◌*◌, ◌<◌, ◌↔◌, List, Some, None}
use Rattle.cm_geo.specs.declared.geo.Geo.{Geo}
use Rattle.cm_geo.specs.Addresses.{tier_at}
use Rattle.cm_plain.specs.declared.plan.Run.{Run}
use Rattle.cm_plain.specs.States.{State}
use Rattle.cm_plain.specs.Changes.{Change}
use Rattle.cm_plain.specs.Lawful.{HasBit, KeepsSlotLaw}
use Rattle.cm_plain.specs.Slots.{IsPointedOnce, Points, Slot, slot_for, slot_in, word_at}
use Rattle.cm_chunks.specs.RunBits.{IsInRun, IsRunIn}
use Rattle.cm_segment.specs.Counts.{one_less}
use Rattle.cm_segment.specs.Frames.{DiffersAt, HasSameBits, IsBitWord, IsCountWord, IsSlotWord}
use Rattle.cm_segment.specs.Phases.{Phase}

-- a change removes the entry of this run and places none, whatever state it is planned for, and the slot is one of a tier
pub record IsRemoval (geo : Geo) (change : Change) (run : Run) (slot : ℕ) : Type 0 where
  pub old_is : change.old_run ≡ Some run
  pub new_is : change.new_run ≡ None
  pub run_in : IsRunIn geo run
  pub slot_inside : slot < 2 * geo.chunks

-- a word of the index of the tier at a place: its count, a word of its bits, or a slot
pub data IsIndexWord (geo : Geo) (index place offset : ℕ) : Type 0 where
  count : place ≡ index → IsCountWord offset → IsIndexWord geo index place offset
  bits : place ≡ index → IsBitWord geo offset → IsIndexWord geo index place offset
  slots : place ≡ index → (slot : ℕ) → slot < 2 * geo.chunks → IsSlotWord geo slot offset → IsIndexWord geo index place offset

-- The tier at a place has lost a slot: the slot law holds, each other slot still stands there, what stands there stood in another slot before, and a
-- chunk to which just one other slot pointed has one still.
pub record HasLostSlot (geo : Geo) (place slot : ℕ) (start words : List ℕ) : Type 0 where
  pub law : KeepsSlotLaw geo words place
  pub still : (number : ℕ) (seen : Slot) → number < 2 * geo.chunks → number ≢ slot → slot_in geo start place number ≡ Some seen
      → (other : ℕ) × (other < 2 * geo.chunks) × (slot_in geo words place other ≡ Some seen)
  pub stood : (number : ℕ) (seen : Slot) → number < 2 * geo.chunks → slot_in geo words place number ≡ Some seen
      → (other : ℕ) × (other < 2 * geo.chunks) × (other ≢ slot) × (slot_in geo start place other ≡ Some seen)
  pub once : (key : List ℕ) (chunk : ℕ) → chunk < geo.chunks → slot_in geo start place slot ≢ Some (slot_for geo key chunk)
      → IsPointedOnce geo start place key chunk → IsPointedOnce geo words place key chunk

-- the bits are those of the start outside a run
abbrev pub HasBitsOutside : Geo → Run → List ℕ → List ℕ → Type 0
HasBitsOutside geo run start words =
    (place chunk : ℕ) → chunk < geo.chunks → (HasBit geo words place chunk ↔ ((IsInRun run place chunk → ⊥) × HasBit geo start place chunk))

-- a count that stays
abbrev pub same_count : ℕ → ℕ
same_count word = word

-- the slot that pointed to the run is gone, and nothing but the index of its tier has changed
pub record HasNoSlot (geo : Geo) (change : Change) (run : Run) (slot : ℕ) (state : State) (start words : List ℕ) : Type 0 where
  pub points : Points geo start run.place change.key run.chunk slot
  pub differs : DiffersAt geo (IsIndexWord geo run.place) start words
  pub lost : HasLostSlot geo run.place slot start words

-- the slot is gone; so the bits are, and this was made of the count of the tier and of the segment's
pub record IsPartRemoved (geo : Geo) (change : Change) (run : Run) (slot : ℕ) (Bits : List ℕ → List ℕ → Type 0) (tier_count all_count : ℕ → ℕ)
    (state : State) (start words : List ℕ) : Type 0 where
  pub no_slot : HasNoSlot geo change run slot state start words
  pub bits : Bits start words
  pub in_tier : word_at words (tier_at geo run.place + 1) ≡ tier_count (word_at start (tier_at geo run.place + 1))
  pub in_all : word_at words 2 ≡ all_count (word_at start 2)

-- the phases: the slot is gone alone, the bits of the run are clear, the tier counts one less, and the segment does: all was stored
abbrev pub IsSlotRemoved : Geo → Change → Run → ℕ → Phase
IsSlotRemoved geo change run slot = IsPartRemoved geo change run slot (HasSameBits geo) same_count same_count

abbrev pub IsRunCleared : Geo → Change → Run → ℕ → Phase
IsRunCleared geo change run slot = IsPartRemoved geo change run slot (HasBitsOutside geo run) same_count same_count

abbrev pub IsTierLowered : Geo → Change → Run → ℕ → Phase
IsTierLowered geo change run slot = IsPartRemoved geo change run slot (HasBitsOutside geo run) one_less same_count

abbrev pub IsRemoved : Geo → Change → Run → ℕ → Phase
IsRemoved geo change run slot = IsPartRemoved geo change run slot (HasBitsOutside geo run) one_less one_less
