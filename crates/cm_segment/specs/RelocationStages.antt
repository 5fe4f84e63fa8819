-- How far the move of an entry to another run has come (own). Its new entry is placed first. In its tier the old slot is then stored over; to another
-- tier the new entry has a slot of its own, and the old one is removed. Then the bits of the old run are cleared, and the counts of two tiers change.
use Rattle.std.specs.Prelude.{ℕ, ◌≡◌, ◌≢◌, ◌+◌, ◌*◌, ◌<◌, List, Some}
use Rattle.cm_geo.specs.declared.geo.Geo.{Geo}
use Rattle.cm_geo.specs.Addresses.{tier_at}
use Rattle.cm_geo.specs.Hash.{fingerprint_in, hash}
use Rattle.cm_plain.specs.declared.plan.Run.{Run}
use Rattle.cm_plain.specs.States.{State}
use Rattle.cm_plain.specs.Changes.{Change, new_entry}
use Rattle.cm_plain.specs.Readings.{Stands}
use Rattle.cm_plain.specs.Slots.{Points, slot_for, slot_in, word_at}
use Rattle.cm_chunks.specs.RunBits.{IsRunIn}
use Rattle.cm_lookup.specs.Probing.{IsFirstEmpty}
use Rattle.cm_segment.specs.PlacementBase.{FromBase, PlacesElsewhere, base_words}
use Rattle.cm_segment.specs.Counts.{one_less, one_more}
use Rattle.cm_segment.specs.Frames.{DiffersAt}
use Rattle.cm_segment.specs.PlacementStages.{AddsBits, IsPlacingWord, SameCounts}
use Rattle.cm_segment.specs.RemovalStages.{HasLostSlot, IsIndexWord, same_count}
use Rattle.cm_segment.specs.ReplacementStages.{ReplacesBits}
use Rattle.cm_segment.specs.Phases.{Phase}

-- a change moves the entry of one run to another, elsewhere, whatever state it is planned for, and the slot is one of a tier
pub record IsMove (geo : Geo) (change : Change) (old run : Run) (slot : ℕ) : Type 0 where
  pub places : PlacesElsewhere geo change run
  pub old_is : change.old_run ≡ Some old
  pub old_in : IsRunIn geo old
  pub slot_inside : slot < 2 * geo.chunks

-- in a phase of the new entry, the slot pointed to the old run when that was begun
pub record IsBesideOld (geo : Geo) (change : Change) (old run : Run) (slot : ℕ) (phase : Phase) (state : State) (start words : List ℕ) : Type 0 where
  pub new : FromBase geo change run phase state start words
  pub points : Points geo (base_words geo change run state start) old.place change.key old.chunk slot

-- ---- in its tier

-- the slot that pointed to the old run points to the new entry, which stands; all other slots are as they were
pub record HasTurnedSlot (geo : Geo) (change : Change) (old run : Run) (slot : ℕ) (base words : List ℕ) : Type 0 where
  pub points : Points geo base old.place change.key old.chunk slot
  pub differs : DiffersAt geo (IsPlacingWord geo run) base words
  pub here : slot_in geo words run.place slot ≡ Some (slot_for geo change.key run.chunk)
  pub others : (place number : ℕ) → number < 2 * geo.chunks → (place ≡ run.place → number ≢ slot)
      → slot_in geo words place number ≡ slot_in geo base place number
  pub stands : Stands geo words (new_entry change run)

-- so the slot is, and the bits; the counts are as they were
pub record IsSlotTurned (geo : Geo) (change : Change) (old run : Run) (slot : ℕ) (Bits : List ℕ → List ℕ → Type 0) (state : State)
    (base words : List ℕ) : Type 0 where
  pub turned : HasTurnedSlot geo change old run slot base words
  pub bits : Bits base words
  pub counts : SameCounts geo run base words

-- the phases: the slot is stored over, and the bits of the old run are clear: all was stored
abbrev pub IsTurned : Geo → Change → Run → Run → ℕ → Phase
IsTurned geo change old run slot = IsSlotTurned geo change old run slot (AddsBits geo run)

abbrev pub IsMovedInTier : Geo → Change → Run → Run → ℕ → Phase
IsMovedInTier geo change old run slot = IsSlotTurned geo change old run slot (ReplacesBits geo old run)

-- ---- to another tier

-- a word of the new entry's place, or of the old tier's index
pub data IsMovingWord (geo : Geo) (index : ℕ) (run : Run) (place offset : ℕ) : Type 0 where
  to : IsPlacingWord geo run place offset → IsMovingWord geo index run place offset
  from : IsIndexWord geo index place offset → IsMovingWord geo index run place offset

-- the new entry stands, and the first empty slot for its key points to it; all other slots outside the old tier are as they were
pub record HasNewSlot (geo : Geo) (change : Change) (old run : Run) (slot : ℕ) (base words : List ℕ) : Type 0 where
  pub points : Points geo base old.place change.key old.chunk slot
  pub differs : DiffersAt geo (IsMovingWord geo old.place run) base words
  pub goal : ℕ
  pub goal_inside : goal < 2 * geo.chunks
  pub first : IsFirstEmpty geo base run.place (fingerprint_in geo (hash change.key)) goal
  pub here : slot_in geo words run.place goal ≡ Some (slot_for geo change.key run.chunk)
  pub others : (place number : ℕ) → number < 2 * geo.chunks → place ≢ old.place → (place ≡ run.place → number ≢ goal)
      → slot_in geo words place number ≡ slot_in geo base place number
  pub stands : Stands geo words (new_entry change run)

-- and the old tier has lost the old slot; so the bits are, and this was made of the counts of the old tier and of the new one
pub record IsPartMoved (geo : Geo) (change : Change) (old run : Run) (slot : ℕ) (Bits : List ℕ → List ℕ → Type 0) (old_count new_count : ℕ → ℕ)
    (state : State) (base words : List ℕ) : Type 0 where
  pub new : HasNewSlot geo change old run slot base words
  pub lost : HasLostSlot geo old.place slot base words
  pub bits : Bits base words
  pub in_old : word_at words (tier_at geo old.place + 1) ≡ old_count (word_at base (tier_at geo old.place + 1))
  pub in_new : word_at words (tier_at geo run.place + 1) ≡ new_count (word_at base (tier_at geo run.place + 1))
  pub in_all : word_at words 2 ≡ word_at base 2

-- the phases: the old slot is gone, the bits of the old run are clear, its tier counts one less, and the new run's one more: all was stored
abbrev pub IsOldSlotRemoved : Geo → Change → Run → Run → ℕ → Phase
IsOldSlotRemoved geo change old run slot = IsPartMoved geo change old run slot (AddsBits geo run) same_count same_count

abbrev pub IsOldRunCleared : Geo → Change → Run → Run → ℕ → Phase
IsOldRunCleared geo change old run slot = IsPartMoved geo change old run slot (ReplacesBits geo old run) same_count same_count

abbrev pub IsOldTierLowered : Geo → Change → Run → Run → ℕ → Phase
IsOldTierLowered geo change old run slot = IsPartMoved geo change old run slot (ReplacesBits geo old run) one_less same_count

abbrev pub IsMovedToTier : Geo → Change → Run → Run → ℕ → Phase
IsMovedToTier geo change old run slot = IsPartMoved geo change old run slot (ReplacesBits geo old run) one_less one_more
