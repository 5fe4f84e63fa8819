-- Words of a segment between two stores of a change (own). Nothing is said of the lock word, the change number, bits, counts, the slot law
-- or the order of stores.
use Rattle.std.specs.Prelude.{ℕ, ◌≡◌, ◌≢◌, ◌+◌, ◌*◌, ◌<◌, ◌⊎◌, false, List, Contains, Option, Some, None}
use Rattle.cm_geo.specs.declared.geo.Geo.{Geo}
use Rattle.cm_geo.specs.Addresses.{chunk_at}
use Rattle.cm_plain.specs.declared.placed.Placed.{Placed}
use Rattle.cm_plain.specs.declared.plan.Run.{Run}
use Rattle.cm_plain.specs.declared.plan.PlanKind.TheVariants as kind
use Rattle.cm_plain.specs.States.{State}
use Rattle.cm_plain.specs.Changes.{Change, after}
use Rattle.cm_plain.specs.Slots.{IsPointed, Slot, slot_for, slot_in, word_at}
use Rattle.cm_plain.specs.Readings.{HasKeyWords, Stands, entry_checksum, head_of}
use Rattle.cm_plain.specs.FoundChains.{IsZero, chain_of}

-- an entry of another key than the change's
pub record IsOtherEntry (state : State) (change : Change) (placed : Placed) : Type 0 where
  pub there : Contains state.entries placed
  pub other : placed.key ≢ change.key

-- the entry of the change's key
pub record IsChangeEntry (state : State) (change : Change) (placed : Placed) : Type 0 where
  pub there : Contains state.entries placed
  pub key_is : placed.key ≡ change.key

-- a run begins at this place and chunk
abbrev pub BeginsAt : Option Run → ℕ → ℕ → Type 0
BeginsAt None place chunk = ⊥
BeginsAt (Some run) place chunk = (run.place ≡ place) × (run.chunk ≡ chunk)

-- a slot at this place is that of an entry of another key
pub record IsOtherSlot (geo : Geo) (state : State) (change : Change) (place : ℕ) (slot : Slot) : Type 0 where
  pub placed : Placed
  pub is_other : IsOtherEntry state change placed
  pub place_is : placed.place ≡ place
  pub slot_is : slot ≡ slot_for geo placed.key placed.chunk

-- a slot at this place points to the first chunk of the change's old or new run, for its key
pub record IsChangeSlot (geo : Geo) (change : Change) (place : ℕ) (slot : Slot) : Type 0 where
  pub chunk : ℕ
  pub begins : BeginsAt change.old_run place chunk ⊎ BeginsAt change.new_run place chunk
  pub slot_is : slot ≡ slot_for geo change.key chunk

-- a slot of a chained tier points to an entry
pub record IsPointedInChain (geo : Geo) (words : List ℕ) (placed : Placed) : Type 0 where
  pub chained : Contains (chain_of geo words).places placed.place
  pub pointed : IsPointed geo words placed.place placed.key placed.chunk

-- the first word, the key's words and the checksum while a value is replaced in place
pub record IsBetween (geo : Geo) (words : List ℕ) (old new : Placed) : Type 0 where
  pub head : (word_at words (chunk_at geo old.place old.chunk) ≡ head_of old.key old.value) ⊎ (word_at words (chunk_at geo old.place old.chunk) ≡ head_of new.key new.value)
  pub key : HasKeyWords geo words old.place old.chunk old.key
  pub stored_checksum : (word_at words (chunk_at geo old.place old.chunk + 1) ≡ entry_checksum old.key old.value) ⊎ Stands geo words new

-- the words lie between the state and the one that the change leads to
pub record Torn (geo : Geo) (words : List ℕ) (state : State) (change : Change) : Type 0 where
  -- the other entries stand where they stood, and a slot points to each
  pub others_stand : (placed : Placed) → IsOtherEntry state change placed → Stands geo words placed
  pub others_pointed : (placed : Placed) → IsOtherEntry state change placed → IsPointed geo words placed.place placed.key placed.chunk
  -- each slot of a chained tier that isn't empty is another entry's or the change's
  pub slots : (place number : ℕ) (slot : Slot) → Contains (chain_of geo words).places place → number < 2 * geo.chunks → slot_in geo words place number ≡ Some slot
      → IsOtherSlot geo state change place slot ⊎ IsChangeSlot geo change place slot
  -- what a slot points to stands: the old entry, unless its value is replaced in place, and a new one apart from it
  pub old_stands : (placed : Placed) → IsChangeEntry state change placed → (change.kind ≢ kind.InPlace) → IsPointedInChain geo words placed → Stands geo words placed
  pub new_stands : (placed : Placed) → IsChangeEntry (after geo change state) change placed
      → (BeginsAt change.old_run placed.place placed.chunk → ⊥) → IsPointedInChain geo words placed → Stands geo words placed
  -- where the key was there and stays, a slot points to its old or its new entry
  pub pointed : (old new : Placed) → IsChangeEntry state change old → IsChangeEntry (after geo change state) change new
      → IsPointedInChain geo words old ⊎ IsPointedInChain geo words new
  -- the chain is the old or the new one, and what is outside it is 0
  pub whole : (chain_of geo words).cut ≡ false
  pub chain : ((chain_of geo words).places ≡ state.chain) ⊎ ((chain_of geo words).places ≡ (after geo change state).chain)
  pub unlinked : (place : ℕ) → place < geo.tiers → (Contains (chain_of geo words).places place → ⊥) → IsZero geo words place
  -- a value that is replaced in place
  pub between : (old new : Placed) → change.kind ≡ kind.InPlace → IsChangeEntry state change old → IsChangeEntry (after geo change state) change new
      → IsBetween geo words old new
