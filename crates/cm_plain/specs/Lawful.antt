-- How the words of a segment represent a state while no change is under way (own; the slot law is after Chronicle Map).
use Rattle.std.specs.Prelude.{ℕ, ◌≡◌, ◌≢◌, ◌+◌, ◌-◌, ◌*◌, ◌/◌, ◌%◌, ◌^◌, ◌<◌, ◌≤◌, ◌==◌, ◌↔◌, false, List, length, filter, All, Contains, IsBitSet, Some, None}
use Rattle.cm_geo.specs.declared.geo.Geo.{Geo}
use Rattle.cm_geo.specs.declared.limits.TheConstants.{WORD_BITS}
use Rattle.cm_geo.specs.Addresses.{bits_at, tier_at, words_in_segment}
use Rattle.cm_geo.specs.Hash.{home_in}
use Rattle.cm_plain.specs.declared.placed.Placed.{Placed}
use Rattle.cm_plain.specs.States.{IsState, State, chunks_of}
use Rattle.cm_plain.specs.Steps.{last_number}
use Rattle.cm_plain.specs.Slots.{IsPointedOnce, Slot, slot_for, slot_in, word_at}
use Rattle.cm_plain.specs.Readings.{Stands}
use Rattle.cm_plain.specs.FoundChains.{IsZero, chain_of}

-- the list is the words of a segment: there are as many, of 64 bits each
pub record IsSegmentWords (geo : Geo) (words : List ℕ) : Type 0 where
  pub length_is : length words ≡ words_in_segment geo
  pub fit : All (λ word. word < 2 ^ 64) words

-- the state has an entry at this place
pub record IsAt (state : State) (place : ℕ) (placed : Placed) : Type 0 where
  pub there : Contains state.entries placed
  pub place_is : placed.place ≡ place

-- the slot is that of an entry at this place
pub record IsSlotOf (geo : Geo) (state : State) (place : ℕ) (slot : Slot) : Type 0 where
  pub placed : Placed
  pub at : IsAt state place placed
  pub slot_is : slot ≡ slot_for geo placed.key placed.chunk

-- the steps from a slot to another, of so many slots, upwards and from the last to the first
abbrev pub steps_between : ℕ → ℕ → ℕ → ℕ
steps_between size from to = (to + size - from) % size

-- the slot so many steps behind one, of so many slots
abbrev pub slot_behind : ℕ → ℕ → ℕ → ℕ
slot_behind size from steps = (from + steps) % size

-- no slot from the home of a slot's fingerprint on to that slot is empty
abbrev pub IsReached : Geo → List ℕ → ℕ → ℕ → Slot → Type 0
IsReached geo words place number slot =
    (steps : ℕ) → steps < steps_between (2 * geo.chunks) (home_in geo slot.fingerprint) number
    → slot_in geo words place (slot_behind (2 * geo.chunks) (home_in geo slot.fingerprint) steps) ≢ None

-- the slot law of a tier: each slot that isn't empty is reached from its home
abbrev pub KeepsSlotLaw : Geo → List ℕ → ℕ → Type 0
KeepsSlotLaw geo words place =
    (number : ℕ) (slot : Slot) → number < 2 * geo.chunks → slot_in geo words place number ≡ Some slot → IsReached geo words place number slot

-- a chunk lies in the run of an entry at this place
pub record IsTaken (geo : Geo) (state : State) (place chunk : ℕ) : Type 0 where
  pub placed : Placed
  pub at : IsAt state place placed
  pub begun : placed.chunk ≤ chunk
  pub not_ended : chunk < placed.chunk + chunks_of geo placed

-- the bit of a chunk
abbrev pub HasBit : Geo → List ℕ → ℕ → ℕ → Type 0
HasBit geo words place chunk = IsBitSet (word_at words (bits_at geo place (chunk / WORD_BITS))) (chunk % WORD_BITS)

-- the bits of the tier at a place that are set are those of the chunks in runs
abbrev pub BitsRepresent : Geo → List ℕ → State → ℕ → Type 0
BitsRepresent geo words state place = (chunk : ℕ) → chunk < geo.chunks → (HasBit geo words place chunk ↔ IsTaken geo state place chunk)

-- the words of a chained tier represent the state's entries there
pub record TierRepresents (geo : Geo) (words : List ℕ) (state : State) (place : ℕ) : Type 0 where
  -- each slot that isn't empty is an entry's
  pub slots : (number : ℕ) (slot : Slot) → number < 2 * geo.chunks → slot_in geo words place number ≡ Some slot → IsSlotOf geo state place slot
  pub reached : KeepsSlotLaw geo words place
  pub bits : BitsRepresent geo words state place
  -- the number of entries
  pub count : word_at words (tier_at geo place + 1) ≡ length (filter (λ placed. placed.place == place) state.entries)

-- the words of a segment represent a state: its chain, its entries and nothing else
pub record Represents (geo : Geo) (segment : ℕ) (words : List ℕ) (state : State) : Type 0 where
  pub is_state : IsState geo segment state
  pub whole : (chain_of geo words).cut ≡ false
  pub chain : (chain_of geo words).places ≡ state.chain
  pub tiers : All (TierRepresents geo words state) state.chain
  -- each entry stands where it is placed, and has just one slot
  pub stand : (placed : Placed) → Contains state.entries placed → Stands geo words placed
  pub pointed : (placed : Placed) → Contains state.entries placed → IsPointedOnce geo words placed.place placed.key placed.chunk
  pub count : word_at words 2 ≡ length state.entries
  pub unlinked : (place : ℕ) → place < geo.tiers → (Contains state.chain place → ⊥) → IsZero geo words place

-- the third and the fourth word of a tier's head are 0
pub record EndsHead (geo : Geo) (words : List ℕ) (place : ℕ) : Type 0 where
  pub third : word_at words (tier_at geo place + 2) ≡ 0
  pub fourth : word_at words (tier_at geo place + 3) ≡ 0

-- the words of a segment, as many as it has, represent a state, apart from the lock word and the change number
pub record LawfulApart (geo : Geo) (segment : ℕ) (words : List ℕ) (state : State) : Type 0 where
  pub length_is : length words ≡ words_in_segment geo
  pub fourth : word_at words 3 ≡ 0
  pub heads : All (EndsHead geo words) state.chain
  pub represents : Represents geo segment words state

-- the words of a quiet segment after so many changes represent a state
pub record Lawful (geo : Geo) (segment : ℕ) (words : List ℕ) (number : ℕ) (state : State) : Type 0 where
  pub lock : word_at words 0 ≡ 0
  pub number_is : word_at words 1 ≡ 2 * number
  pub number_within_limit : number ≤ last_number
  pub apart : LawfulApart geo segment words state

-- the words of a segment in use represent a state while no change is under way
unfoldable pub Resting : Geo → ℕ → List ℕ → State → Type 0
Resting geo segment words state = LawfulApart geo segment words state
