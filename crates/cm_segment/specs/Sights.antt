-- What is found of a key (own).
use Rattle.std.specs.Prelude.{ℕ, ◌≡◌, ◌≢◌, ◌*◌, ◌<◌, ◌≤◌, List, Contains, length, Option, MatchOption}
use Rattle.cm_geo.specs.declared.geo.Geo.{Geo}
use Rattle.cm_geo.specs.declared.limits.TheConstants.{MAX_KEY_BYTES}
use Rattle.cm_plain.specs.declared.placed.Placed.{Placed}
use Rattle.cm_plain.specs.States.{State}
use Rattle.cm_plain.specs.Lawful.{IsAt}
use Rattle.cm_plain.specs.Slots.{Points}
use Rattle.cm_segment.specs.declared.seek.Sight.{Sight}

-- its numbers lie in the geometry, and its key is one that may be stored, whatever words stand there
pub record IsSightIn (geo : Geo) (key : List ℕ) (sight : Sight) : Type 0 where
  pub key_within_limit : length key ≤ MAX_KEY_BYTES
  pub place : sight.place < geo.tiers
  pub slot : sight.slot < 2 * geo.chunks
  pub chunk : sight.chunk < geo.chunks

-- it is the key's entry, the slot that points to it, and its lengths
pub record IsSight (geo : Geo) (words : List ℕ) (state : State) (key : List ℕ) (sight : Sight) : Type 0 where
  pub placed : Placed
  pub there : Contains state.entries placed
  pub key_is : placed.key ≡ key
  pub place_is : placed.place ≡ sight.place
  pub chunk_is : placed.chunk ≡ sight.chunk
  pub points : Points geo words sight.place key sight.chunk sight.slot
  pub key_len_is : sight.key_len ≡ length placed.key
  pub value_len_is : sight.value_len ≡ length placed.value

-- the key has no entry in the tier at a place
abbrev pub IsAbsentAt : State → ℕ → List ℕ → Type 0
IsAbsentAt state place key = (placed : Placed) → IsAt state place placed → placed.key ≢ key

-- what is found in the tier at a place
abbrev pub FindsAt : Geo → List ℕ → State → ℕ → List ℕ → Option Sight → Type 0
FindsAt geo words state place key found = MatchOption found (IsAbsentAt state place key) (IsSight geo words state key)

-- the key has no entry
abbrev pub IsAbsent : State → List ℕ → Type 0
IsAbsent state key = (placed : Placed) → Contains state.entries placed → placed.key ≢ key

-- what is found in all tiers
abbrev pub FindsKey : Geo → List ℕ → State → List ℕ → Option Sight → Type 0
FindsKey geo words state key found = MatchOption found (IsAbsent state key) (IsSight geo words state key)
