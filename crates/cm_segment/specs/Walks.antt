-- The entries of a segment in order of chain and slot (own).
use Rattle.std.specs.Prelude.{ℕ, ◌≡◌, ◌+◌, ◌*◌, ◌<◌, ◌≤◌, ◌⊎◌, true, List, Contains, length, slice_get, take, Option, Some, MatchOption}
use Rattle.cm_geo.specs.declared.geo.Geo.{Geo}
use Rattle.cm_plain.specs.declared.placed.Placed.{Placed}
use Rattle.cm_plain.specs.States.{State}
use Rattle.cm_plain.specs.Lawful.{IsAt}
use Rattle.cm_plain.specs.Slots.{Points}
use Rattle.cm_plain.specs.Steps.{has_prefix}
use Rattle.cm_segment.specs.declared.walks.Cursor.{Cursor}
use Rattle.cm_segment.specs.declared.walks.Stand.{Stand}

-- a cursor is before another one: its tier comes earlier in the chain, or it is an earlier slot of the same tier
abbrev pub IsBefore : Cursor → Cursor → Type 0
IsBefore cursor other = (cursor.link < other.link) ⊎ ((cursor.link ≡ other.link) × (cursor.slot < other.slot))

-- an entry stands at a cursor: it is in the tier of this number in the chain, and this slot points to it
pub record StandsAt (geo : Geo) (words : List ℕ) (state : State) (placed : Placed) (cursor : Cursor) : Type 0 where
  pub there : Contains state.entries placed
  pub tier : slice_get state.chain cursor.link ≡ Some placed.place
  pub points : Points geo words placed.place placed.key placed.chunk cursor.slot

-- an entry whose key begins with the prefix stands at a cursor that is not before this one
pub record IsMatch (geo : Geo) (words : List ℕ) (state : State) (from : Cursor) (prefix : List ℕ) (placed : Placed) (cursor : Cursor) : Type 0 where
  pub stands : StandsAt geo words state placed cursor
  pub not_before : IsBefore cursor from → ⊥
  pub prefixed : has_prefix prefix placed.key ≡ true

-- it is the first one, and its key is at the beginning of a list
pub record IsFirstMatch (geo : Geo) (words : List ℕ) (state : State) (from : Cursor) (prefix out : List ℕ) (stand : Stand) : Type 0 where
  pub placed : Placed
  pub is_match : IsMatch geo words state from prefix placed stand.at
  pub first : (other : Placed) (cursor : Cursor) → IsMatch geo words state from prefix other cursor → IsBefore cursor stand.at → ⊥
  pub key_len_is : stand.key_len ≡ length placed.key
  pub copied : take stand.key_len out ≡ placed.key

-- what a walk finds: the first one, or that there is none
abbrev pub Walks : Geo → List ℕ → State → Cursor → List ℕ → List ℕ → Option Stand → Type 0
Walks geo words state from prefix out found =
    MatchOption found ((placed : Placed) (cursor : Cursor) → IsMatch geo words state from prefix placed cursor → ⊥)
    (IsFirstMatch geo words state from prefix out)

-- where a walk ends lies in the geometry, whatever words stand there
pub record IsStandIn (geo : Geo) (from : Cursor) (stand : Stand) : Type 0 where
  pub link : stand.at.link < geo.tiers
  pub slot : stand.at.slot < 2 * geo.chunks
  pub key_len : stand.key_len ≤ 256
  pub not_before : IsBefore stand.at from → ⊥

-- ---- on the way

-- a slot and a length that were found in a tier, whatever words stand there
pub record IsInTier (geo : Geo) (first : ℕ) (prefix : List ℕ) (found : ℕ × ℕ) : Type 0 where
  pub not_before : first ≤ found.0
  pub slot : found.0 < 2 * geo.chunks
  pub longer : length prefix ≤ found.1
  pub len : found.1 ≤ 256

-- a slot of the tier at a place points to an entry whose key begins with the prefix
pub record PointsToMatch (geo : Geo) (words : List ℕ) (state : State) (place slot : ℕ) (prefix : List ℕ) (placed : Placed) : Type 0 where
  pub at : IsAt state place placed
  pub points : Points geo words place placed.key placed.chunk slot
  pub prefixed : has_prefix prefix placed.key ≡ true

-- and its key, of so many bytes, is at the beginning of a list
pub record IsMatchCopied (geo : Geo) (words : List ℕ) (state : State) (place slot : ℕ) (prefix out : List ℕ) (len : ℕ) : Type 0 where
  pub placed : Placed
  pub points : PointsToMatch geo words state place slot prefix placed
  pub key_len_is : len ≡ length placed.key
  pub copied : take len out ≡ placed.key

-- it points to no such entry
abbrev pub HasNoMatch : Geo → List ℕ → State → ℕ → List ℕ → ℕ → Type 0
HasNoMatch geo words state place prefix slot = (placed : Placed) → PointsToMatch geo words state place slot prefix placed → ⊥

-- what is read of a slot
abbrev pub ReadsSlot : Geo → List ℕ → State → ℕ → ℕ → List ℕ → List ℕ → Option ℕ → Type 0
ReadsSlot geo words state place slot prefix out found =
    MatchOption found (HasNoMatch geo words state place prefix slot) (IsMatchCopied geo words state place slot prefix out)

-- the slot and the length that were found are those of the first match from a slot on
pub record IsFirstInTier (geo : Geo) (words : List ℕ) (state : State) (place first : ℕ) (prefix out : List ℕ) (found : ℕ × ℕ) : Type 0 where
  pub not_before : first ≤ found.0
  pub copied : IsMatchCopied geo words state place found.0 prefix out found.1
  pub none_before : (slot : ℕ) → first ≤ slot → slot < found.0 → HasNoMatch geo words state place prefix slot

-- what is found in a tier from a slot on
abbrev pub FindsInTier : Geo → List ℕ → State → ℕ → ℕ → List ℕ → List ℕ → Option (ℕ × ℕ) → Type 0
FindsInTier geo words state place first prefix out found =
    MatchOption found ((slot : ℕ) → first ≤ slot → HasNoMatch geo words state place prefix slot) (IsFirstInTier geo words state place first prefix out)

-- the lower half of a slot's word points to this chunk of a tier with so many
pub record IsChunkOfHalf (chunks low chunk : ℕ) : Type 0 where
  pub low_is : low ≡ chunk + 1
  pub below : chunk < chunks
