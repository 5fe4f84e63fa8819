-- Linear probing of a tier (after Chronicle Map; the direction is own): from the home of a fingerprint upwards, and from the last slot to the
-- first.
use Rattle.std.specs.Prelude.{ℕ, ◌≡◌, ◌≢◌, ◌+◌, ◌*◌, ◌/◌, ◌%◌, ◌^◌, ◌<◌, ◌≤◌, List, Option, None, Some, MatchOption}
use Rattle.cm_geo.specs.declared.geo.Geo.{Geo}
use Rattle.cm_geo.specs.Hash.{home_in}
use Rattle.cm_plain.specs.Slots.{slot_in}
use Rattle.cm_plain.specs.Lawful.{slot_behind}
use Rattle.cm_lookup.specs.declared.hit.Hit.{Hit}
use Rattle.cm_lookup.specs.declared.hit.SlotParts.{SlotParts}

-- the slot so many steps from the home of a fingerprint
abbrev pub probe : Geo → ℕ → ℕ → ℕ
probe geo fingerprint steps = slot_behind (2 * geo.chunks) (home_in geo fingerprint) steps

-- that slot is empty
abbrev pub IsEmptyAt : Geo → List ℕ → ℕ → ℕ → ℕ → Type 0
IsEmptyAt geo words place fingerprint steps = slot_in geo words place (probe geo fingerprint steps) ≡ None

-- the slot holds the fingerprint and points to a chunk of the tier
pub record IsHit (geo : Geo) (words : List ℕ) (place fingerprint : ℕ) (hit : Hit) : Type 0 where
  pub slot_is : hit.slot ≡ probe geo fingerprint hit.steps
  pub found : slot_in geo words place hit.slot ≡ Some (record { fingerprint = fingerprint; chunk = Some hit.chunk })
  pub below : hit.chunk < geo.chunks

-- a search goes on behind the slot so many steps from the home: it is neither empty nor a hit
pub record IsPassed (geo : Geo) (words : List ℕ) (place fingerprint steps : ℕ) : Type 0 where
  pub occupied : slot_in geo words place (probe geo fingerprint steps) ≢ None
  pub other : (hit : Hit) → hit.steps ≡ steps → IsHit geo words place fingerprint hit → ⊥

-- the first hit at so many steps or more, before an empty slot that stands there
pub record IsFirstHit (geo : Geo) (words : List ℕ) (place fingerprint from : ℕ) (hit : Hit) : Type 0 where
  pub not_before : from ≤ hit.steps
  pub inside : hit.steps < 2 * geo.chunks
  pub hits : IsHit geo words place fingerprint hit
  pub before : (steps : ℕ) → from ≤ steps → steps < hit.steps → IsPassed geo words place fingerprint steps

-- no hit at so many steps or more, up to an empty slot that stands there, or to the end of a whole round from the home
pub record HasNoHit (geo : Geo) (words : List ℕ) (place fingerprint from : ℕ) : Type 0 where
  pub end : ℕ
  pub not_before : from ≤ end
  pub inside : end ≤ 2 * geo.chunks
  pub empty : end < 2 * geo.chunks → IsEmptyAt geo words place fingerprint end
  pub before : (steps : ℕ) → from ≤ steps → steps < end → IsPassed geo words place fingerprint steps

-- a hit's numbers are those of a tier, whatever words stand there
pub record IsWithin (geo : Geo) (from : ℕ) (hit : Hit) : Type 0 where
  pub not_before : from ≤ hit.steps
  pub steps : hit.steps < 2 * geo.chunks
  pub slot : hit.slot < 2 * geo.chunks
  pub chunk : hit.chunk < geo.chunks

-- what a search at so many steps or more finds
abbrev pub Finds : Geo → List ℕ → ℕ → ℕ → ℕ → Option Hit → Type 0
Finds geo words place fingerprint from found =
    MatchOption found (HasNoHit geo words place fingerprint from) (IsFirstHit geo words place fingerprint from)

-- the slot is the first empty one from the home of a fingerprint on
pub record IsFirstEmpty (geo : Geo) (words : List ℕ) (place fingerprint slot : ℕ) : Type 0 where
  pub steps : ℕ
  pub inside : steps < 2 * geo.chunks
  pub slot_is : slot ≡ probe geo fingerprint steps
  pub empty : slot_in geo words place slot ≡ None
  pub before : (earlier : ℕ) → earlier < steps → slot_in geo words place (probe geo fingerprint earlier) ≢ None

-- the halves of a word
pub record AreHalves (word : ℕ) (parts : SlotParts) : Type 0 where
  pub upper : parts.fingerprint ≡ word / 2 ^ 32
  pub lower : parts.low ≡ word % 2 ^ 32

-- a word holds this fingerprint and points to this chunk of a tier with so many
pub record PointsTo (word fingerprint chunks chunk : ℕ) : Type 0 where
  pub upper : word / 2 ^ 32 ≡ fingerprint
  pub lower : word % 2 ^ 32 ≡ chunk + 1
  pub below : chunk < chunks

-- the chunk to which a word points for a fingerprint
abbrev pub ChunkFor : ℕ → ℕ → ℕ → Option ℕ → Type 0
ChunkFor word fingerprint chunks found = MatchOption found ((chunk : ℕ) → PointsTo word fingerprint chunks chunk → ⊥) (PointsTo word fingerprint chunks)
