-- What may stand in a segment after a change of it was broken off (own).
use Rattle.std.specs.Prelude.{ℕ, ◌≡◌, ◌≢◌, ◌⊎◌, List, length, Option, Some, None}
use Rattle.cm_geo.specs.declared.geo.Geo.{Geo}
use Rattle.cm_plain.specs.declared.plan.PlanKind.TheVariants as kind
use Rattle.cm_plain.specs.States.{State, value_of}
use Rattle.cm_plain.specs.Changes.{Change, after}
use Rattle.cm_plain.specs.Readings.{entry_checksum}

-- A collision: a value that is none of the two, while one is replaced by the other in place: it is as long as one of them, and its checksum is by chance
-- that of the old one.
pub record IsCollision (geo : Geo) (state : State) (change : Change) (value : List ℕ) : Type 0 where
  pub in_place : change.kind ≡ kind.InPlace
  pub old : List ℕ
  pub new : List ℕ
  pub old_is : value_of change.key state ≡ Some old
  pub new_is : value_of change.key (after geo change state) ≡ Some new
  pub not_old : value ≢ old
  pub not_new : value ≢ new
  pub as_long : (length value ≡ length old) ⊎ (length value ≡ length new)
  pub checksum_same : entry_checksum change.key value ≡ entry_checksum change.key old

-- what the change's key may have: what it had, or what the change gives it; nothing, or a collision, where it was replaced in place
abbrev pub IsChangeOutcome : Geo → State → Change → Option (List ℕ) → Type 0
IsChangeOutcome geo state change None =
    ((value_of change.key state ≡ None) ⊎ (value_of change.key (after geo change state) ≡ None)) ⊎ (change.kind ≡ kind.InPlace)
IsChangeOutcome geo state change (Some value) =
    ((value_of change.key state ≡ Some value) ⊎ (value_of change.key (after geo change state) ≡ Some value)) ⊎ IsCollision geo state change value

-- values of keys that may stand after a change of a state was broken off: each other key has what it had
pub record Outcome (geo : Geo) (state : State) (change : Change) (contents : List ℕ → Option (List ℕ)) : Type 0 where
  pub others : (key : List ℕ) → key ≢ change.key → contents key ≡ value_of key state
  pub its : IsChangeOutcome geo state change (contents change.key)
