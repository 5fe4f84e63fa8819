-- What is found of a key's value, and which operations place a value for a key, or take its entry away (own).
use Rattle.std.specs.Prelude.{ℕ, ◌≡◌, ◌≢◌, ◌⊎◌, true, List, Option, Some, None, IsSomeAnd, is_some, take, MatchOption}
use Rattle.cm_geo.specs.declared.geo.Geo.{Geo}
use Rattle.cm_plain.specs.declared.op.Op.{Op}
use Rattle.cm_plain.specs.States.{State, entry_of}
use Rattle.cm_plain.specs.Segments.{IsPlacingOp, IsRemovingOp, Segment}
use Rattle.cm_plain.specs.Steps.{has_prefix}
use Rattle.cm_plain.specs.Lawful.{Resting}
use Rattle.cm_words.specs.Memory.{FitsNotes, MemSeen}
use Rattle.cm_plain.specs.declared.plan.Plan.{Plan}
use Rattle.cm_segment.specs.declared.planning.Planned.{Planned}
use Rattle.cm_segment.specs.declared.planning.Planned.TheVariants.{Ready, NeedsTier}
use Rattle.cm_segment.specs.declared.seek.Sight.{Sight}
use Rattle.cm_segment.specs.Sights.{FindsKey}
use Rattle.cm_turn.specs.declared.conditions.Comparison.{Comparison}
use Rattle.cm_turn.specs.declared.conditions.Comparison.TheVariants.{Missing, Differs, Same}

-- ---- what is found

-- a key's value is at the beginning of a list, with so many bytes, or isn't there
abbrev pub FindsValue : Option (List ℕ) → List ℕ → Option ℕ → Type 0
FindsValue value out found = MatchOption found (value ≡ None) (λ len. value ≡ Some (take len out))

-- a key's value beside an expected one
abbrev pub Compares : Option (List ℕ) → List ℕ → Comparison → Type 0
Compares value expected Missing = value ≡ None
Compares value expected Differs = IsSomeAnd value (λ present. present ≢ expected)
Compares value expected Same = value ≡ Some expected

-- something is so of each state here
abbrev pub EachHere : MemSeen → Geo → (State → Type 0) → Type 0
EachHere m geo IsSo = (words : List ℕ) (state : State) → FitsNotes m words → Resting geo m.setting.segment words state → IsSo state

-- a key's entry stands so in each list of words here, or is in none
abbrev pub FindsHere : MemSeen → Geo → List ℕ → Option Sight → Type 0
FindsHere m geo key found =
    (words : List ℕ) (state : State) → FitsNotes m words → Resting geo m.setting.segment words state → FindsKey geo words state key found

-- no state here has an entry of the key
abbrev pub IsAbsentHere : MemSeen → Geo → List ℕ → Type 0
IsAbsentHere m geo key = EachHere m geo (λ state. entry_of key state ≡ None)

-- ---- what is done with a key

-- a segment in this state
abbrev segment_in : MemSeen → Geo → State → Segment
segment_in m geo state = record { geo = geo; segment = m.setting.segment; number = 0; state = state }

-- an operation places this value for this key in each state here
abbrev pub PlacesHere : MemSeen → Geo → List ℕ → List ℕ → Op → Type 0
PlacesHere m geo key value op = EachHere m geo (λ state. IsPlacingOp (segment_in m geo state) key value op)

-- an operation takes this key's entry away in each state here that has one
abbrev pub TakesAwayHere : MemSeen → Geo → List ℕ → Op → Type 0
TakesAwayHere m geo key op =
    EachHere m geo (λ state. is_some (entry_of key state) ≡ true → IsRemovingOp (segment_in m geo state) key op)

-- where words are those of a state here, a key begins with the prefix, and the state has an entry of it
pub record IsSwept (m : MemSeen) (geo : Geo) (prefix key : List ℕ) : Type 0 where
  pub prefixed : EachHere m geo (λ state. has_prefix prefix key ≡ true)
  pub there : EachHere m geo (λ state. is_some (entry_of key state) ≡ true)

-- this is what was planned, whether it links a tier or not
abbrev pub IsPlanned : Planned → Plan → Type 0
IsPlanned planned plan = (planned ≡ Ready plan) ⊎ (planned ≡ NeedsTier plan)
