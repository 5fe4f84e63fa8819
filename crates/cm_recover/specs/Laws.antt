-- What the laws of recovery say of a map's words (own).
use Rattle.std.specs.Prelude.{ℕ, ◌≡◌, ◌<◌, List, [], length, All}
use Rattle.cm_geo.specs.declared.geo.Geo.{Geo}
use Rattle.cm_geo.specs.Addresses.{words_in_segment}
use Rattle.cm_plain.specs.declared.op.Op.{Op}
use Rattle.cm_plain.specs.States.{IsState, State, value_of}
use Rattle.cm_plain.specs.Changes.{Change}
use Rattle.cm_plain.specs.Steps.{Plans}
use Rattle.cm_plain.specs.FoundChains.{KeepsAllowance}
use Rattle.cm_plain.specs.Lawful.{LawfulApart}
use Rattle.cm_plain.specs.Torn.{Torn}
use Rattle.cm_recover.specs.declared.cause.Cause.{Cause}
use Rattle.cm_recover.specs.declared.cause.Cause.TheVariants as cause
use Rattle.cm_recover.specs.KeptSlots.{kept_in, kept_state}
use Rattle.cm_plain.specs.Outcomes.{Outcome}

-- the words of a segment, as many as it has, are torn for a state and a change that is planned for it
pub record IsTorn (geo : Geo) (segment : ℕ) (words : List ℕ) (state : State) (op : Op) (change : Change) : Type 0 where
  pub length_is : length words ≡ words_in_segment geo
  pub plans : Plans geo segment state op change
  pub torn : Torn geo words state change

-- the causes for which slots of torn words are dropped
abbrev pub IsCauseOfTorn : Cause → Type 0
IsCauseOfTorn cause.Checksum = Unit {0}
IsCauseOfTorn cause.Padding = Unit {0}
IsCauseOfTorn cause.Duplicate = Unit {0}
IsCauseOfTorn _ = ⊥

-- what is kept of torn words is a state and an outcome of the change, and no slot is dropped for another cause
pub record KeepsOutcome (geo : Geo) (words_of : ℕ → List ℕ) (segment : ℕ) (state : State) (change : Change) : Type 0 where
  pub is_state : IsState geo segment (kept_state geo words_of segment)
  pub outcome : Outcome geo state change (λ key. value_of key (kept_state geo words_of segment))
  pub drops : All IsCauseOfTorn (kept_in geo words_of segment).drops

-- it is so for each segment with such words
abbrev pub KeepsOutcomes : Geo → (ℕ → List ℕ) → Type 0
KeepsOutcomes geo words_of =
    (segment : ℕ) (state : State) (op : Op) (change : Change) → segment < geo.segments
    → IsTorn geo segment (words_of segment) state op change → KeepsOutcome geo words_of segment state change

-- what is kept of words that represent a state is that state, and nothing is dropped
pub record KeepsState (geo : Geo) (words_of : ℕ → List ℕ) (segment : ℕ) (state : State) : Type 0 where
  pub state_is : kept_state geo words_of segment ≡ state
  pub no_drops : (kept_in geo words_of segment).drops ≡ []

-- it is so for each segment with such words, whatever its lock word and its change number
abbrev pub KeepsStates : Geo → (ℕ → List ℕ) → Type 0
KeepsStates geo words_of =
    (segment : ℕ) (state : State) → segment < geo.segments → LawfulApart geo segment (words_of segment) state → KeepsState geo words_of segment state

-- what is kept of a segment is a state, whatever stands in its words, as many as it has
abbrev pub GivesStates : Geo → (ℕ → List ℕ) → Type 0
GivesStates geo words_of = (segment : ℕ) → length (words_of segment) ≡ words_in_segment geo → IsState geo segment (kept_state geo words_of segment)

-- recovered words keep the allowance, and a second recovery keeps each state and drops nothing
pub record KeepsRecovered (geo : Geo) (old new : ℕ → List ℕ) : Type 0 where
  pub allowance : KeepsAllowance geo new
  pub same : (segment : ℕ) → segment < geo.segments → KeepsState geo new segment (kept_state geo old segment)
