-- What the calls of all passes are at the end (own).
use Rattle.std.specs.Prelude.{ℕ, ◌≢◌, ◌+◌, ◌<◌, All, Any, List, ◌++◌}
use Rattle.cm_geo.specs.declared.geo.Geo.{Geo}
use Rattle.cm_plain.specs.History.{Call, Legal, change_count}
use Rattle.cm_plain.specs.Lawful.{Lawful}
use Rattle.cm_plain.specs.States.{State}
use Rattle.cm_lock.specs.declared.view.View.{View}
use Rattle.cm_yard.specs.declared.view.StopNumber.{StopNumber}
use Rattle.cm_yard.specs.declared.view.View.{View as YardView}
use Rattle.cm_words.specs.Maps.{MapWords, segment_in}
use Rattle.cm_laws.specs.Laws.{LeavesNothing}
use Rattle.cm_history.specs.Kept.{KeepsCalls}

-- two lists of calls are of callers that differ
abbrev pub AreApart : List Call → List Call → Type 0
AreApart calls others = All (λ (call : Call). All (λ (other : Call). call.receipt.caller ≢ other.receipt.caller) others) calls

-- the calls of both
abbrev pub both : (ℕ → List Call) → (ℕ → List Call) → ℕ → List Call
both calls others segment = calls segment ++ others segment

-- some stop word was found with a number
abbrev pub HasFoundStop : YardView → Type 0
HasFoundStop claims = Any (λ (s : StopNumber). s.number ≢ 0) claims.stops

-- the root holds nothing, and took over these calls, and nothing else, from passes that hold nothing
pub record KeepsRoot (extra : ℕ) (calls : ℕ → List Call) (roots : List View) (claims : YardView) : Type 0 where
  pub kept : KeepsCalls extra calls roots claims
  pub nothing : All LeavesNothing roots

-- The calls of a segment are one legal history, from the state and the number of its first words on, and its last words stand for the history's
-- last state
pub record EndsLegal (geo : Geo) (segment : ℕ) (old now : List ℕ) (calls : List Call) : Type 0 where
  pub first : State
  pub before : ℕ
  pub states : ℕ → State
  pub begins : Lawful geo segment old before first
  pub legal : Legal geo segment first before states (change_count calls) calls
  pub ends : Lawful geo segment now (before + change_count calls) (states (change_count calls))

-- so it is of each segment of a map
abbrev pub EndsLegalAll : MapWords → MapWords → (ℕ → List Call) → Type 0
EndsLegalAll old now calls = (segment : ℕ) → segment < old.geo.segments → EndsLegal old.geo segment (segment_in old segment) (segment_in now segment) (calls segment)
