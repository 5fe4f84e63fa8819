-- The one list of a segment's changes, and what seats have noted of it (own).
use Rattle.std.specs.Prelude.{ℕ, ◌≡◌, ◌+◌, ◌*◌, ◌<◌, ◌≤◌, ◌==◌, true, false, All, List, [], ◌∷◌, count_by, length, slice_get, sum_by, take, Some}
use Rattle.cm_geo.specs.declared.geo.Geo.{Geo}
use Rattle.cm_plain.specs.States.{State}
use Rattle.cm_plain.specs.Changes.{Change, after}
use Rattle.cm_plain.specs.Steps.{Plans, Step, last_number, reply_of}
use Rattle.cm_plain.specs.Slots.{word_at}
use Rattle.cm_lock.specs.declared.view.Key.{Key}
use Rattle.cm_lock.specs.declared.view.NumberedChange.{NumberedChange}
use Rattle.cm_lock.specs.declared.view.NumberedAnswer.{NumberedAnswer}
use Rattle.cm_lock.specs.declared.view.View.{View}
use Rattle.cm_lock.specs.Levels.{plans_in}
use Rattle.cm_lock.specs.Views.{change_in}

-- the state and the number of changes at the start, and the changes since then, in order
pub record ChangeList : Type 0 where
  pub first : State
  pub start : ℕ
  pub changes : List Change

-- how many changes the segment took
abbrev pub number_of : ChangeList → ℕ
number_of list = list.start + length list.changes

-- the state after changes
abbrev pub state_after : Geo → State → List Change → State
state_after geo state [] = state
state_after geo state (c ∷ cs) = state_after geo (after geo c state) cs

-- the state after so many changes of a list, and after all of them
abbrev pub state_at : Geo → ChangeList → ℕ → State
state_at geo list place = state_after geo list.first (take place list.changes)

abbrev pub last_state : Geo → ChangeList → State
last_state geo list = state_after geo list.first list.changes

-- each change is planned for the state that those before it lead to
abbrev pub ArePlanned : Geo → ℕ → State → List Change → Type 0
ArePlanned geo segment state [] = Unit {0}
ArePlanned geo segment state (c ∷ cs) = Plans geo segment state c.op c × ArePlanned geo segment (after geo c state) cs

-- along the list each change is a step of its operation, with the grant of a further tier and the reply to the change, at the number of those
-- before it, from the state that they lead to
abbrev pub AreSteps : Key → ChangeList → Type 0
AreSteps key list = (place : ℕ) (c : Change) → slice_get list.changes place ≡ Some c
    → Step key.geo key.segment (state_at key.geo list place) (list.start + place) true c.op (state_at key.geo list (place + 1)) (reply_of c.kind c.op c.key)

-- the change number is twice so many changes, and one more while a change is under way, which leaves a number for it
pub record CountsChanges (words : List ℕ) (views : List View) (number : ℕ) : Type 0 where
  pub change_number : word_at words 1 ≡ 2 * number + sum_by plans_in views
  pub within_limit : number + sum_by plans_in views ≤ last_number

-- a change that is noted stands on the list at its number
pub record IsListedChange (list : ChangeList) (c : NumberedChange) : Type 0 where
  pub place : ℕ
  pub number_is : c.number ≡ list.start + place + 1
  pub there : slice_get list.changes place ≡ Some (change_in c.change)

-- an answer is that of the step from the state at its number, without a grant
pub record IsListedAnswer (key : Key) (list : ChangeList) (a : NumberedAnswer) : Type 0 where
  pub place : ℕ
  pub number_is : a.number ≡ list.start + place
  pub within : place ≤ length list.changes
  pub step : Step key.geo key.segment (state_at key.geo list place) a.number false a.op (state_at key.geo list place) a.reply

-- what a seat has noted is on the list, and no later than the greatest number that it has seen
pub record KnowsList (key : Key) (list : ChangeList) (v : View) : Type 0 where
  pub changes : All (IsListedChange list) v.changes
  pub answers : All (IsListedAnswer key list) v.answers
  pub seen : v.seen ≤ number_of list
  pub changes_seen : All (λ (c : NumberedChange). c.number ≤ v.seen) v.changes
  pub answers_seen : All (λ (a : NumberedAnswer). a.number ≤ v.seen) v.answers

-- how often a seat has noted a change of this number
abbrev pub change_count : ℕ → View → ℕ
change_count number v = count_by (λ (c : NumberedChange). c.number == number) v.changes

-- the list is that of the segment: its changes are planned one after the other, and each is noted by one seat, once
pub record IsChangeList (key : Key) (list : ChangeList) (views : List View) : Type 0 where
  pub planned : ArePlanned key.geo key.segment list.first list.changes
  pub each : All (KnowsList key list) views
  pub once : (place : ℕ) → place < length list.changes → sum_by (change_count (list.start + place + 1)) views ≡ 1
