-- What a segment is left with (own): the last state of its history, or what a dead caller made of it.
use Rattle.std.specs.Prelude.{ℕ, ◌≡◌, ◌+◌, ◌≤◌, ◌⊎◌, true, false, List, Contains, Some}
use Rattle.cm_geo.specs.declared.geo.Geo.{Geo}
use Rattle.cm_plain.specs.Changes.{Change, after}
use Rattle.cm_plain.specs.States.{State, value_of}
use Rattle.cm_plain.specs.Steps.{Plans, changes_state, decision}
use Rattle.cm_plain.specs.Outcomes.{Outcome}
use Rattle.cm_script.specs.declared.line.Line.{Line}
use Rattle.cm_script.specs.declared.report.CallerEnd.{CallerEnd}
use Rattle.cm_plain.specs.declared.found.SegFound.{SegFound}
use Rattle.cm_plain.specs.declared.receipt.Receipt.{Receipt}
use Rattle.cm_script.specs.Answers.{line_at}
use Rattle.cm_script.specs.Ends.{dead_ends_in}
use Rattle.cm_script.specs.Locks.{Held, flight_at, has_write, lock_at, writing}

-- a change that a caller was at when it died: the next step of its end's record, from the last state of the segment's history, after so many
-- changes
pub record Tail (geo : Geo) (script : List Line) (ends : List CallerEnd) (held : ℕ → Held) (segment : ℕ) (state : State) (number : ℕ)
    (change : Change) : Type 0 where
  pub end : CallerEnd
  pub line : Line
  -- the caller died at a record of this segment
  pub dead : Contains (dead_ends_in geo script ends segment) end
  -- and held the write lock
  pub writes : held end.caller ≡ writing
  -- this is the record
  pub line_is : line_at script end.line ≡ Some line
  -- its next step would be a change
  pub next : decision geo state number true line.op ≡ changes_state
  -- this one, of any key that it may take
  pub plans : Plans geo segment state line.op change

-- how a segment was left
pub data Left : Type 0 where
  -- no change was begun, or nothing of it is seen
  as_answered : Left
  -- a change was complete, and its answer is missing
  changed : Change → Left
  -- a change was broken off
  torn : Change → Left

-- how many changes the answers may know of, where so many are answered
abbrev pub most_seen : Left → ℕ → ℕ
most_seen as_answered many = many
most_seen (changed change) many = many + 1
most_seen (torn change) many = many

-- a change was complete: nothing is under way, and the states go on with the state after it
pub record LeftChanged (geo : Geo) (script : List Line) (receipts : List Receipt) (ends : List CallerEnd) (held : ℕ → Held) (found : List SegFound) (segment : ℕ) (states : ℕ → State)
    (before many : ℕ) (change : Change) (last : State) : Type 0 where
  -- nothing is under way
  pub quiet : flight_at found segment ≡ false
  -- a writer died
  pub writing : has_write (lock_at found segment) ≡ true
  -- the change is a dead caller's
  pub tail : Tail geo script ends held segment (states many) (before + many) change
  -- the dead caller's own answers came before its change
  pub own_before : (receipt : Receipt) → Contains receipts receipt → receipt.segment ≡ segment → receipt.caller ≡ tail.end.caller → receipt.number ≤ before + many
  -- answers with one number more are from the state after it
  pub next_is : states (many + 1) ≡ after geo change (states many)
  -- and the segment is left with that state
  pub last_is : last ≡ after geo change (states many)

-- a change was broken off: each other key has its last value, and the change's key an outcome
pub record LeftTorn (geo : Geo) (script : List Line) (ends : List CallerEnd) (held : ℕ → Held) (found : List SegFound) (segment : ℕ) (states : ℕ → State)
    (before many : ℕ) (change : Change) (last : State) : Type 0 where
  -- a change is under way
  pub flight : flight_at found segment ≡ true
  -- the change is a dead caller's
  pub tail : Tail geo script ends held segment (states many) (before + many) change
  -- the chain is that of the last answered state, or the one that the change leads to
  pub chain : (last.chain ≡ (states many).chain) ⊎ (last.chain ≡ (after geo change (states many)).chain)
  -- the segment is left with an outcome of it
  pub outcome : Outcome geo (states many) change (λ key. value_of key last)

-- a segment whose answers lead to a state after so many changes is left so, with this state
abbrev pub IsLeft : Left → Geo → List Line → List Receipt → List CallerEnd → (ℕ → Held) → List SegFound → ℕ → (ℕ → State) → ℕ → ℕ → State → Type 0
IsLeft as_answered geo script receipts ends held found segment states before many last = (flight_at found segment ≡ false) × (last ≡ states many)
IsLeft (changed change) geo script receipts ends held found segment states before many last =
    LeftChanged geo script receipts ends held found segment states before many change last
IsLeft (torn change) geo script receipts ends held found segment states before many last =
    LeftTorn geo script ends held found segment states before many change last
