-- A segment as its callers see it (own).
use Rattle.std.specs.Prelude.{ℕ, ◌≡◌, ◌+◌, ◌≤◌, Bool, true, false, List, length, All, Some, None, if◌then◌else◌, is_some}
use Rattle.std.specs.Cmp.Lexicographic.{slice_cmp}
use Rattle.std.specs.Ordering.{is_lt, nat_cmp}
use Rattle.cm_geo.specs.declared.geo.Geo.{Geo}
use Rattle.cm_plain.specs.declared.op.Op.{Op}
use Rattle.cm_plain.specs.declared.op.Op.TheVariants.{Sweep}
use Rattle.cm_plain.specs.declared.placed.Placed.{Placed}
use Rattle.cm_plain.specs.declared.plan.PlanKind.TheVariants as kind
use Rattle.cm_plain.specs.declared.reply.Reply.{Reply}
use Rattle.cm_plain.specs.declared.reply.Reply.TheVariants as reply
use Rattle.cm_plain.specs.States.{State, IsState, entry_among}
use Rattle.cm_geo.specs.Need.{need}
use Rattle.cm_plain.specs.Changes.{placed_value}
use Rattle.cm_plain.specs.Rooms.{room_for}
use Rattle.cm_plain.specs.Steps.{ChangesKey, Step, has_prefix, is_change, last_number, reply_of, room_wanted, would_change}

-- the geometry, the segment's index, how many changes it took, and its state
pub record Segment : Type 0 where
  pub geo : Geo
  pub segment : ℕ
  pub number : ℕ
  pub state : State

-- the state is one, and the number counts no further than it may
pub record IsSegment (seen : Segment) : Type 0 where
  pub is_state : IsState seen.geo seen.segment seen.state
  pub within_limit : seen.number ≤ last_number

-- an operation was answered by one step of the bounded map; a change takes the next number
pub record AnswersOp (old new : Segment) (grant : Bool) (op : Op) (answer : Reply) : Type 0 where
  pub geo_same : new.geo ≡ old.geo
  pub segment_same : new.segment ≡ old.segment
  pub step : Step old.geo old.segment old.state old.number grant op new.state answer
  pub number_is : new.number ≡ (if is_change answer then old.number + 1 else old.number)

-- an operation places this value for this key
pub record IsPlacingOp (seen : Segment) (key value : List ℕ) (op : Op) : Type 0 where
  pub met : would_change op seen.state ≡ true
  pub placed : placed_value op ≡ Some value
  pub keyed : ChangesKey op seen.state key
  pub wanted : room_wanted seen.geo seen.state op ≡ room_for seen.geo seen.state key (need seen.geo (length key) (length value))

-- each operation that places this value for this key was answered
pub record PlacesValue (old new : Segment) (grant : Bool) (key value : List ℕ) (answer : Reply) : Type 0 where
  pub answers : (op : Op) → IsPlacingOp old key value op → AnswersOp old new grant op answer

-- an operation removes this key's entry
pub record IsRemovingOp (seen : Segment) (key : List ℕ) (op : Op) : Type 0 where
  pub met : would_change op seen.state ≡ true
  pub places_none : placed_value op ≡ None
  pub keyed : ChangesKey op seen.state key

-- the reply to an operation that removes a key's entry, or whose change can't be counted any more
abbrev pub removal_reply : Bool → Op → List ℕ → Reply
removal_reply true op key = reply_of kind.Remove op key
removal_reply false op key = reply.Worn

-- each operation that removes this key's entry was answered; none of them needs a grant
pub record RemovesKey (old new : Segment) (key : List ℕ) (removed : Bool) : Type 0 where
  pub answers : (op : Op) (grant : Bool) → IsRemovingOp old key op → AnswersOp old new grant op (removal_reply removed op key)

-- no key with the prefix is below this one in byte order
abbrev pub IsLeast : List ℕ → List Placed → List ℕ → Type 0
IsLeast prefix entries key = All (λ entry. has_prefix prefix entry.key ≡ true → is_lt (slice_cmp nat_cmp entry.key key) ≡ false) entries

-- this key has an entry and the prefix, and no key with the prefix is below it
pub record IsLeastKey (prefix : List ℕ) (entries : List Placed) (key : List ℕ) : Type 0 where
  pub there : is_some (entry_among key entries) ≡ true
  pub prefixed : has_prefix prefix key ≡ true
  pub least : IsLeast prefix entries key

-- a key that a sweep removes is the least one with its prefix
abbrev pub SweepsLeast : State → Op → Reply → Type 0
SweepsLeast state (Sweep segment prefix) (reply.Swept key) = IsLeast prefix state.entries key
SweepsLeast state op answer = Unit {0}

-- each sweep with the prefix was answered, whatever segment it names; it needs no grant
pub record AnswersSweeps (old new : Segment) (prefix : List ℕ) (answer : Reply) : Type 0 where
  pub answers : (segment : ℕ) (grant : Bool) → AnswersOp old new grant (Sweep segment prefix) answer
  pub least : (segment : ℕ) → SweepsLeast old.state (Sweep segment prefix) answer
