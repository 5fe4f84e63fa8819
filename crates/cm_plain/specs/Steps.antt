-- One step of the bounded map: the reply to an operation, and the state after it. It is after Chronicle Map in outline for get, put,
-- put-if-absent, replace, replace-if, remove and remove-if, and own for count, list, sweep, the replies and the placement.
use Rattle.std.specs.Prelude.{ℕ, ◌≡◌, ◌^◌, ◌==◌, ◌&&◌, not, Bool, true, false, List, length, Option, Some, None, if◌then◌else◌, is_some, is_none}
use Rattle.std.specs.List.{list_any, starts_with}
use Rattle.std.specs.Prelude.{nat_eq}
use Rattle.std.specs.Str.{bytes_eq}
use Rattle.cm_geo.specs.declared.geo.Geo.{Geo}
use Rattle.cm_geo.specs.Need.{need}
use Rattle.cm_plain.specs.declared.op.Op.{Op}
use Rattle.cm_plain.specs.declared.op.Op.TheVariants.{Put, Get, PutIfAbsent, Replace, ReplaceIf, Remove, RemoveIf, Count, List as ListAll, Sweep}
use Rattle.cm_plain.specs.declared.plan.PlanKind.{PlanKind}
use Rattle.cm_plain.specs.declared.plan.PlanKind.TheVariants as kind
use Rattle.cm_plain.specs.declared.reply.Pair.{Pair}
use Rattle.cm_plain.specs.declared.reply.Reply.{Reply}
use Rattle.cm_plain.specs.declared.reply.Reply.TheVariants as reply
use Rattle.cm_plain.specs.States.{State}
use Rattle.cm_plain.specs.States.{IsState, Lists, entry_of, value_of}
use Rattle.cm_plain.specs.declared.room.Room.{Room}
use Rattle.cm_plain.specs.declared.room.Room.TheVariants.{InPlace}
use Rattle.cm_plain.specs.Rooms.{is_new_tier, is_nowhere, room_for}
use Rattle.cm_plain.specs.Changes.{Change, planned_change, after}

-- the last number of changes that a segment counts to
abbrev pub last_number : ℕ
last_number = 2 ^ 62

-- a key's value is there, and is this one
abbrev pub is_value : Option (List ℕ) → List ℕ → Bool
is_value None expected = false
is_value (Some value) expected = bytes_eq value expected

-- a key begins with the prefix
abbrev pub has_prefix : List ℕ → List ℕ → Bool
has_prefix prefix key = starts_with nat_eq key prefix

-- whether an operation's condition for a change is met
abbrev pub would_change : Op → State → Bool
would_change (Put key value) state = true
would_change (Get key) state = false
would_change (PutIfAbsent key value) state = is_none (value_of key state)
would_change (Replace key value) state = is_some (value_of key state)
would_change (ReplaceIf key expected value) state = is_value (value_of key state) expected
would_change (Remove key) state = is_some (value_of key state)
would_change (RemoveIf key expected) state = is_value (value_of key state) expected
would_change (Count segment) state = false
would_change (ListAll segment) state = false
would_change (Sweep segment prefix) state = list_any (λ entry. has_prefix prefix entry.key) state.entries

-- the answer with a key's value, or that it isn't there
abbrev pub value_reply : Option (List ℕ) → Reply
value_reply None = reply.Missing
value_reply (Some value) = reply.Value value

-- the answer where a value is there and stays
abbrev pub kept_reply : Option (List ℕ) → Reply
kept_reply None = reply.Missing
kept_reply (Some value) = reply.Kept value

-- the answer where a value is not the expected one
abbrev pub unmet_reply : Option (List ℕ) → Reply
unmet_reply None = reply.Missing
unmet_reply (Some value) = reply.Differs

-- the answer where an operation's condition for a change isn't met
abbrev pub AnswersUnchanged : Op → State → Reply → Type 0
AnswersUnchanged (Put key value) state answer = ⊥
AnswersUnchanged (Get key) state answer = answer ≡ value_reply (value_of key state)
AnswersUnchanged (PutIfAbsent key value) state answer = answer ≡ kept_reply (value_of key state)
AnswersUnchanged (Replace key value) state answer = answer ≡ reply.Missing
AnswersUnchanged (ReplaceIf key expected value) state answer = answer ≡ unmet_reply (value_of key state)
AnswersUnchanged (Remove key) state answer = answer ≡ reply.Missing
AnswersUnchanged (RemoveIf key expected) state answer = answer ≡ unmet_reply (value_of key state)
AnswersUnchanged (Count segment) state answer = answer ≡ reply.Count (length state.entries)
AnswersUnchanged (ListAll segment) state answer = (pairs : List Pair) × Lists state pairs × (answer ≡ reply.Pairs pairs)
AnswersUnchanged (Sweep segment prefix) state answer = answer ≡ reply.SweptAll

-- the key that an operation changes; a sweep removes any one key with its prefix
abbrev pub ChangesKey : Op → State → List ℕ → Type 0
ChangesKey (Put key value) state changed = changed ≡ key
ChangesKey (Get key) state changed = ⊥
ChangesKey (PutIfAbsent key value) state changed = changed ≡ key
ChangesKey (Replace key value) state changed = changed ≡ key
ChangesKey (ReplaceIf key expected value) state changed = changed ≡ key
ChangesKey (Remove key) state changed = changed ≡ key
ChangesKey (RemoveIf key expected) state changed = changed ≡ key
ChangesKey (Count segment) state changed = ⊥
ChangesKey (ListAll segment) state changed = ⊥
ChangesKey (Sweep segment prefix) state changed = (has_prefix prefix changed ≡ true) × (is_some (entry_of changed state) ≡ true)

-- the room that an operation needs, if it places a value
abbrev pub room_wanted : Geo → State → Op → Room
room_wanted geo state (Put key value) = room_for geo state key (need geo (length key) (length value))
room_wanted geo state (PutIfAbsent key value) = room_for geo state key (need geo (length key) (length value))
room_wanted geo state (Replace key value) = room_for geo state key (need geo (length key) (length value))
room_wanted geo state (ReplaceIf key expected value) = room_for geo state key (need geo (length key) (length value))
room_wanted geo state _ = InPlace

-- the plan of a change that an operation makes to a state: there is room for the value, if one is placed, and what it leads to is a state again
pub record Plans (geo : Geo) (segment : ℕ) (state : State) (op : Op) (change : Change) : Type 0 where
  pub is_state : IsState geo segment state
  pub met : would_change op state ≡ true
  pub room : is_nowhere (room_wanted geo state op) ≡ false
  pub key : ChangesKey op state change.key
  pub change_is : change ≡ planned_change geo state op change.key
  pub leads : IsState geo segment (after geo change state)

-- the reply to a change
abbrev pub reply_of : PlanKind → Op → List ℕ → Reply
reply_of kind.Remove (Sweep segment prefix) key = reply.Swept key
reply_of kind.Remove op key = reply.Removed
reply_of kind.Fresh op key = reply.New
reply_of kind.InPlace op key = reply.Replaced
reply_of kind.Relocate op key = reply.Replaced

-- what is done with an operation
pub data Decision : Type 0 where
  no_change : Decision
  is_full : Decision
  is_worn : Decision
  is_spent : Decision
  changes_state : Decision

-- what is done with a change that wants this room: there is none in a chain that may not grow; no number is left; a new tier isn't granted
abbrev pub decision_in : Room → ℕ → Bool → Decision
decision_in room number grant =
    if is_nowhere room then is_full
    else (if number == last_number then is_worn else (if is_new_tier room && not grant then is_spent else changes_state))

-- the first of these that applies: the condition isn't met, or what is done with the change
abbrev pub decision : Geo → State → ℕ → Bool → Op → Decision
decision geo state number grant op = if would_change op state then decision_in (room_wanted geo state op) number grant else no_change

-- what a decision leads to: the state after it, and the reply
abbrev pub StepAs : Decision → Geo → ℕ → State → Op → State → Reply → Type 0
StepAs no_change geo segment state op later answer = (later ≡ state) × AnswersUnchanged op state answer
StepAs is_full geo segment state op later answer = (later ≡ state) × (answer ≡ reply.FullChain)
StepAs is_worn geo segment state op later answer = (later ≡ state) × (answer ≡ reply.Worn)
StepAs is_spent geo segment state op later answer = (later ≡ state) × (answer ≡ reply.FullSpent)
StepAs changes_state geo segment state op later answer =
    (change : Change) × Plans geo segment state op change × (later ≡ after geo change state) × (answer ≡ reply_of change.kind op change.key)

-- an operation leads from a state after so many changes, with or without the grant of a further tier, to a state and a reply
abbrev pub Step : Geo → ℕ → State → ℕ → Bool → Op → State → Reply → Type 0
Step geo segment state number grant op later answer = StepAs (decision geo state number grant op) geo segment state op later answer

-- the replies to a change
abbrev pub is_change : Reply → Bool
is_change reply.New = true
is_change reply.Replaced = true
is_change reply.Removed = true
is_change (reply.Swept key) = true
is_change _ = false
