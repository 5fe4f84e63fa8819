-- How the removal of an entry is a step of the bounded map.
use Rattle.std.proofs.Common.{◌≡◌, ◌≢◌, ℕ, ◌+◌, ◌==◌, Bool, true, false, List, Option, Some, None, refl, sym, subst, inl, inr}
use Rattle.std.specs.Prelude.{if◌then◌else◌, is_some}
use Rattle.std.proofs.lemmas.Bool.{cases_Bool}
use Rattle.cm_geo.specs.declared.geo.Geo.{Geo}
use Rattle.cm_plain.specs.declared.op.Op.{Op}
use Rattle.cm_plain.specs.declared.op.Op.TheVariants.{Put, Get, PutIfAbsent, Replace, ReplaceIf, Remove, RemoveIf, Count, List as ListAll, Sweep}
use Rattle.cm_plain.specs.declared.plan.PlanKind.TheVariants as kind
use Rattle.cm_plain.specs.declared.reply.Reply.TheVariants as reply
use Rattle.cm_plain.specs.declared.room.Room.TheVariants.{InPlace}
use Rattle.cm_plain.specs.States.{State, entry_of, value_of}
use Rattle.cm_plain.specs.Changes.{placed_value, removing_change, without}
use Rattle.cm_plain.specs.Steps.{Decision, Plans, Step, StepAs, decision, changes_state, is_change, is_value, is_worn, last_number, reply_of, room_wanted, unmet_reply}
use Rattle.cm_plain.specs.Segments.{AnswersOp, IsSegment, Segment, RemovesKey, IsRemovingOp, removal_reply}
use Rattle.cm_plain.proofs.Placements.{removed_state}
use Rattle.cm_plain.proofs.SegmentState.{next_counted}

-- an operation that places nothing wants no room
no_room : (geo : Geo) (state : State) (op : Op) → placed_value op ≡ None → room_wanted geo state op ≡ InPlace
no_room geo state (Put key value) e = cc e
no_room geo state (Get key) e = refl
no_room geo state (PutIfAbsent key value) e = cc e
no_room geo state (Replace key value) e = cc e
no_room geo state (ReplaceIf key expected value) e = cc e
no_room geo state (Remove key) e = refl
no_room geo state (RemoveIf key expected) e = refl
no_room geo state (Count segment) e = refl
no_room geo state (ListAll segment) e = refl
no_room geo state (Sweep segment prefix) e = refl

-- the reply to a removal is one to a change
pub is_removed : (op : Op) (key : List ℕ) → is_change (reply_of kind.Remove op key) ≡ true
is_removed (Put key value) changed = refl
is_removed (Get key) changed = refl
is_removed (PutIfAbsent key value) changed = refl
is_removed (Replace key value) changed = refl
is_removed (ReplaceIf key expected value) changed = refl
is_removed (Remove key) changed = refl
is_removed (RemoveIf key expected) changed = refl
is_removed (Count segment) changed = refl
is_removed (ListAll segment) changed = refl
is_removed (Sweep segment prefix) changed = refl

-- the state without a key's entry
abbrev pub state_without : State → List ℕ → State
state_without state key = record { chain = state.chain; entries = without key state.entries }

-- the segment after a key's entry was removed
abbrev pub segment_without : Segment → List ℕ → Segment
segment_without seen key = record { geo = seen.geo; segment = seen.segment; number = seen.number + 1; state = state_without seen.state key }

-- it is one
pub is_segment_without : (seen : Segment) (key : List ℕ) → IsSegment seen → seen.number ≢ last_number → IsSegment (segment_without seen key)
is_segment_without seen key is counts = record {
  is_state = removed_state seen.geo seen.segment seen.state key is.is_state;
  within_limit = next_counted is counts;
}

-- an entry that was removed was removed by one step
step_removed : (seen : Segment) (grant : Bool) (key : List ℕ) (op : Op) → IsSegment seen → (seen.number == last_number) ≡ false → IsRemovingOp seen key op
    → Step seen.geo seen.segment seen.state seen.number grant op (state_without seen.state key) (reply_of kind.Remove op key)
step_removed seen grant key op is counts takes =
    let change = removing_change seen.geo op key (entry_of key seen.state) in
    let plans : Plans seen.geo seen.segment seen.state op change = record {
      is_state = is.is_state;
      met = takes.met;
      room = rw (no_room seen.geo seen.state op takes.places_none) refl;
      key = takes.keyed;
      change_is = rw takes.places_none refl;
      leads = removed_state seen.geo seen.segment seen.state key is.is_state;
    } in
    let decision_is : decision seen.geo seen.state seen.number grant op ≡ changes_state = rw (takes.met, no_room seen.geo seen.state op takes.places_none, counts) refl in
    subst (λ (it : Decision). StepAs it seen.geo seen.segment seen.state op (state_without seen.state key) (reply_of kind.Remove op key)) (sym decision_is)
    (change, plans, refl, refl)

-- where no number is left, no entry is removed
step_worn : (seen : Segment) (grant : Bool) (key : List ℕ) (op : Op) → (seen.number == last_number) ≡ true → IsRemovingOp seen key op
    → Step seen.geo seen.segment seen.state seen.number grant op seen.state (removal_reply false op key)
step_worn seen grant key op worn takes =
    let decision_is : decision seen.geo seen.state seen.number grant op ≡ is_worn = rw (takes.met, no_room seen.geo seen.state op takes.places_none, worn) refl in
    subst (λ (it : Decision). StepAs it seen.geo seen.segment seen.state op seen.state (removal_reply false op key)) (sym decision_is) (refl, refl)

-- it answers each operation that removes this key's entry
pub removes_without : (seen : Segment) (key : List ℕ) → IsSegment seen → (seen.number == last_number) ≡ false → RemovesKey seen (segment_without seen key) key true
removes_without seen key is counts = record {
  answers = λ op grant takes. record {
    geo_same = refl;
    segment_same = refl;
    step = step_removed seen grant key op is counts takes;
    number_is = rw (is_removed op key) refl;
  };
}

-- where no number is left, the segment as it is answers them
pub removes_worn : (seen : Segment) (key : List ℕ) → (seen.number == last_number) ≡ true → RemovesKey seen seen key false
removes_worn seen key worn = record {
  answers = λ op grant takes. record {
    geo_same = refl;
    segment_same = refl;
    step = step_worn seen grant key op worn takes;
    number_is = refl;
  };
}

-- what is answered to a removal, by whether the entry was removed
pub removal_answered : (old new : Segment) (grant : Bool) (key : List ℕ) (removed : Bool) (op : Op) → ((it : Bool) → removal_reply it op key ≡ (if it then reply.Removed else reply.Worn))
    → IsRemovingOp old key op → RemovesKey old new key removed → AnswersOp old new grant op (if removed then reply.Removed else reply.Worn)
removal_answered old new grant key removed op same for takes = subst (AnswersOp old new grant op) (same removed) (takes.answers op grant for)

-- a key that nothing is answered for has an entry
is_there : (value : Option (List ℕ)) → None ≡ (if is_some value then None else Some reply.Missing) → is_some value ≡ true
is_there None e = cc e
is_there (Some value) e = refl

-- what is answered to a removal
pub remove_answered : (old new : Segment) (grant : Bool) (key : List ℕ) (removed : Bool) → None ≡ (if is_some (value_of key old.state) then None else Some reply.Missing)
    → RemovesKey old new key removed → AnswersOp old new grant (Remove key) (if removed then reply.Removed else reply.Worn)
remove_answered old new grant key removed none takes =
    removal_answered old new grant key removed (Remove key) replies (record { met = is_there (value_of key old.state) none; places_none = refl; keyed = refl }) takes
  where
    replies : (it : Bool) → removal_reply it (Remove key) key ≡ (if it then reply.Removed else reply.Worn)
    replies true = refl
    replies false = refl

-- a key whose value is the expected one
is_expected : (value : Option (List ℕ)) (expected : List ℕ) → None ≡ (if is_value value expected then None else Some (unmet_reply value)) → is_value value expected ≡ true
is_expected value expected e = elim (cases_Bool (is_value value expected)) [
  | inl same ↦ same
  | inr differs ↦ let no = rw differs at e in cc no
]

-- what is answered to a removal where a value is expected
pub remove_if_answered : (old new : Segment) (grant : Bool) (key expected : List ℕ) (removed : Bool)
    → (let value = value_of key old.state in None ≡ (if is_value value expected then None else Some (unmet_reply value)))
    → RemovesKey old new key removed → AnswersOp old new grant (RemoveIf key expected) (if removed then reply.Removed else reply.Worn)
remove_if_answered old new grant key expected removed none takes =
    removal_answered old new grant key removed (RemoveIf key expected) replies (record { met = is_expected (value_of key old.state) expected none; places_none = refl; keyed = refl }) takes
  where
    replies : (it : Bool) → removal_reply it (RemoveIf key expected) key ≡ (if it then reply.Removed else reply.Worn)
    replies true = refl
    replies false = refl
