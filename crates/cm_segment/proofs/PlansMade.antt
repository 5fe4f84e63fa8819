-- The change of a state that places a value for a key, or removes it, is the plan of each operation that does so: a plan of it may begin.
use Rattle.std.proofs.Common.{◌≡◌, ◌∙◌, inl, inr, ℕ, ◌≤◌, Bool, true, false, List, [], length, nat_lt, Option, Some, None, IfSome, refl, sym, ap, subst, arith}
use Rattle.std.specs.Option.{option_map}
use Rattle.std.proofs.lemmas.Bool.{cases_Bool}
use Rattle.std.proofs.lemmas.Option.{same_Some}
use Rattle.cm_geo.specs.declared.geo.Geo.{Geo}
use Rattle.cm_geo.specs.declared.limits.TheConstants.{MAX_KEY_BYTES, MAX_VALUE_BYTES}
use Rattle.cm_geo.specs.Hash.{segment_of_key}
use Rattle.cm_geo.specs.Need.{Fits, need}
use Rattle.cm_plain.specs.declared.op.Op.{Op}
use Rattle.cm_plain.specs.declared.op.Op.TheVariants.{Put, Remove}
use Rattle.cm_plain.specs.declared.placed.Placed.{Placed}
use Rattle.cm_plain.specs.declared.plan.Plan.{Plan}
use Rattle.cm_plain.specs.declared.plan.PlanKind.TheVariants as kind
use Rattle.cm_plain.specs.declared.plan.Run.{Run}
use Rattle.cm_plain.specs.declared.room.Room.{Room}
use Rattle.cm_plain.specs.declared.room.Room.TheVariants.{InPlace, Elsewhere, NewTier, Nowhere}
use Rattle.cm_plain.specs.declared.room.Spot.{Spot}
use Rattle.cm_plain.specs.States.{IsState, State, entry_of}
use Rattle.cm_plain.specs.Rooms.{can_stay, first_fit, is_nowhere, room_apart, room_beside, room_for, spot_in}
use Rattle.cm_plain.specs.Changes.{Change, after, change_of, placing_change, planned_change, run_of}
use Rattle.cm_plain.specs.Lawful.{Resting}
use Rattle.cm_plain.specs.Plans.{IsShort, IsShortOp, op_of_ask, plan_change}
use Rattle.cm_plain.specs.Segments.{IsPlacingOp, IsRemovingOp}
use Rattle.cm_plain.specs.Slots.{Points}
use Rattle.cm_plain.specs.Steps.{ChangesKey, Plans, room_wanted, would_change}
use Rattle.cm_plain.proofs.OutsideHead.{resting_represents}
use Rattle.cm_plain.proofs.Placements.{placed_state, removed_state}
use Rattle.cm_plain.proofs.PlacementSteps.{state_with}
use Rattle.cm_words.specs.Memory.{FitsNotes, IsPlanHere, MemSeen}
use Rattle.cm_segment.specs.declared.planning.Old.{Old}
use Rattle.cm_segment.specs.declared.planning.Planned.{Planned}
use Rattle.cm_segment.specs.declared.planning.Planned.TheVariants.{Ready, NeedsTier, FullChain}
use Rattle.cm_segment.specs.PlanNumbers.{IsPlanIn, PointsAt}
use Rattle.cm_segment.specs.Planning.{IfPlan, IsPlanOf, IsPutOf, MayBegin, PlansPut}
use Rattle.cm_segment.specs.OldEntries.{IsOldIn, IsOldOf, run_of_old, slot_of_old}
use Rattle.cm_segment.specs.RoomPlans.{IsRoomIn, PlansBeside, PutsBeside}
use Rattle.cm_segment.proofs.OldEntries.{points_old, run_is_old}
use Rattle.cm_segment.proofs.RoomPlans.{plan_in}

-- ---- the state that a change leads to

-- the state after a change that places a value is the one with the value in its room
after_is : (geo : Geo) (state : State) (op : Op) (key value : List ℕ) (room : Room) (old : Option Placed) (chunks : ℕ) (spot : Spot)
    → spot_in room old ≡ Some spot
    → after geo (placing_change geo op key value old room chunks) state ≡ state_with geo state key value room spot
after_is geo state op key value InPlace None chunks spot e = cc e
after_is geo state op key value InPlace (Some old) chunks spot e = ap (λ (s : Spot). state_with geo state key value InPlace s) (same_Some _ spot e)
after_is geo state op key value (Elsewhere there) old chunks spot e = ap (λ (s : Spot). state_with geo state key value (Elsewhere there) s) (same_Some _ spot e)
after_is geo state op key value (NewTier place) old chunks spot e = ap (λ (s : Spot). state_with geo state key value (NewTier place) s) (same_Some _ spot e)
after_is geo state op key value Nowhere old chunks spot e = cc e

-- a room that is one has a chunk
apart_spot : (geo : Geo) (chain : List ℕ) (fit : Option Spot) (old : Option Placed) → is_nowhere (room_apart geo chain fit) ≡ false
    → (spot : Spot) × (spot_in (room_apart geo chain fit) old ≡ Some spot)
apart_spot geo chain (Some spot) old there = (spot, refl)
apart_spot geo chain None old there = elim (cases_Bool (nat_lt (length chain) geo.tiers)) [
  | inl short ↦ rw short (_, refl)
  | inr long ↦ (let no : is_nowhere (room_apart geo chain None) ≡ true = rw long refl in let clash : true ≡ false = sym no ∙ there in cc clash)
]

beside_spot : (geo : Geo) (state : State) (old : Option Placed) (chunks : ℕ) → is_nowhere (room_beside geo state old chunks) ≡ false
    → (spot : Spot) × (spot_in (room_beside geo state old chunks) old ≡ Some spot)
beside_spot geo state None chunks there = apart_spot geo state.chain (first_fit geo state chunks) None there
beside_spot geo state (Some old) chunks there = elim (cases_Bool (can_stay geo state.entries old chunks)) [
  | inl stays ↦ rw stays (_, refl)
  | inr leaves ↦ (let there' : is_nowhere (room_apart geo state.chain (first_fit geo state chunks)) ≡ false = rw leaves at there in rw leaves
      (apart_spot geo state.chain (first_fit geo state chunks) (Some old) there'))
]

-- ---- the plan of an operation

-- the change of a state that places a value for a key is the plan of each operation that places it
pub plans_put : (geo : Geo) (segment : ℕ) (state : State) (op : Op) (key value : List ℕ) (change : Change) → IsState geo segment state
    → Fits geo (length key) (length value) → segment_of_key geo key ≡ segment
    → IsPlacingOp (record { geo = geo; segment = segment; number = 0; state = state }) key value op
    → is_nowhere (room_for geo state key (need geo (length key) (length value))) ≡ false
    → change ≡ change_of geo state op key (Some value) → Plans geo segment state op change
plans_put geo segment state op key value change is fits here places there change_is =
    let at = beside_spot geo state (entry_of key state) (need geo (length key) (length value)) there in
    let key_is : change.key ≡ key = ap (λ (c : Change). c.key) change_is in
    let later : after geo change state ≡ state_with geo state key value (room_for geo state key (need geo (length key) (length value))) at.0 =
    ap (λ (c : Change). after geo c state) change_is ∙ after_is geo state op key value (room_for geo state key (need geo (length key) (length value)))
    (entry_of key state) (need geo (length key) (length value)) at.0 at.1 in
    record {
      is_state = is;
      met = places.met;
      room = subst (λ (r : Room). is_nowhere r ≡ false) (sym places.wanted) there;
      key = subst (ChangesKey op state) (sym key_is) places.keyed;
      change_is = change_is ∙ (ap (λ (v : Option (List ℕ)). change_of geo state op key v) (sym places.placed) ∙ ap (planned_change geo state op) (sym key_is));
      leads = subst (IsState geo segment) (sym later) (placed_state geo segment state key value at.0 is fits here
          (room_for geo state key (need geo (length key) (length value))) refl at.1);
    }

-- the change of a state that removes a key's entry is the plan of each operation that removes it
pub plans_remove : (geo : Geo) (segment : ℕ) (state : State) (op : Op) (key : List ℕ) (change : Change) → IsState geo segment state
    → IsRemovingOp (record { geo = geo; segment = segment; number = 0; state = state }) key op → is_nowhere (room_wanted geo state op) ≡ false
    → change ≡ change_of geo state op key None → Plans geo segment state op change
plans_remove geo segment state op key change is removes wanted change_is =
    let key_is : change.key ≡ key = ap (λ (c : Change). c.key) change_is in
    record {
      is_state = is;
      met = removes.met;
      room = wanted;
      key = subst (ChangesKey op state) (sym key_is) removes.keyed;
      change_is = change_is ∙ (ap (λ (v : Option (List ℕ)). change_of geo state op key v) (sym removes.places_none)
          ∙ ap (planned_change geo state op) (sym key_is));
      leads = subst (IsState geo segment) (sym (ap (λ (c : Change). after geo c state) change_is)) (removed_state geo segment state key is);
    }

-- ---- a put and a removal

-- a put places its value whatever the state is
put_places : (geo : Geo) (segment : ℕ) (state : State) (key value : List ℕ)
    → IsPlacingOp (record { geo = geo; segment = segment; number = 0; state = state }) key value (Put key value)
put_places geo segment state key value = record { met = refl; placed = refl; keyed = refl; wanted = refl }

-- a plan to put a value is the plan of each state here
pub put_here : (m : MemSeen) (geo : Geo) (key value : List ℕ) (link : Bool) (plan : Plan) → m.setting.geo ≡ geo → Fits geo (length key) (length value)
    → segment_of_key geo key ≡ m.setting.segment → op_of_ask plan.ask ≡ Put key value
    → ((words : List ℕ) (state : State) → FitsNotes m words → Resting geo m.setting.segment words state → IsPutOf geo words state key value link plan)
    → IsPlanHere m (plan_change plan)
put_here m geo key value link plan geo_is fits here op_is are words state fits_m rests_m =
    let rests = subst (λ (g : Geo). Resting g m.setting.segment words state) geo_is rests_m in
    let is = are words state fits_m rests in
    subst (λ (g : Geo). Plans g m.setting.segment state (op_of_ask plan.ask) (plan_change plan)) (sym geo_is)
    (subst (λ (op : Op). Plans geo m.setting.segment state op (plan_change plan)) (sym op_is)
    (plans_put geo m.setting.segment state (Put key value) key value (plan_change plan) (resting_represents geo m.setting.segment words state rests).is_state
    fits here
    (put_places geo m.setting.segment state key value) is.room (is.plan_of.change_is ∙ ap (λ (op : Op). change_of geo state op key (Some value)) op_is)))

-- a removal removes the entry of a key that has one
has_value : (key : List ℕ) (state : State) (placed : Placed) → entry_of key state ≡ Some placed → would_change (Remove key) state ≡ true
has_value key state placed e = rw e refl

-- the key of a plan that removes it has an entry
removed_entry : (geo : Geo) (state : State) (op : Op) (key : List ℕ) (old : Option Run) (run : Run) → old ≡ Some run
    → old ≡ option_map (run_of geo) (entry_of key state) → (placed : Placed) × (entry_of key state ≡ Some placed)
removed_entry geo state op key old run is old_is = by (entry_of key state) refl (sym is ∙ old_is)
  where
    by : (entry : Option Placed) → entry_of key state ≡ entry → Some run ≡ option_map (run_of geo) entry
        → (placed : Placed) × (entry_of key state ≡ Some placed)
    by None e h = cc h
    by (Some placed) e h = (placed, e)

-- a plan to remove a key is the plan of each state here
pub removal_here : (m : MemSeen) (geo : Geo) (key : List ℕ) (plan : Plan) (run : Run) → m.setting.geo ≡ geo → op_of_ask plan.ask ≡ Remove key
    → plan.old ≡ Some run
    → ((words : List ℕ) (state : State) → FitsNotes m words → Resting geo m.setting.segment words state → IsPlanOf geo words state key None plan)
    → IsPlanHere m (plan_change plan)
removal_here m geo key plan run geo_is op_is old_is are words state fits_m rests_m =
    let rests = subst (λ (g : Geo). Resting g m.setting.segment words state) geo_is rests_m in
    let change_is : plan_change plan ≡ change_of geo state (Remove key) key None = (are words state fits_m rests).change_is
    ∙ ap (λ (op : Op). change_of geo state op key None) op_is in
    let entry = removed_entry geo state (Remove key) key plan.old run old_is (ap (λ (c : Change). c.old_run) change_is) in
    subst (λ (g : Geo). Plans g m.setting.segment state (op_of_ask plan.ask) (plan_change plan)) (sym geo_is)
    (subst (λ (op : Op). Plans geo m.setting.segment state op (plan_change plan)) (sym op_is)
    (plans_remove geo m.setting.segment state (Remove key) key (plan_change plan) (resting_represents geo m.setting.segment words state rests).is_state
    (record { met = has_value key state entry.0 entry.1; places_none = refl; keyed = refl }) refl change_is))

-- ---- they may begin

-- a change of an operation that is within limits, with its key and its value
short_by : (plan : Plan) (op : Op) (key value : List ℕ) → op_of_ask plan.ask ≡ op → plan.key.now ≡ key → plan.value.now ≡ value → length key ≤ MAX_KEY_BYTES
    → length value ≤ MAX_VALUE_BYTES → IsShortOp op → IsShort (plan_change plan)
short_by plan op key value op_is key_is value_is key_short value_short short =
    record { key = rw key_is key_short; value = rw value_is value_short; op = subst IsShortOp (sym op_is) short }

-- its slot points to its old run
points_here : (geo : Geo) (words : List ℕ) (state : State) (key : List ℕ) (value : Option (List ℕ)) (plan : Plan) → plan.key.now ≡ key
    → IsPlanOf geo words state key value plan → PointsAt geo (plan_change plan) plan.old_slot state words words
points_here geo words state key value plan key_is is =
    subst (λ (k : List ℕ). IfSome plan.old (λ run. Points geo words run.place k run.chunk plan.old_slot)) (sym key_is) is.points

put_begins : (m : MemSeen) (geo : Geo) (key value : List ℕ) (old : Option Old) (room : Room) (link : Bool) (plan : Plan) → m.setting.geo ≡ geo
    → Fits geo (length key) (length value) → 1 ≤ need geo (length key) (length value)
    → segment_of_key geo key ≡ m.setting.segment → IfSome old (IsOldIn geo key) → IsRoomIn geo (run_of_old old) (need geo (length key) (length value)) room
    → PutsBeside key value (run_of_old old) (slot_of_old old) room (need geo (length key) (length value)) plan
    → ((words : List ℕ) (state : State) → FitsNotes m words → Resting geo m.setting.segment words state → IsPutOf geo words state key value link plan)
    → MayBegin m geo (Put key value) plan
put_begins m geo key value old room link plan geo_is fits nonzero here old_in room_in puts are =
    let op_is : op_of_ask plan.ask ≡ Put key value = ap (λ (c : Change). c.op) puts.change_is in
    record {
      plan_in = plan_in geo key value old room plan fits nonzero old_in room_in puts;
      op_is = op_is;
      within_limits = short_by plan (Put key value) key value op_is (ap (λ (c : Change). c.key) puts.change_is) (ap (λ (c : Change). c.value) puts.change_is)
          fits.key_short fits.value_short (fits.key_short, fits.value_short);
      here = put_here m geo key value link plan geo_is fits here op_is are;
      points = λ words state fits_m rests. points_here geo words state key (Some value) plan (ap (λ (c : Change). c.key) puts.change_is)
          (are words state fits_m rests).plan_of;
    }

pub puts_begin : (m : MemSeen) (geo : Geo) (key value : List ℕ) (old : Option Old) (room : Room) (planned : Planned) → m.setting.geo ≡ geo
    → Fits geo (length key) (length value) → 1 ≤ need geo (length key) (length value)
    → segment_of_key geo key ≡ m.setting.segment → IfSome old (IsOldIn geo key) → IsRoomIn geo (run_of_old old) (need geo (length key) (length value)) room
    → PlansBeside key value (run_of_old old) (slot_of_old old) room (need geo (length key) (length value)) planned
    → ((words : List ℕ) (state : State) → FitsNotes m words → Resting geo m.setting.segment words state → PlansPut geo words state key value planned)
    → IfPlan (MayBegin m geo (Put key value)) planned
puts_begin m geo key value old room (Ready plan) geo_is fits nonzero here old_in room_in puts are =
    put_begins m geo key value old room false plan geo_is fits nonzero here old_in room_in puts.0 are
puts_begin m geo key value old room (NeedsTier plan) geo_is fits nonzero here old_in room_in puts are =
    put_begins m geo key value old room true plan geo_is fits nonzero here old_in room_in puts.0 are
puts_begin m geo key value old room FullChain geo_is fits nonzero here old_in room_in puts are = tt

-- the plan that removes a key's entry
pub removal_begins : (m : MemSeen) (geo : Geo) (key : List ℕ) (old : Old) (plan : Plan) → m.setting.geo ≡ geo → IsOldIn geo key old
    → plan_change plan ≡ record { op = Remove key; kind = kind.Remove; key = key; value = []; old_run = Some old.run; new_run = None; link = false }
    → plan.old_slot ≡ old.slot
    → ((words : List ℕ) (state : State) → FitsNotes m words → Resting geo m.setting.segment words state → IsPlanOf geo words state key None plan)
    → MayBegin m geo (Remove key) plan
removal_begins m geo key old plan geo_is old_in change_is slot_is are =
    let op_is : op_of_ask plan.ask ≡ Remove key = ap (λ (c : Change). c.op) change_is in
    record {
      plan_in = subst (λ (c : Change). IsPlanIn geo c plan.old_slot) (sym change_is)
          (record { slot_low = rw slot_is old_in.slot_low; old = old_in.run_in; new = tt; runs = tt });
      op_is = op_is;
      within_limits = short_by plan (Remove key) key [] op_is (ap (λ (c : Change). c.key) change_is) (ap (λ (c : Change). c.value) change_is) old_in.key_within_limit (omega arith)
          old_in.key_within_limit;
      here = removal_here m geo key plan old.run geo_is op_is (ap (λ (c : Change). c.old_run) change_is) are;
      points = λ words state fits rests. points_here geo words state key None plan (ap (λ (c : Change). c.key) change_is) (are words state fits rests);
    }

-- and it is that of each state
pub removal_of : (geo : Geo) (words : List ℕ) (state : State) (key : List ℕ) (old : Old) (plan : Plan) → IsOldOf geo words state key old
    → plan_change plan ≡ record { op = Remove key; kind = kind.Remove; key = key; value = []; old_run = Some old.run; new_run = None; link = false }
    → plan.old_slot ≡ old.slot
    → IsPlanOf geo words state key None plan
removal_of geo words state key old plan is change_is slot_is =
    let op_is : op_of_ask plan.ask ≡ Remove key = ap (λ (c : Change). c.op) change_is in
    let run_is : Some old.run ≡ option_map (run_of geo) (entry_of key state) = sym (run_is_old geo words state key (Some old) is) in
    record {
      change_is = change_is ∙ (ap (λ (r : Option Run). record
          { op = Remove key; kind = kind.Remove; key = key; value = []; old_run = r; new_run = None; link = false }) run_is
          ∙ ap (λ (op : Op). change_of geo state op key None) (sym op_is));
      points = points_old geo words state key (Some old) plan.old plan.old_slot is (ap (λ (c : Change). c.old_run) change_is) slot_is;
    }
