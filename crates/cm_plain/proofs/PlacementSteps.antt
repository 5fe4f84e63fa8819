-- How the changes of a segment are steps of the bounded map.
use Rattle.std.proofs.Common.{◌≡◌, ◌≢◌, ◌∙◌, ℕ, ◌+◌, ◌==◌, ◌&&◌, Bool, true, false, not, List, [], ◌∷◌, ◌++◌, length, Option, Some, None, refl, sym, ap, subst}
use Rattle.std.specs.Prelude.{if◌then◌else◌, is_some}
use Rattle.cm_geo.specs.declared.geo.Geo.{Geo}
use Rattle.cm_geo.specs.Hash.{segment_of_key}
use Rattle.cm_geo.specs.Need.{Fits, need}
use Rattle.cm_plain.specs.declared.op.Op.{Op}
use Rattle.cm_plain.specs.declared.placed.Placed.{Placed}
use Rattle.cm_plain.specs.declared.reply.Reply.{Reply}
use Rattle.cm_plain.specs.declared.reply.Reply.TheVariants as reply
use Rattle.cm_plain.specs.declared.room.Spot.{Spot}
use Rattle.cm_plain.specs.declared.room.Room.{Room}
use Rattle.cm_plain.specs.declared.room.Room.TheVariants.{InPlace, Elsewhere, NewTier, Nowhere}
use Rattle.cm_plain.specs.States.{IsState, State, entry_of}
use Rattle.cm_plain.specs.Rooms.{is_new_tier, is_nowhere, room_for, spot_in}
use Rattle.cm_plain.specs.Changes.{after, entry_at, kind_in, placing_change, planned_change, with_entry, without}
use Rattle.cm_plain.specs.Steps.{Plans, Step, Decision, StepAs, decision, changes_state, is_change, last_number, reply_of}
use Rattle.cm_plain.specs.declared.rooms.Placement.{Placement}
use Rattle.cm_plain.specs.Placements.{IsPlacement}
use Rattle.cm_plain.specs.Segments.{IsSegment, PlacesValue, IsPlacingOp, Segment}
use Rattle.cm_plain.specs.States.{run_start}
use Rattle.std.specs.List.{All}
use Rattle.std.proofs.lemmas.Option.{same_Some}
use Rattle.cm_plain.proofs.Placements.{chain_for, placed_state, starts_apart}
use Rattle.cm_plain.proofs.SegmentState.{next_counted}

-- the chain after a value went to its room
pub chain_is : (room : Room) (old : Option Placed) (spot : Spot) (chain : List ℕ) → spot_in room old ≡ Some spot
    → chain_for room chain ≡ (if is_new_tier room then chain ++ spot.place ∷ [] else chain)
chain_is InPlace old spot chain e = refl
chain_is (Elsewhere there) old spot chain e = refl
chain_is (NewTier place) old spot chain e = let same : place ≡ spot.place = ap (λ (s : Spot). s.place) (same_Some _ spot e) in rw same refl
chain_is Nowhere old spot chain e = cc e

-- the state after a value went to its room
abbrev pub state_with : Geo → State → List ℕ → List ℕ → Room → Spot → State
state_with geo state key value room spot =
    record { chain = chain_for room state.chain; entries = with_entry geo (entry_at key value spot.place spot.chunk) (without key state.entries) }

-- the state after a change that places a value is the one with the value in its room
after_is : (geo : Geo) (state : State) (op : Op) (key value : List ℕ) (room : Room) (old : Option Placed) (chunks : ℕ) (spot : Spot) → spot_in room old ≡ Some spot
    → after geo (placing_change geo op key value old room chunks) state ≡ state_with geo state key value room spot
after_is geo state op key value InPlace None chunks spot e = cc e
after_is geo state op key value InPlace (Some old) chunks spot e = ap (λ (s : Spot). state_with geo state key value InPlace s) (same_Some _ spot e)
after_is geo state op key value (Elsewhere there) old chunks spot e = ap (λ (s : Spot). state_with geo state key value (Elsewhere there) s) (same_Some _ spot e)
after_is geo state op key value (NewTier place) old chunks spot e = ap (λ (s : Spot). state_with geo state key value (NewTier place) s) (same_Some _ spot e)
after_is geo state op key value Nowhere old chunks spot e = cc e

-- the reply to a value that was placed
abbrev pub reply_beside : Bool → Reply
reply_beside false = reply.New
reply_beside true = reply.Replaced

-- the reply by the kind of a change is the one by whether the key had an entry
reply_is : (room : Room) (old : Option Placed) (op : Op) (key : List ℕ) → reply_of (kind_in room old) op key ≡ reply_beside (is_some old)
reply_is room None op key = refl
reply_is InPlace (Some old) op key = refl
reply_is (Elsewhere there) (Some old) op key = refl
reply_is (NewTier place) (Some old) op key = refl
reply_is Nowhere (Some old) op key = refl

-- a room with a chunk in it is one
there_is : (room : Room) (old : Option Placed) (spot : Spot) → spot_in room old ≡ Some spot → is_nowhere room ≡ false
there_is InPlace old spot e = refl
there_is (Elsewhere there) old spot e = refl
there_is (NewTier place) old spot e = refl
there_is Nowhere old spot e = cc e

-- both replies are ones to a change
is_change_beside : (had : Bool) → is_change (reply_beside had) ≡ true
is_change_beside true = refl
is_change_beside false = refl

-- a value that was placed was placed by one step
pub step_placed : (seen : Segment) (grant : Bool) (key value : List ℕ) (room : Room) (spot : Spot) (op : Op) → IsState seen.geo seen.segment seen.state
    → Fits seen.geo (length key) (length value) → segment_of_key seen.geo key ≡ seen.segment → room_for seen.geo seen.state key (need seen.geo (length key) (length value)) ≡ room
    → spot_in room (entry_of key seen.state) ≡ Some spot → (seen.number == last_number) ≡ false → (is_new_tier room && not grant) ≡ false → IsPlacingOp seen key value op
    → Step seen.geo seen.segment seen.state seen.number grant op (state_with seen.geo seen.state key value room spot) (reply_beside (is_some (entry_of key seen.state)))
step_placed seen grant key value room spot op is fits here room_is at counts granted places =
    let geo = seen.geo in
    let state = seen.state in
    let chunks = need geo (length key) (length value) in
    let old = entry_of key state in
    let change = placing_change geo op key value old room chunks in
    let planned_is : change ≡ planned_change geo state op key = rw (places.placed, room_is) refl in
    let later : after geo change state ≡ state_with geo state key value room spot = after_is geo state op key value room old chunks spot at in
    let leads : IsState geo seen.segment (after geo change state) = subst (IsState geo seen.segment) (sym later) (placed_state geo seen.segment state key value spot is fits here room room_is at) in
    let plans : Plans geo seen.segment state op change = record {
      is_state = is;
      met = places.met;
      room = rw (places.wanted, room_is) (there_is room old spot at);
      key = places.keyed;
      change_is = planned_is;
      leads = leads;
    } in
    let decision_is : decision geo state seen.number grant op ≡ changes_state = rw (places.met, places.wanted, room_is, there_is room old spot at, counts, granted) refl in
    subst (λ (it : Decision). StepAs it geo seen.segment state op (state_with geo state key value room spot) (reply_beside (is_some old))) (sym decision_is)
    (change, plans, sym later, sym (reply_is room old op key))

-- the segment after a value went to its room
abbrev pub segment_with : Segment → List ℕ → List ℕ → Placement → Segment
segment_with seen key value placement = record {
  geo = seen.geo;
  segment = seen.segment;
  number = seen.number + 1;
  state = state_with seen.geo seen.state key value placement.room placement.spot;
}

-- the run of a placed value begins where no other does
pub placing_apart : (seen : Segment) (key value : List ℕ) (placement : Placement) → IsSegment seen → Fits seen.geo (length key) (length value)
    → IsPlacement seen.geo seen.state key (length value) placement
    → All (λ other. run_start seen.geo other ≢ run_start seen.geo (entry_at key value placement.spot.place placement.spot.chunk)) (without key seen.state.entries)
placing_apart seen key value placement is fits placed =
    starts_apart seen.geo seen.segment seen.state key value placement.spot is.is_state fits placement.room placed.room_is placed.spot_is

-- the segment after a value went to its room is one
pub is_segment_with : (seen : Segment) (key value : List ℕ) (placement : Placement) → IsSegment seen → Fits seen.geo (length key) (length value)
    → segment_of_key seen.geo key ≡ seen.segment → IsPlacement seen.geo seen.state key (length value) placement → seen.number ≢ last_number
    → IsSegment (segment_with seen key value placement)
is_segment_with seen key value placement is fits here placed counts = record {
  is_state = placed_state seen.geo seen.segment seen.state key value placement.spot is.is_state fits here placement.room placed.room_is placed.spot_is;
  within_limit = next_counted is counts;
}

-- the segment that was made is the one with the value
pub same_segment : (seen : Segment) (key value : List ℕ) (placement : Placement) (links : Bool) (chain : List ℕ) (entries : List Placed)
    → IsPlacement seen.geo seen.state key (length value) placement → links ≡ is_new_tier placement.room
    → chain ≡ (if links then seen.state.chain ++ placement.spot.place ∷ [] else seen.state.chain)
    → entries ≡ with_entry seen.geo (entry_at key value placement.spot.place placement.spot.chunk) (without key seen.state.entries)
    → segment_with seen key value placement ≡ record { geo = seen.geo; segment = seen.segment; number = seen.number + 1; state = record { chain = chain; entries = entries } }
same_segment seen key value placement links chain entries placed links_is chain_is' entries_is =
    let e : chain ≡ chain_for placement.room seen.state.chain = rw links_is at chain_is' ∙ sym (chain_is placement.room (entry_of key seen.state) placement.spot seen.state.chain placed.spot_is) in
    rw (e, entries_is) refl

-- it answers each operation that places this value for this key
pub places_with : (seen : Segment) (grant : Bool) (key value : List ℕ) (placement : Placement) (answer : Reply) → IsSegment seen → Fits seen.geo (length key) (length value)
    → segment_of_key seen.geo key ≡ seen.segment → IsPlacement seen.geo seen.state key (length value) placement → (seen.number == last_number) ≡ false
    → (is_new_tier placement.room && not grant) ≡ false → answer ≡ reply_beside placement.replaces → PlacesValue seen (segment_with seen key value placement) grant key value answer
places_with seen grant key value placement answer is fits here placed counts granted answer_is =
    let had = is_some (entry_of key seen.state) in
    let replies : answer ≡ reply_beside had = answer_is ∙ ap reply_beside placed.replaces_is in
    record {
      answers = λ op places. record {
        geo_same = refl;
        segment_same = refl;
        step = subst (λ (it : Reply). Step seen.geo seen.segment seen.state seen.number grant op (state_with seen.geo seen.state key value placement.room placement.spot) it) (sym replies)
            (step_placed seen grant key value placement.room placement.spot op is.is_state fits here placed.room_is placed.spot_is counts granted places);
        number_is = rw (replies, is_change_beside had) refl;
      };
    }
