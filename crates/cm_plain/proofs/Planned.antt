-- What a planned change tells of the old and of the new entry of its key.
use Rattle.std.proofs.Common.{◌≡◌, ◌≢◌, ℕ, ◌+◌, ◌<◌, ◌≤◌, ◌⊎◌, true, not, List, Contains, length, nat_lt, Option, Some, None, refl, ap, sym, subst, ◌∙◌, arith, inl, inr}
use Rattle.std.specs.List.{AllByRecursion}
use Rattle.std.specs.Option.{option_map}
use Rattle.std.specs.Str.{bytes_eq}
use Rattle.std.proofs.lemmas.Bool.{cases_Bool, cases_eq}
use Rattle.std.proofs.lemmas.Bool.Decides.{nat_tests}
use Rattle.std.proofs.lemmas.List.Elements.{All-contains, All-from_recursion}
use Rattle.std.proofs.lemmas.Option.{same_Some}
use Rattle.std.proofs.lemmas.Slice.Eq.{bytes_eq-Decides}
use Rattle.cm_geo.specs.declared.geo.Geo.{Geo}
use Rattle.cm_geo.specs.Need.{Fits, need}
use Rattle.cm_geo.proofs.Ranges.{chunks_range}
use Rattle.cm_plain.specs.declared.op.Op.{Op}
use Rattle.cm_plain.specs.declared.placed.Placed.{Placed}
use Rattle.cm_plain.specs.declared.plan.Run.{Run}
use Rattle.cm_plain.specs.declared.plan.PlanKind.TheVariants as kind
use Rattle.cm_plain.specs.declared.room.Room.{Room}
use Rattle.cm_plain.specs.declared.room.Room.TheVariants.{InPlace, Elsewhere, NewTier, Nowhere}
use Rattle.cm_plain.specs.declared.room.Spot.{Spot}
use Rattle.cm_plain.specs.States.{IsPlaced, IsState, State, chunks_of, entry_of}
use Rattle.cm_plain.specs.Rooms.{can_stay, first_fit, lowest_unlinked, room_apart, room_beside, room_for, spot_in}
use Rattle.cm_plain.specs.Changes.{Change, after, change_of, entries_after, entry_at, kind_in, new_entry, placed_value, run_at, run_of, without}
use Rattle.cm_plain.specs.Steps.{Plans}
use Rattle.cm_plain.specs.Torn.{BeginsAt, IsChangeEntry}
use Rattle.cm_plain.proofs.Apart.{IsApart, apart_places, fresh_apart}
use Rattle.cm_plain.proofs.Chains.{each_other, lowest_outside}
use Rattle.cm_plain.proofs.Each.{each_weaker}
use Rattle.cm_plain.proofs.EntrySets.{found_is, found_there, in_with, is_put, no_other}
use Rattle.cm_plain.proofs.ListElements.{In, in_from, in_has, in_kept_to, in_to}
use Rattle.cm_plain.proofs.Placements.{fit_is, may_stand_in}
use Rattle.cm_plain.proofs.StatePairs.{placed_in, same_in}
use Rattle.cm_plain.proofs.States.{each_differs, each_placed, each_run}

-- the run that a change leaves is that of its key's entry
pub old_run_is : (geo : Geo) (state : State) (op : Op) (key : List ℕ) (value : Option (List ℕ)) → (change_of geo state op key value).old_run ≡ option_map (run_of geo) (entry_of key state)
old_run_is geo state op key None = refl
old_run_is geo state op key (Some value) = refl

-- so it begins where that entry stands
pub begins_old : (geo : Geo) (segment : ℕ) (state : State) (op : Op) (change : Change) (placed : Placed) → IsState geo segment state → Plans geo segment state op change → Contains state.entries placed → placed.key ≡ change.key
    → BeginsAt change.old_run placed.place placed.chunk
begins_old geo segment state op change placed is plans there key_is =
    let run : change.old_run ≡ Some (run_of geo placed) =
    ap (λ (c : Change). c.old_run) plans.change_is ∙ old_run_is geo state op change.key (placed_value op) ∙ ap (option_map (run_of geo)) (found_is geo segment state change.key placed is there key_is) in
    rw run (refl, refl)

-- an entry of a key stands at a place and chunk
pub record IsAtEntry (entries : List Placed) (key : List ℕ) (place chunk : ℕ) : Type 0 where
  pub placed : Placed
  pub is_in : In placed entries
  pub key_is : placed.key ≡ key
  pub place_is : placed.place ≡ place
  pub chunk_is : placed.chunk ≡ chunk

-- where the run begins that a change leaves, its key's entry stands
pub old_at : (geo : Geo) (segment : ℕ) (state : State) (op : Op) (change : Change) (place chunk : ℕ) → Plans geo segment state op change → BeginsAt change.old_run place chunk
    → IsAtEntry state.entries change.key place chunk
old_at geo segment state op change place chunk plans begins =
    let run : change.old_run ≡ option_map (run_of geo) (entry_of change.key state) = ap (λ (c : Change). c.old_run) plans.change_is ∙ old_run_is geo state op change.key (placed_value op) in
    by (entry_of change.key state) refl (subst (λ (r : Option Run). BeginsAt r place chunk) run begins)
  where
    by : (old : Option Placed) → entry_of change.key state ≡ old → BeginsAt (option_map (run_of geo) old) place chunk → IsAtEntry state.entries change.key place chunk
    by None e h = absurd h
    by (Some old) e h =
        let there = found_there change.key state.entries old e in
        record { placed = old; is_in = there.is_in; key_is = there.key_is; place_is = h.0; chunk_is = h.1 }

-- where the run begins that it takes, the new entry stands afterwards
pub new_at : (geo : Geo) (state : State) (change : Change) (place chunk : ℕ) → BeginsAt change.new_run place chunk → IsAtEntry (after geo change state).entries change.key place chunk
new_at geo state change place chunk begins = by change.new_run refl begins
  where
    by : (run : Option Run) → change.new_run ≡ run → BeginsAt run place chunk → IsAtEntry (after geo change state).entries change.key place chunk
    by None e h = absurd h
    by (Some run) e h = record {
      placed = entry_at change.key change.value run.place run.chunk;
      is_in = rw e (in_with geo (entry_at change.key change.value run.place run.chunk) (without change.key state.entries));
      key_is = refl;
      place_is = h.0;
      chunk_is = h.1;
    }

-- an entry of a key stands in the room that a state has for its value
pub record IsInRoom (geo : Geo) (state : State) (key : List ℕ) (placed : Placed) : Type 0 where
  pub value : List ℕ
  pub spot : Spot
  pub spot_is : spot_in (room_for geo state key (need geo (length key) (length value))) (entry_of key state) ≡ Some spot
  pub placed_is : placed ≡ entry_at key value spot.place spot.chunk

-- so does the new entry of a change that an operation makes
in_room_by : (geo : Geo) (state : State) (op : Op) (key : List ℕ) (placed : Placed) → placed.key ≡ key → (value : Option (List ℕ))
    → In placed (after geo (change_of geo state op key value) state).entries → IsInRoom geo state key placed
in_room_by geo state op key placed is None i = absurd (no_other key state.entries placed is i)
in_room_by geo state op key placed is (Some value) i =
    by_spot (spot_in (room_for geo state key (need geo (length key) (length value))) (entry_of key state)) refl i
  where
    by_spot : (spot : Option Spot) → spot_in (room_for geo state key (need geo (length key) (length value))) (entry_of key state) ≡ spot
        → In placed (entries_after geo (change_of geo state op key (Some value)) (option_map (run_at (need geo (length key) (length value))) spot) (without key state.entries))
        → IsInRoom geo state key placed
    by_spot None e i = absurd (no_other key state.entries placed is i)
    by_spot (Some spot) e i = record {
      value = value;
      spot = spot;
      spot_is = e;
      placed_is = is_put geo (entry_at key value spot.place spot.chunk) (without key state.entries) placed (no_other key state.entries placed is) i;
    }

-- and that of a planned change
pub in_room : (geo : Geo) (segment : ℕ) (state : State) (op : Op) (change : Change) (placed : Placed) → Plans geo segment state op change → Contains (after geo change state).entries placed → placed.key ≡ change.key → IsInRoom geo state change.key placed
in_room geo segment state op change placed plans there is =
    let i : In placed (after geo change state).entries = in_from (after geo change state).entries placed there in
    in_room_by geo state op change.key placed is (placed_value op) (subst (λ (c : Change). In placed (after geo c state).entries) plans.change_is i)

-- the new entry's run is apart from those of all other keys
pub new_apart : (geo : Geo) (segment : ℕ) (state : State) (op : Op) (change : Change) (placed other : Placed) → IsState geo segment state → Plans geo segment state op change
    → In placed (after geo change state).entries → placed.key ≡ change.key → In other state.entries → other.key ≢ change.key → IsApart geo other placed
new_apart geo segment state op change placed other is plans i key_is j ne =
    let new = in_room geo segment state op change placed plans (in_to (after geo change state).entries placed i) key_is in
    let run = (placed_in geo segment (after geo change state) placed plans.leads i).run in
    let fits : Fits geo (length change.key) (length new.value) = subst (λ (p : Placed). Fits geo (length p.key) (length p.value)) new.placed_is run.fits in
    let to = may_stand_in geo segment state change.key new.value new.spot is fits (room_for geo state change.key (need geo (length change.key) (length new.value))) refl new.spot_is in
    let entry : Placed = entry_at change.key new.value new.spot.place new.spot.chunk in
    let apart : IsApart geo other entry = in_has (λ other. IsApart geo other entry) (without change.key state.entries) other to.apart
    (in_kept_to (λ it. not (bytes_eq it.key change.key)) state.entries other j (not_same other.key change.key ne)) in
    subst (λ (p : Placed). IsApart geo other p) (sym new.placed_is) apart
  where
    not_same : (a b : List ℕ) → a ≢ b → not (bytes_eq a b) ≡ true
    not_same a b differ = elim (cases_Bool (bytes_eq a b)) [
      | inl same ↦ absurd (differ ((bytes_eq-Decides a b).0 same))
      | inr other ↦ rw other refl
    ]

-- the run has as many chunks as its entry needs
run_size : (geo : Geo) (state : State) (op : Op) (key : List ℕ) (value : Option (List ℕ)) (run : Run) → (change_of geo state op key value).new_run ≡ Some run → run.chunks ≡ need geo (length key) (length (change_of geo state op key value).value)
run_size geo state op key None run e = cc e
run_size geo state op key (Some value) run e = by (spot_in (room_for geo state key (need geo (length key) (length value))) (entry_of key state)) e
  where
    by : (spot : Option Spot) → option_map (run_at (need geo (length key) (length value))) spot ≡ Some run → run.chunks ≡ need geo (length key) (length value)
    by None e = cc e
    by (Some spot) e = (let same : run_at (need geo (length key) (length value)) spot ≡ run = cc e in ap (λ (r : Run). r.chunks) (sym same))

-- what is known of a change that places an entry
pub record IsNew (geo : Geo) (segment : ℕ) (state : State) (change : Change) (run : Run) : Type 0 where
  pub there : In (new_entry change run) (after geo change state).entries
  pub only : (placed : Placed) → IsChangeEntry (after geo change state) change placed → placed ≡ new_entry change run
  pub placed : IsPlaced geo segment (after geo change state).chain (new_entry change run)
  pub apart : (other : Placed) → Contains state.entries other → other.key ≢ change.key → IsApart geo other (new_entry change run)
  pub size : run.chunks ≡ chunks_of geo (new_entry change run)

-- of a planned change that places one
pub is_new : (geo : Geo) (segment : ℕ) (state : State) (change : Change) (run : Run) → Plans geo segment state change.op change → change.new_run ≡ Some run → IsNew geo segment state change run
is_new geo segment state change run plans run_is =
    let there : In (new_entry change run) (after geo change state).entries = rw run_is (in_with geo (new_entry change run) (without change.key state.entries)) in
    record {
      there = there;
      only = λ placed is. same_in (after geo change state).entries placed (new_entry change run) (each_differs plans.leads)
          (in_from (after geo change state).entries placed is.there) there is.key_is;
      placed = placed_in geo segment (after geo change state) (new_entry change run) plans.leads there;
      apart = λ other has differ. new_apart geo segment state change.op change (new_entry change run) other plans.is_state plans there refl (in_from state.entries other has) differ;
      size = run_size geo state change.op change.key (placed_value change.op) run (sym (ap (λ (c : Change). c.new_run) plans.change_is) ∙ run_is)
          ∙ ap (λ (c : Change). need geo (length change.key) (length c.value)) (sym plans.change_is);
    }

-- a room apart from the old entry is apart from all runs
room_is_apart : (geo : Geo) (segment : ℕ) (state : State) (key value : List ℕ) (old : Option Placed) (spot : Spot) → IsState geo segment state → Fits geo (length key) (length value)
    → (fit : Option Spot) → first_fit geo state (need geo (length key) (length value)) ≡ fit → spot_in (room_apart geo state.chain fit) old ≡ Some spot
    → AllByRecursion (λ other. IsApart geo other (entry_at key value spot.place spot.chunk)) state.entries
room_is_apart geo segment state key value old spot is fits (Some fit) e at =
    subst (λ (s : Spot). AllByRecursion (λ other. IsApart geo other (entry_at key value s.place s.chunk)) state.entries) (same_Some fit spot at)
    (fresh_apart geo (entry_at key value fit.place fit.chunk) state.entries (each_run is) (fit_is geo state.entries (need geo (length key) (length value)) state.chain fit e).free)
room_is_apart geo segment state key value old spot is fits None e at = elim (cases_Bool (nat_lt (length state.chain) geo.tiers)) [
  | inl short ↦
      let place = lowest_unlinked geo state.chain in
      let here : Spot = record { place = place; chunk = 0 } in
      let at' : Some here ≡ Some spot = rw short at at in
      let shorter : length state.chain < geo.tiers = grind (arith, nat_tests) in
      let inside : 0 + need geo (length key) (length value) ≤ geo.chunks = omega (arith, fits.run_short, chunks_range geo) in
      let others = each_other state.chain place (lowest_outside geo state.chain shorter).unlinked in
      subst (λ (s : Spot). AllByRecursion (λ other. IsApart geo other (entry_at key value s.place s.chunk)) state.entries) (same_Some here spot at')
      (each_weaker (IsPlaced geo segment state.chain) (λ other. IsApart geo other (entry_at key value place 0))
      (λ other h. apart_places geo other (entry_at key value place 0) h.run.inside inside (All-contains (λ linked. linked ≢ place) state.chain other.place (All-from_recursion (λ linked. linked ≢ place) state.chain others) h.chained)) state.entries (each_placed is))
  | inr long ↦ (let at' : None ≡ Some spot = rw long at at in cc at')
]

-- so is the room beside the old entry, where the value can't stay
beside_apart : (geo : Geo) (segment : ℕ) (state : State) (key value : List ℕ) (old : Option Placed) (spot : Spot) → IsState geo segment state → Fits geo (length key) (length value)
    → kind_in (room_beside geo state old (need geo (length key) (length value))) old ≢ kind.InPlace → spot_in (room_beside geo state old (need geo (length key) (length value))) old ≡ Some spot
    → AllByRecursion (λ other. IsApart geo other (entry_at key value spot.place spot.chunk)) state.entries
beside_apart geo segment state key value None spot is fits away at = room_is_apart geo segment state key value None spot is fits (first_fit geo state (need geo (length key) (length value))) refl at
beside_apart geo segment state key value (Some old) spot is fits away at = elim (cases_Bool (can_stay geo state.entries old (need geo (length key) (length value)))) [
  | inl stays ↦ absurd (away (rw stays refl))
  | inr leaves ↦ (let at' : spot_in (room_apart geo state.chain (first_fit geo state (need geo (length key) (length value)))) (Some old) ≡ Some spot = rw leaves at at in
      room_is_apart geo segment state key value (Some old) spot is fits (first_fit geo state (need geo (length key) (length value))) refl at')
]

-- and the new run of the change that an operation makes
away_by : (geo : Geo) (segment : ℕ) (state : State) (op : Op) (key : List ℕ) (value : Option (List ℕ)) (run : Run) → IsState geo segment state → (change_of geo state op key value).kind ≢ kind.InPlace → (change_of geo state op key value).new_run ≡ Some run
    → Fits geo (length key) (length (change_of geo state op key value).value) → AllByRecursion (λ other. IsApart geo other (entry_at key (change_of geo state op key value).value run.place run.chunk)) state.entries
away_by geo segment state op key None run is away e fits = cc e
away_by geo segment state op key (Some value) run is away e fits = by (spot_in (room_for geo state key (need geo (length key) (length value))) (entry_of key state)) refl e
  where
    by : (spot : Option Spot) → spot_in (room_for geo state key (need geo (length key) (length value))) (entry_of key state) ≡ spot → option_map (run_at (need geo (length key) (length value))) spot ≡ Some run
        → AllByRecursion (λ other. IsApart geo other (entry_at key value run.place run.chunk)) state.entries
    by None is_spot e = cc e
    by (Some spot) is_spot e =
        let same : run_at (need geo (length key) (length value)) spot ≡ run = same_Some (run_at (need geo (length key) (length value)) spot) run e in
        subst (λ (r : Run). AllByRecursion (λ other. IsApart geo other (entry_at key value r.place r.chunk)) state.entries) same
        (beside_apart geo segment state key value (entry_of key state) spot is fits away is_spot)

-- a new run that isn't in place is apart from all runs, the key's old one too
pub away_apart : (geo : Geo) (segment : ℕ) (state : State) (change : Change) (run : Run) → Plans geo segment state change.op change → change.kind ≢ kind.InPlace → change.new_run ≡ Some run
    → (placed : Placed) → Contains state.entries placed → IsApart geo placed (new_entry change run)
away_apart geo segment state change run plans away run_is placed there =
    let is = plans.change_is in
    let fits = (is_new geo segment state change run plans run_is).placed.run.fits in
    let all = away_by geo segment state change.op change.key (placed_value change.op) run plans.is_state (subst (λ (c : Change). c.kind ≢ kind.InPlace) is away) (subst (λ (c : Change). c.new_run ≡ Some run) is run_is)
    (subst (λ (c : Change). Fits geo (length change.key) (length c.value)) is fits) in
    let back : AllByRecursion (λ other. IsApart geo other (new_entry change run)) state.entries = subst (λ (c : Change). AllByRecursion (λ other. IsApart geo other (entry_at change.key c.value run.place run.chunk)) state.entries) (sym is) all in
    All-contains (λ other. IsApart geo other (new_entry change run)) state.entries placed (All-from_recursion (λ other. IsApart geo other (new_entry change run)) state.entries back) there

-- a fresh key has no entry
kind_fresh : (room : Room) (old : Option Placed) → kind_in room old ≡ kind.Fresh → old ≡ None
kind_fresh room None e = refl
kind_fresh InPlace (Some old) e = cc e
kind_fresh (Elsewhere spot) (Some old) e = cc e
kind_fresh (NewTier place) (Some old) e = cc e
kind_fresh Nowhere (Some old) e = cc e

-- nor has the key that a fresh change is made for
change_fresh : (geo : Geo) (state : State) (op : Op) (key : List ℕ) (value : Option (List ℕ)) → (change_of geo state op key value).kind ≡ kind.Fresh → entry_of key state ≡ None
change_fresh geo state op key None e = cc e
change_fresh geo state op key (Some value) e = kind_fresh (room_for geo state key (need geo (length key) (length value))) (entry_of key state) e

-- so no entry of the state has it
pub fresh_absent : (geo : Geo) (segment : ℕ) (state : State) (change : Change) → Plans geo segment state change.op change → change.kind ≡ kind.Fresh → (placed : Placed) → Contains state.entries placed → placed.key ≢ change.key
fresh_absent geo segment state change plans fresh placed there same =
    let none = change_fresh geo state change.op change.key (placed_value change.op) (sym (ap (λ (c : Change). c.kind) plans.change_is) ∙ fresh) in
    let some = found_is geo segment state change.key placed plans.is_state there same in
    let clash : None ≡ Some placed = sym none ∙ some in
    cc clash

-- a change in place: its new run begins where the old entry stands
pub record StaysAt (geo : Geo) (state : State) (key : List ℕ) (new_run : Option Run) : Type 0 where
  pub old : Placed
  pub old_is : entry_of key state ≡ Some old
  pub chunks : ℕ
  pub run_is : new_run ≡ Some (run_at chunks (record { place = old.place; chunk = old.chunk }))

-- by the room
stays_in : (geo : Geo) (state : State) (key : List ℕ) (chunks : ℕ) (room : Room) (old : Option Placed) → entry_of key state ≡ old → kind_in room old ≡ kind.InPlace
    → StaysAt geo state key (option_map (run_at chunks) (spot_in room old))
stays_in geo state key chunks room None is e = cc e
stays_in geo state key chunks InPlace (Some old) is e = record { old = old; old_is = is; chunks = chunks; run_is = refl }
stays_in geo state key chunks (Elsewhere spot) (Some old) is e = cc e
stays_in geo state key chunks (NewTier place) (Some old) is e = cc e
stays_in geo state key chunks Nowhere (Some old) is e = cc e

-- by the value
stays_by : (geo : Geo) (state : State) (op : Op) (key : List ℕ) (value : Option (List ℕ)) → (change_of geo state op key value).kind ≡ kind.InPlace → StaysAt geo state key (change_of geo state op key value).new_run
stays_by geo state op key None e = cc e
stays_by geo state op key (Some value) e =
    stays_in geo state key (need geo (length key) (length value)) (room_for geo state key (need geo (length key) (length value))) (entry_of key state) refl e

-- so does that of a planned change
pub stays_at : (geo : Geo) (segment : ℕ) (state : State) (op : Op) (change : Change) → Plans geo segment state op change → change.kind ≡ kind.InPlace → StaysAt geo state change.key change.new_run
stays_at geo segment state op change plans in_place =
    let e : (change_of geo state op change.key (placed_value op)).kind ≡ kind.InPlace = sym (ap (λ (c : Change). c.kind) plans.change_is) ∙ in_place in
    subst (λ (r : Option Run). StaysAt geo state change.key r) (sym (ap (λ (c : Change). c.new_run) plans.change_is)) (stays_by geo state op change.key (placed_value op) e)

-- whether a run begins at a place and chunk
pub begins_or_not : (run : Option Run) (place chunk : ℕ) → BeginsAt run place chunk ⊎ (BeginsAt run place chunk → ⊥)
begins_or_not None place chunk = inr (λ h. h)
begins_or_not (Some run) place chunk = elim (cases_eq run.place place) [
  | inl place_is ↦ elim (cases_eq run.chunk chunk) [
    | inl chunk_is ↦ inl (place_is, chunk_is)
    | inr differ ↦ inr (λ h. differ h.1)
  ]
  | inr differ ↦ inr (λ h. differ h.0)
]
