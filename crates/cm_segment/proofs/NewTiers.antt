-- Where a change links a tier: the lowest place outside the chain, behind the chain's last tier.
use Rattle.std.proofs.Common.{◌≡◌, ℕ, ◌-◌, ◌<◌, false, true, List, [], ◌∷◌, length, get_or, nat_lt, slice_get, Option, Some, None, Contains, refl, ap, sym, subst, ◌∙◌, inl, inr, arith}
use Rattle.std.specs.Option.{option_map}
use Rattle.std.proofs.lemmas.Bool.{cases_Bool}
use Rattle.std.proofs.lemmas.Bool.Decides.{nat_tests}
use Rattle.std.proofs.lemmas.Option.{same_Some}
use Rattle.std.proofs.lemmas.List.{get_or_default}
use Rattle.cm_geo.specs.declared.geo.Geo.{Geo}
use Rattle.cm_geo.specs.Need.{need}
use Rattle.cm_plain.specs.declared.op.Op.{Op}
use Rattle.cm_plain.specs.declared.placed.Placed.{Placed}
use Rattle.cm_plain.specs.declared.plan.Run.{Run}
use Rattle.cm_plain.specs.declared.room.Spot.{Spot}
use Rattle.cm_plain.specs.States.{IsChain, State, entry_of}
use Rattle.cm_plain.specs.Rooms.{can_stay, first_fit, is_new_tier, lowest_unlinked, room_apart, room_beside, room_for, spot_in}
use Rattle.cm_plain.specs.Changes.{Change, change_of, placed_value, run_at}
use Rattle.cm_plain.specs.Steps.{Plans}
use Rattle.cm_plain.proofs.Chains.{IsOutside, lowest_outside}
use Rattle.cm_segment.specs.PlacementBase.{last_tier}
use Rattle.cm_segment.proofs.LinkedTiers.{IsLinkable}

-- a chain has a last tier
last_in : (geo : Geo) (chain : List ℕ) → IsChain geo chain → Contains chain (last_tier chain)
last_in geo chain is = some_last chain is.first
  where
    some_last : (xs : List ℕ) → slice_get xs 0 ≡ Some 0 → Contains xs (last_tier xs)
    some_last [] e = cc e
    some_last (x ∷ xs) e = (length (x ∷ xs) - 1, omega arith, same (x ∷ xs) (length (x ∷ xs) - 1) (omega arith))
      where
        same : (ys : List ℕ) (k : ℕ) → k < length ys → get_or ys k (get_or ys k 0) ≡ get_or ys k 0
        same ys k h = get_or_default ys k (get_or ys k 0) 0 h

-- a new tier is the lowest one outside the chain, which isn't full
pub record IsFurther (geo : Geo) (chain : List ℕ) (place : ℕ) : Type 0 where
  pub shorter : length chain < geo.tiers
  pub place_is : place ≡ lowest_unlinked geo chain

apart_further : (geo : Geo) (chain : List ℕ) (fit : Option Spot) (old : Option Placed) (spot : Spot) → is_new_tier (room_apart geo chain fit) ≡ true
    → spot_in (room_apart geo chain fit) old ≡ Some spot → IsFurther geo chain spot.place
apart_further geo chain (Some it) old spot new at = cc new
apart_further geo chain None old spot new at = elim (cases_Bool (nat_lt (length chain) geo.tiers)) [
  | inl short ↦
      let here : Spot = record { place = lowest_unlinked geo chain; chunk = 0 } in
      let at' : Some here ≡ Some spot = rw short at at in
      record { shorter = grind (arith, nat_tests); place_is = ap (λ (s : Spot). s.place) (sym (same_Some here spot at')) }
  | inr long ↦ (let new' : false ≡ true = rw long at new in cc new')
]

beside_further : (geo : Geo) (state : State) (old : Option Placed) (chunks : ℕ) (spot : Spot) → is_new_tier (room_beside geo state old chunks) ≡ true
    → spot_in (room_beside geo state old chunks) old ≡ Some spot → IsFurther geo state.chain spot.place
beside_further geo state None chunks spot new at = apart_further geo state.chain (first_fit geo state chunks) None spot new at
beside_further geo state (Some old) chunks spot new at = elim (cases_Bool (can_stay geo state.entries old chunks)) [
  | inl stays ↦ (let new' : false ≡ true = rw stays at new in cc new')
  | inr leaves ↦
      let new' : is_new_tier (room_apart geo state.chain (first_fit geo state chunks)) ≡ true = rw leaves at new in
      let at' : spot_in (room_apart geo state.chain (first_fit geo state chunks)) (Some old) ≡ Some spot = rw leaves at at in
      apart_further geo state.chain (first_fit geo state chunks) (Some old) spot new' at'
]

change_further : (geo : Geo) (state : State) (op : Op) (key : List ℕ) (value : Option (List ℕ)) (run : Run) → (change_of geo state op key value).link ≡ true
    → (change_of geo state op key value).new_run ≡ Some run → IsFurther geo state.chain run.place
change_further geo state op key None run links e = cc e
change_further geo state op key (Some value) run links e =
    by (spot_in (room_for geo state key (need geo (length key) (length value))) (entry_of key state)) refl e
  where
    by : (spot : Option Spot) → spot_in (room_for geo state key (need geo (length key) (length value))) (entry_of key state) ≡ spot
        → option_map (run_at (need geo (length key) (length value))) spot ≡ Some run → IsFurther geo state.chain run.place
    by None is e = cc e
    by (Some spot) is e =
        let same : run_at (need geo (length key) (length value)) spot ≡ run = same_Some (run_at (need geo (length key) (length value)) spot) run e in
        subst (λ (r : Run). IsFurther geo state.chain r.place) same
        (beside_further geo state (entry_of key state) (need geo (length key) (length value)) spot links is)

pub linkable : (geo : Geo) (segment : ℕ) (state : State) (change : Change) (run : Run) → Plans geo segment state change.op change → change.new_run ≡ Some run
    → change.link ≡ true → IsLinkable geo state (last_tier state.chain) run.place
linkable geo segment state change run plans run_is links =
    let further = change_further geo state change.op change.key (placed_value change.op) run (sym (ap (λ (c : Change). c.link) plans.change_is) ∙ links)
    (sym (ap (λ (c : Change). c.new_run) plans.change_is) ∙ run_is) in
    record {
      shorter = further.shorter;
      outside = subst (λ (p : ℕ). IsOutside geo state.chain p) (sym further.place_is) (lowest_outside geo state.chain further.shorter);
      last_is = refl;
      last_in = last_in geo state.chain plans.is_state.chain;
    }
