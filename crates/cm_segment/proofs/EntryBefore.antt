-- The entry that a change removes or replaces.
use Rattle.std.proofs.Common.{◌≡◌, ◌≢◌, ℕ, List, Some, Contains, refl, ap, sym, subst, ◌∙◌}
use Rattle.std.specs.Option.{option_map}
use Rattle.std.proofs.lemmas.Option.{same_Some}
use Rattle.cm_geo.specs.declared.geo.Geo.{Geo}
use Rattle.cm_plain.specs.declared.placed.Placed.{Placed}
use Rattle.cm_plain.specs.declared.plan.Run.{Run}
use Rattle.cm_plain.specs.States.{State}
use Rattle.cm_plain.specs.Changes.{Change, placed_value, run_of}
use Rattle.cm_plain.specs.Slots.{Slot, slot_for}
use Rattle.cm_plain.proofs.Apart.{IsApart, apart_starts, start_same}
use Rattle.cm_plain.proofs.EntrySets.{found_is}
use Rattle.cm_plain.proofs.ListElements.{in_from, in_to}
use Rattle.cm_plain.proofs.Planned.{old_at, old_run_is}
use Rattle.cm_plain.proofs.StatePairs.{apart_in, same_in}
use Rattle.cm_plain.proofs.States.{each_differs, each_rising, is_placed}
use Rattle.cm_segment.specs.Phases.{IsStart}

-- the run is that of the one entry of the key, and no other entry meets it
pub record HasOldEntry (geo : Geo) (state : State) (key : List ℕ) (run : Run) : Type 0 where
  pub old : Placed
  pub there : Contains state.entries old
  pub key_is : old.key ≡ key
  pub run_is : run ≡ run_of geo old
  pub chained : Contains state.chain run.place
  pub only : (placed : Placed) → Contains state.entries placed → placed.key ≡ key → placed ≡ old
  pub apart : (placed : Placed) → Contains state.entries placed → placed.key ≢ key → IsApart geo placed old

-- so it is of the old run of a planned change
pub old_entry : (geo : Geo) (segment : ℕ) (start : List ℕ) (state : State) (change : Change) (run : Run) → IsStart geo segment change start state
    → change.old_run ≡ Some run → HasOldEntry geo state change.key run
old_entry geo segment start state change run is old_is =
    let plans = is.planned in
    let at = old_at geo segment state change.op change run.place run.chunk plans (rw old_is (refl, refl)) in
    let there : Contains state.entries at.placed = in_to state.entries at.placed at.is_in in
    let of_old : change.old_run ≡ Some (run_of geo at.placed) = ap (λ (c : Change). c.old_run) plans.change_is
    ∙ (old_run_is geo state change.op change.key (placed_value change.op) ∙ ap (option_map (run_of geo))
    (found_is geo segment state change.key at.placed plans.is_state there at.key_is)) in
    record {
      old = at.placed;
      there = there;
      key_is = at.key_is;
      run_is = same_Some run (run_of geo at.placed) (sym old_is ∙ of_old);
      chained = subst (Contains state.chain) at.place_is (is_placed plans.is_state at.placed there).chained;
      only = λ placed has e. same_in state.entries placed at.placed (each_differs plans.is_state) (in_from state.entries placed has) at.is_in
          (e ∙ sym at.key_is);
      apart = λ placed has differ. apart_in geo state.entries placed at.placed (each_rising plans.is_state) (in_from state.entries placed has) at.is_in
          (λ e. differ (e ∙ at.key_is));
    }

-- entries that are apart begin at different chunks
pub begins_apart : (geo : Geo) (one other : Placed) → IsApart geo one other → one.place ≡ other.place → one.chunk ≢ other.chunk
begins_apart geo one other apart place chunk = apart_starts geo other one apart (start_same geo one other place chunk)

-- slots that are one point to one chunk
pub slot_chunk : (geo : Geo) (key other : List ℕ) (a b : ℕ) → Some (slot_for geo key a) ≡ Some (slot_for geo other b) → a ≡ b
slot_chunk geo key other a b e = same_Some a b (ap (λ (s : Slot). s.chunk) (same_Some (slot_for geo key a) (slot_for geo other b) e))
