-- The words on which an entry is placed elsewhere than where an old one stands rest for the state with its tier.
use Rattle.std.proofs.Common.{◌≡◌, ℕ, ◌⊎◌, Bool, false, true, List, slice_set, Contains, refl, sym, subst, inl, inr, if◌then◌else◌}
use Rattle.std.proofs.lemmas.Bool.{cases_Bool}
use Rattle.std.proofs.lemmas.List.Elements.{Contains-push}
use Rattle.cm_geo.specs.declared.geo.Geo.{Geo}
use Rattle.cm_geo.specs.Addresses.{tier_at}
use Rattle.cm_plain.specs.declared.placed.Placed.{Placed}
use Rattle.cm_plain.specs.declared.plan.Run.{Run}
use Rattle.cm_plain.specs.States.{State}
use Rattle.cm_plain.specs.Changes.{Change, after, chain_after, new_entry}
use Rattle.cm_plain.specs.Steps.{Plans}
use Rattle.cm_plain.specs.Lawful.{Resting}
use Rattle.cm_plain.proofs.Apart.{IsApart}
use Rattle.cm_plain.proofs.Planned.{IsNew, away_apart, is_new}
use Rattle.cm_segment.specs.PlacementBase.{PlacesElsewhere, base_state, base_words, last_tier, with_tier}
use Rattle.cm_segment.specs.Phases.{IsStart}
use Rattle.cm_segment.proofs.LinkedTiers.{linked_rests}
use Rattle.cm_segment.proofs.NewTiers.{linkable}

-- what is known of these words, of the state for which they rest, and of the new run
pub record IsBase (geo : Geo) (segment : ℕ) (change : Change) (run : Run) (state mid : State) (base : List ℕ) : Type 0 where
  pub planned : Plans geo segment state change.op change
  pub places : PlacesElsewhere geo change run
  pub new : IsNew geo segment state change run
  pub apart : (placed : Placed) → Contains state.entries placed → IsApart geo placed (new_entry change run)
  pub rests : Resting geo segment base mid
  pub entries_are : mid.entries ≡ state.entries
  pub chain_is : (mid.chain ≡ state.chain) ⊎ (mid.chain ≡ (after geo change state).chain)
  pub chained : Contains mid.chain run.place

pub base_is : (geo : Geo) (segment : ℕ) (state : State) (change : Change) (run : Run) (start : List ℕ) → IsStart geo segment change start state
    → PlacesElsewhere geo change run
    → IsBase geo segment change run state (base_state change run state) (base_words geo change run state start)
base_is geo segment state change run start is places = elim (cases_Bool change.link) [
  | inl links ↦
      let it : IsBase geo segment change run state (with_tier run.place state) (slice_set start (tier_at geo (last_tier state.chain)) run.place) = record {
        planned = is.planned;
        places = places;
        new = new;
        apart = apart;
        rests = linked_rests geo segment state (last_tier state.chain) run.place start is.rests
            (linkable geo segment state change run is.planned places.run_is links);
        entries_are = refl;
        chain_is = inr (rw (links, places.run_is) refl);
        chained = Contains-push state.chain run.place;
      } in
      by_link true links it
  | inr links_not ↦
      let it : IsBase geo segment change run state state start = record {
        planned = is.planned;
        places = places;
        new = new;
        apart = apart;
        rests = is.rests;
        entries_are = refl;
        chain_is = inl refl;
        chained = subst (λ (l : Bool). Contains (chain_after l change.new_run state.chain) run.place) links_not new.placed.chained;
      } in
      by_link false links_not it
]
  where
    new : IsNew geo segment state change run
    new = is_new geo segment state change run is.planned places.run_is

    apart : (placed : Placed) → Contains state.entries placed → IsApart geo placed (new_entry change run)
    apart = away_apart geo segment state change run is.planned places.kind_not places.run_is

    by_link : (link : Bool) → change.link ≡ link
        → IsBase geo segment change run state (if link then with_tier run.place state else state)
        (if link then slice_set start (tier_at geo (last_tier state.chain)) run.place else start)
        → IsBase geo segment change run state (base_state change run state) (base_words geo change run state start)
    by_link link e it = subst
        (λ (l : Bool). IsBase geo segment change run state (if l then with_tier run.place state else state)
        (if l then slice_set start (tier_at geo (last_tier state.chain)) run.place else start)) (sym e) it
