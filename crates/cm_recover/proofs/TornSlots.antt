-- Each slot of torn words is of an entry that may be kept, or it is dropped for its checksum or its padding.
use Rattle.std.proofs.Common.{◌≡◌, ◌≢◌, ℕ, ◌⊎◌, List, Some, refl, ap, sym, subst, ◌∙◌, inl, inr}
use Rattle.cm_geo.specs.declared.geo.Geo.{Geo}
use Rattle.cm_plain.specs.declared.op.Op.{Op}
use Rattle.cm_plain.specs.declared.placed.Placed.{Placed}
use Rattle.cm_plain.specs.declared.plan.PlanKind.{PlanKind}
use Rattle.cm_plain.specs.declared.plan.PlanKind.TheVariants as kind
use Rattle.cm_plain.specs.States.{IsState, State}
use Rattle.cm_plain.specs.Changes.{Change, after}
use Rattle.cm_plain.specs.Steps.{Plans}
use Rattle.cm_plain.specs.Slots.{slot_for}
use Rattle.cm_plain.specs.FoundChains.{chain_of}
use Rattle.cm_plain.specs.Torn.{BeginsAt, IsChangeSlot, IsOtherSlot, IsPointedInChain, Torn}
use Rattle.cm_plain.proofs.ListElements.{In, in_from, in_to}
use Rattle.cm_plain.proofs.Planned.{IsAtEntry, begins_or_not, new_at, old_at}
use Rattle.cm_plain.proofs.StatePairs.{placed_in}
use Rattle.cm_recover.specs.OccupiedSlots.{OccupiedSlot}
use Rattle.cm_recover.specs.Judgements.{judgement}
use Rattle.cm_recover.specs.Laws.{IsTorn}
use Rattle.cm_recover.proofs.InPlace.{in_place_judged}
use Rattle.cm_recover.proofs.KeptSlots.{IsJudged}
use Rattle.cm_recover.proofs.Candidates.{IsOf, new_candidate, old_candidate}
use Rattle.cm_recover.proofs.OccupiedSlots.{StandsIn}

-- a change in place, or another one
pub by_kind : (it : PlanKind) → (it ≡ kind.InPlace) ⊎ (it ≢ kind.InPlace)
by_kind kind.Fresh = inr (λ e. cc e)
by_kind kind.InPlace = inl refl
by_kind kind.Relocate = inr (λ e. cc e)
by_kind kind.Remove = inr (λ e. cc e)

-- a slot that points to an entry of a chained tier
points_to : (geo : Geo) (words : List ℕ) (at : OccupiedSlot) (placed : Placed) → StandsIn geo words at → placed.place ≡ at.place → at.slot ≡ slot_for geo placed.key placed.chunk → IsPointedInChain geo words placed
points_to geo words at placed stands place_is slot_is = record {
  chained = in_to (chain_of geo words).places placed.place (subst (λ (p : ℕ). In p (chain_of geo words).places) (sym place_is) stands.chained);
  pointed = (at.number, record { inside = stands.inside; slot_is = rw place_is (stands.slot_is ∙ ap Some slot_is) });
}

-- a slot of an entry of another key
pub others_judged : (geo : Geo) (segment : ℕ) (words : List ℕ) (state : State) (change : Change) (at : OccupiedSlot) → IsState geo segment state → Torn geo words state change → StandsIn geo words at
    → (of : IsOtherSlot geo state change at.place at.slot) → IsOf geo segment words state change at of.placed
others_judged geo segment words state change at is torn stands of =
    let i : In of.placed state.entries = in_from state.entries of.placed of.is_other.there in
    let placed = placed_in geo segment state of.placed is i in
    record {
      may = record {
        here = placed.here;
        chained = subst (λ (p : ℕ). In p (chain_of geo words).places) (sym of.place_is) stands.chained;
        run = placed.run;
        role = inl (record { is_in = i; other = of.is_other.other });
      };
      place_is = of.place_is;
      slot_is = of.slot_is;
      reads = torn.others_stand of.placed of.is_other;
    }

-- a slot is of an entry of the change's key
pub record ReadsIts (geo : Geo) (segment : ℕ) (words : List ℕ) (state : State) (change : Change) (at : OccupiedSlot) : Type 0 where
  pub placed : Placed
  pub key_is : placed.key ≡ change.key
  pub of : IsOf geo segment words state change at placed

-- one of the old entry, where the change isn't in place
pub old_judged : (geo : Geo) (segment : ℕ) (words : List ℕ) (state : State) (change : Change) (at : OccupiedSlot) (chunk : ℕ) → IsState geo segment state → Torn geo words state change
    → (change.kind ≢ kind.InPlace) → StandsIn geo words at → IsAtEntry state.entries change.key at.place chunk → at.slot ≡ slot_for geo change.key chunk
    → ReadsIts geo segment words state change at
old_judged geo segment words state change at chunk is torn apart stands old slot_is =
    let placed = placed_in geo segment state old.placed is old.is_in in
    let slot : at.slot ≡ slot_for geo old.placed.key old.placed.chunk = rw (old.key_is, old.chunk_is) slot_is in
    record {
      placed = old.placed;
      key_is = old.key_is;
      of = record {
        may = record {
          here = placed.here;
          chained = subst (λ (p : ℕ). In p (chain_of geo words).places) (sym old.place_is) stands.chained;
          run = placed.run;
          role = inr (old_candidate geo segment state change old.placed is old.is_in old.key_is);
        };
        place_is = old.place_is;
        slot_is = slot;
        reads = torn.old_stands old.placed (record { there = in_to state.entries old.placed old.is_in; key_is = old.key_is }) apart (points_to geo words at old.placed stands old.place_is slot);
      };
    }

-- and one of the new entry, apart from the old one
pub new_judged : (geo : Geo) (segment : ℕ) (words : List ℕ) (state : State) (op : Op) (change : Change) (at : OccupiedSlot) (chunk : ℕ) → IsState geo segment state → Plans geo segment state op change
    → Torn geo words state change → (change.kind ≢ kind.InPlace) → StandsIn geo words at → (BeginsAt change.old_run at.place chunk → ⊥) → IsAtEntry (after geo change state).entries change.key at.place chunk
    → at.slot ≡ slot_for geo change.key chunk → ReadsIts geo segment words state change at
new_judged geo segment words state op change at chunk is plans torn apart stands not_old new slot_is =
    let placed = placed_in geo segment (after geo change state) new.placed plans.leads new.is_in in
    let slot : at.slot ≡ slot_for geo new.placed.key new.placed.chunk = rw (new.key_is, new.chunk_is) slot_is in
    record {
      placed = new.placed;
      key_is = new.key_is;
      of = record {
        may = record {
          here = placed.here;
          chained = subst (λ (p : ℕ). In p (chain_of geo words).places) (sym new.place_is) stands.chained;
          run = placed.run;
          role = inr (new_candidate geo segment state op change new.placed is plans new.is_in new.key_is);
        };
        place_is = new.place_is;
        slot_is = slot;
        reads = torn.new_stands new.placed (record { there = in_to (after geo change state).entries new.placed new.is_in; key_is = new.key_is })
            (λ h. not_old (subst (λ (p : ℕ). BeginsAt change.old_run p chunk) new.place_is (subst (λ (c : ℕ). BeginsAt change.old_run new.placed.place c) new.chunk_is h)))
            (points_to geo words at new.placed stands new.place_is slot);
      };
    }

-- a slot of the change's key, where the change isn't in place
apart_judged : (geo : Geo) (segment : ℕ) (words : List ℕ) (state : State) (op : Op) (change : Change) (at : OccupiedSlot) → IsState geo segment state → Plans geo segment state op change
    → Torn geo words state change → (change.kind ≢ kind.InPlace) → StandsIn geo words at → IsChangeSlot geo change at.place at.slot → ReadsIts geo segment words state change at
apart_judged geo segment words state op change at is plans torn apart stands its = elim (begins_or_not change.old_run at.place its.chunk) [
  | inl old ↦ old_judged geo segment words state change at its.chunk is torn apart stands (old_at geo segment state op change at.place its.chunk plans old) its.slot_is
  | inr not_old ↦ elim its.begins [
    | inl old ↦ absurd (not_old old)
    | inr new ↦ new_judged geo segment words state op change at its.chunk is plans torn apart stands not_old (new_at geo state change at.place its.chunk new) its.slot_is
  ]
]

-- each slot that isn't empty is judged
pub judged : (geo : Geo) (segment : ℕ) (words : List ℕ) (state : State) (op : Op) (change : Change) (at : OccupiedSlot) → IsTorn geo segment words state op change → StandsIn geo words at
    → IsJudged (judgement geo segment words (chain_of geo words).places) (IsOf geo segment words state change) at
judged geo segment words state op change at is_torn stands =
    elim (is_torn.torn.slots at.place at.number at.slot (in_to (chain_of geo words).places at.place stands.chained) stands.inside stands.slot_is) [
      | inl others ↦ inl (others.placed, others_judged geo segment words state change at is_torn.plans.is_state is_torn.torn stands others)
      | inr its ↦ elim (by_kind change.kind) [
        | inl in_place ↦ in_place_judged geo segment words state op change at its.chunk is_torn.length_is is_torn.plans.is_state is_torn.plans is_torn.torn in_place stands its.begins its.slot_is
        | inr apart ↦ (let reads = apart_judged geo segment words state op change at is_torn.plans.is_state is_torn.plans is_torn.torn apart stands its in inl (reads.placed, reads.of))
      ]
    ]
