-- What is kept of torn words is a state and an outcome of the change.
use Rattle.std.proofs.Common.{◌≡◌, ◌≢◌, ℕ, ◌⊎◌, Bool, true, false, List, [], ◌∷◌, Contains, Option, Some, None, refl, ap, sym, subst, ◌∙◌, inl, inr}
use Rattle.std.specs.List.{All}
use Rattle.std.proofs.lemmas.List.Elements.{All-from_recursion}
use Rattle.cm_geo.specs.declared.geo.Geo.{Geo}
use Rattle.cm_plain.specs.declared.op.Op.{Op}
use Rattle.cm_plain.specs.declared.placed.Placed.{Placed}
use Rattle.cm_plain.specs.declared.plan.Run.{Run}
use Rattle.cm_plain.specs.declared.plan.PlanKind.TheVariants as kind
use Rattle.cm_plain.specs.States.{IsChain, IsPlaced, IsState, State, entry_of, value_in, value_of}
use Rattle.cm_plain.specs.Changes.{Change, after, chain_after}
use Rattle.cm_plain.specs.Slots.{slot_for}
use Rattle.cm_plain.specs.FoundChains.{KeepsAllowance, chain_of}
use Rattle.cm_plain.specs.Torn.{IsPointedInChain, Torn}
use Rattle.cm_plain.proofs.Apart.{Rising}
use Rattle.cm_plain.proofs.Each.{all_from_pairs, each_weaker}
use Rattle.cm_plain.proofs.States.{Differs, each_differs}
use Rattle.cm_plain.proofs.EntrySets.{found_is, found_none, found_there}
use Rattle.cm_plain.proofs.ListElements.{In, all_in, in_from, in_has, in_left, in_to}
use Rattle.cm_plain.proofs.Planned.{begins_or_not, old_at}
use Rattle.cm_plain.proofs.StatePairs.{placed_in, same_in}
use Rattle.cm_recover.specs.OccupiedSlots.{OccupiedSlot, occupied_slots}
use Rattle.cm_recover.specs.AllowedPlaces.{allowed_places}
use Rattle.cm_recover.specs.Judgements.{judgement}
use Rattle.cm_recover.specs.KeptSlots.{KeptEntries, kept_in, kept_of}
use Rattle.cm_plain.specs.Outcomes.{IsChangeOutcome, Outcome}
use Rattle.cm_recover.specs.Laws.{IsTorn, IsCauseOfTorn, KeepsOutcomes}
use Rattle.cm_recover.proofs.Allowance.{all_allowed}
use Rattle.cm_recover.proofs.TornSlots.{ReadsIts, by_kind, judged, new_judged, old_judged, others_judged}
use Rattle.cm_recover.proofs.KeptSlots.{HasKey, IsKeeping, keeps}
use Rattle.cm_recover.proofs.Candidates.{IsCandidate, IsOf, IsOfOtherKey, MayBeKept, judges, value_is}
use Rattle.cm_recover.proofs.OccupiedSlots.{StandsIn, occupied_from, occupied_to}

-- what is kept of torn words, where the allowance covers all their tiers
abbrev kept_whole : Geo → ℕ → List ℕ → KeptEntries
kept_whole geo segment words = kept_of geo segment words (chain_of geo words).places (record { entries = []; drops = [] }) (occupied_slots geo words)

abbrev IsWhole : Geo → ℕ → List ℕ → State → Change → KeptEntries → Type 0
IsWhole geo segment words state change kept =
    IsKeeping geo (MayBeKept geo segment words state change) (IsOf geo segment words state change) (record { entries = []; drops = [] }) (occupied_slots geo words) kept

keeps_whole : (geo : Geo) (segment : ℕ) (words : List ℕ) (state : State) (op : Op) (change : Change) → IsTorn geo segment words state op change
    → IsWhole geo segment words state change (kept_whole geo segment words)
keeps_whole geo segment words state op change is_torn =
    keeps geo (judgement geo segment words (chain_of geo words).places) (MayBeKept geo segment words state change) (IsOf geo segment words state change) (record { entries = []; drops = [] }) (occupied_slots geo words)
    (judges geo segment words state change is_torn.plans.is_state) (record { may = tt; rising = tt; keys = tt; drops = tt })
    (all_in _ (occupied_slots geo words) (λ at i. judged geo segment words state op change at is_torn (occupied_from geo words at i)))

-- the state that is kept
abbrev state_of : Geo → List ℕ → KeptEntries → State
state_of geo words kept = record { chain = (chain_of geo words).places; entries = kept.entries }

-- it is one
is_state_of : (geo : Geo) (segment : ℕ) (words : List ℕ) (state : State) (op : Op) (change : Change) (kept : KeptEntries) → IsTorn geo segment words state op change → IsWhole geo segment words state change kept
    → IsState geo segment (state_of geo words kept)
is_state_of geo segment words state op change kept is_torn whole =
    let sound = whole.more.sound in
    record {
      chain = elim is_torn.torn.chain [
        | inl old ↦ subst (λ (c : List ℕ). IsChain geo c) (sym old) is_torn.plans.is_state.chain
        | inr new ↦ subst (λ (c : List ℕ). IsChain geo c) (sym new) is_torn.plans.leads.chain
      ];
      placed = All-from_recursion (IsPlaced geo segment (chain_of geo words).places) kept.entries (each_weaker (MayBeKept geo segment words state change) (IsPlaced geo segment (chain_of geo words).places)
          (λ placed may. record { here = may.here; chained = in_to (chain_of geo words).places placed.place may.chained; run = may.run }) kept.entries sound.may);
      runs = all_from_pairs (Rising geo) kept.entries sound.rising;
      keys = all_from_pairs Differs kept.entries sound.keys;
    }

-- a tier of the old chain is one of the chain that is found
chain_more : (link : Bool) (run : Option Run) (chain : List ℕ) (place : ℕ) → In place chain → In place (chain_after link run chain)
chain_more true (Some run) chain place i = in_left chain (run.place ∷ []) place i
chain_more true None chain place i = i
chain_more false (Some run) chain place i = i
chain_more false None chain place i = i

in_chain : (geo : Geo) (words : List ℕ) (state : State) (change : Change) (place : ℕ) → Torn geo words state change → In place state.chain → In place (chain_of geo words).places
in_chain geo words state change place torn i = elim torn.chain [
  | inl old ↦ subst (λ (c : List ℕ). In place c) (sym old) i
  | inr new ↦ subst (λ (c : List ℕ). In place c) (sym new) (chain_more change.link change.new_run state.chain place i)
]

-- an entry that is kept may be
may_of : (geo : Geo) (segment : ℕ) (words : List ℕ) (state : State) (change : Change) (kept : KeptEntries) (placed : Placed) → IsWhole geo segment words state change kept → In placed kept.entries
    → MayBeKept geo segment words state change placed
may_of geo segment words state change kept placed whole i = in_has (MayBeKept geo segment words state change) kept.entries placed whole.more.sound.may i

-- one of another key is one of the state
their_role : (geo : Geo) (state : State) (change : Change) (placed : Placed) → IsOfOtherKey state change placed ⊎ IsCandidate geo state change placed → placed.key ≢ change.key → In placed state.entries
their_role geo state change placed (inl their) ne = their.is_in
their_role geo state change placed (inr its) ne = absurd (ne its.key_is)

-- each entry of another key is kept
their_kept : (geo : Geo) (segment : ℕ) (words : List ℕ) (state : State) (op : Op) (change : Change) (kept : KeptEntries) (placed : Placed) → IsTorn geo segment words state op change
    → IsWhole geo segment words state change kept → In placed state.entries → placed.key ≢ change.key → In placed kept.entries
their_kept geo segment words state op change kept placed is_torn whole i ne =
    let there : Contains state.entries placed = in_to state.entries placed i in
    let point = is_torn.torn.others_pointed placed (record { there = there; other = ne }) in
    let is = placed_in geo segment state placed is_torn.plans.is_state i in
    let chained : In placed.place (chain_of geo words).places = in_chain geo words state change placed.place is_torn.torn (in_from state.chain placed.place is.chained) in
    let at : OccupiedSlot = record { place = placed.place; number = point.0; slot = slot_for geo placed.key placed.chunk } in
    let stands : StandsIn geo words at = record { chained = chained; inside = point.1.inside; slot_is = point.1.slot_is } in
    let of : IsOf geo segment words state change at placed = others_judged geo segment words state change at is_torn.plans.is_state is_torn.torn stands
    (record { placed = placed; is_other = record { there = there; other = ne }; place_is = refl; slot_is = refl }) in
    let has : HasKey kept placed.key = whole.has at placed (occupied_to geo words placed.place point.0 (slot_for geo placed.key placed.chunk) chained point.1.inside point.1.slot_is) of in
    let may = may_of geo segment words state change kept has.placed whole has.is_in in
    let same : has.placed ≡ placed = same_in state.entries has.placed placed (each_differs is_torn.plans.is_state) (their_role geo state change has.placed may.role (λ e. ne (sym has.key_is ∙ e))) i has.key_is in
    subst (λ (p : Placed). In p kept.entries) same has.is_in

-- each other key has what it had
others_same : (geo : Geo) (segment : ℕ) (words : List ℕ) (state : State) (op : Op) (change : Change) (kept : KeptEntries) (key : List ℕ) → IsTorn geo segment words state op change
    → IsWhole geo segment words state change kept → key ≢ change.key → value_of key (state_of geo words kept) ≡ value_of key state
others_same geo segment words state op change kept key is_torn whole ne = by (entry_of key state) refl
  where
    gone : entry_of key state ≡ None → (placed : Placed) → In placed kept.entries → placed.key ≢ key
    gone e placed i same =
        let may = may_of geo segment words state change kept placed whole i in
        let here : In placed state.entries = their_role geo state change placed may.role (λ its. ne (sym same ∙ its)) in
        let there : entry_of key state ≡ Some placed = found_is geo segment state key placed is_torn.plans.is_state (in_to state.entries placed here) same in
        (let clash : None ≡ Some placed = sym e ∙ there in cc clash)

    by : (it : Option Placed) → entry_of key state ≡ it → value_of key (state_of geo words kept) ≡ value_of key state
    by None e = ap value_in (found_none key kept.entries (gone e) ∙ sym e)
    by (Some placed) e =
        let there = found_there key state.entries placed e in
        let i : In placed kept.entries = their_kept geo segment words state op change kept placed is_torn whole there.is_in (λ its. ne (sym there.key_is ∙ its)) in
        value_is geo segment (state_of geo words kept) key placed (is_state_of geo segment words state op change kept is_torn whole) i there.key_is ∙ sym (ap value_in e)

-- a slot of a chained tier that points to the old or the new entry of a change that isn't in place is of an entry of its key
reads_pointed : (geo : Geo) (segment : ℕ) (words : List ℕ) (state : State) (op : Op) (change : Change) (old new : Placed) (at : OccupiedSlot) → IsTorn geo segment words state op change
    → (change.kind ≢ kind.InPlace) → In old state.entries → old.key ≡ change.key → In new (after geo change state).entries → new.key ≡ change.key → StandsIn geo words at
    → ((at.place ≡ old.place) × (at.slot ≡ slot_for geo old.key old.chunk)) ⊎ ((at.place ≡ new.place) × (at.slot ≡ slot_for geo new.key new.chunk))
    → ReadsIts geo segment words state change at
reads_pointed geo segment words state op change old new at is_torn apart i key_is j key_is' stands (inl h) =
    old_judged geo segment words state change at old.chunk is_torn.plans.is_state is_torn.torn apart stands (record { placed = old; is_in = i; key_is = key_is; place_is = sym h.0; chunk_is = refl }) (h.1 ∙ ap (λ (k : List ℕ). slot_for geo k old.chunk) key_is)
reads_pointed geo segment words state op change old new at is_torn apart i key_is j key_is' stands (inr h) =
    let slot : at.slot ≡ slot_for geo change.key new.chunk = h.1 ∙ ap (λ (k : List ℕ). slot_for geo k new.chunk) key_is' in
    elim (begins_or_not change.old_run at.place new.chunk) [
      | inl begins ↦ old_judged geo segment words state change at new.chunk is_torn.plans.is_state is_torn.torn apart stands (old_at geo segment state op change at.place new.chunk is_torn.plans begins) slot
      | inr not_old ↦ new_judged geo segment words state op change at new.chunk is_torn.plans.is_state is_torn.plans is_torn.torn apart stands not_old
          (record { placed = new; is_in = j; key_is = key_is'; place_is = sym h.0; chunk_is = refl }) slot
    ]

-- where the key was there and stays, and the change isn't in place, it has an entry
its_kept : (geo : Geo) (segment : ℕ) (words : List ℕ) (state : State) (op : Op) (change : Change) (kept : KeptEntries) (old new : Placed) → IsTorn geo segment words state op change
    → IsWhole geo segment words state change kept → (change.kind ≢ kind.InPlace) → In old state.entries → old.key ≡ change.key → In new (after geo change state).entries → new.key ≡ change.key
    → HasKey kept change.key
its_kept geo segment words state op change kept old new is_torn whole apart i key_is j key_is' =
    elim (is_torn.torn.pointed old new (record { there = in_to state.entries old i; key_is = key_is }) (record { there = in_to (after geo change state).entries new j; key_is = key_is' })) [
      | inl points ↦ at_slot old points (inl (refl, refl))
      | inr points ↦ at_slot new points (inr (refl, refl))
    ]
  where
    at_slot : (placed : Placed) (points : IsPointedInChain geo words placed)
        → ((placed.place ≡ old.place) × (slot_for geo placed.key placed.chunk ≡ slot_for geo old.key old.chunk)) ⊎ ((placed.place ≡ new.place) × (slot_for geo placed.key placed.chunk ≡ slot_for geo new.key new.chunk))
        → HasKey kept change.key
    at_slot placed points side =
        let number = points.pointed.0 in
        let chained : In placed.place (chain_of geo words).places = in_from (chain_of geo words).places placed.place points.chained in
        let at : OccupiedSlot = record { place = placed.place; number = number; slot = slot_for geo placed.key placed.chunk } in
        let stands : StandsIn geo words at = record { chained = chained; inside = points.pointed.1.inside; slot_is = points.pointed.1.slot_is } in
        let reads = reads_pointed geo segment words state op change old new at is_torn apart i key_is j key_is' stands side in
        let has = whole.has at reads.placed (occupied_to geo words placed.place number (slot_for geo placed.key placed.chunk) chained points.pointed.1.inside points.pointed.1.slot_is) reads.of in
        record { placed = has.placed; is_in = has.is_in; key_is = has.key_is ∙ reads.key_is }

-- where nothing is kept of the change's key, it had or has nothing, or the change is in place
its_gone : (geo : Geo) (segment : ℕ) (words : List ℕ) (state : State) (op : Op) (change : Change) (kept : KeptEntries) → IsTorn geo segment words state op change
    → IsWhole geo segment words state change kept → entry_of change.key (state_of geo words kept) ≡ None → IsChangeOutcome geo state change None
its_gone geo segment words state op change kept is_torn whole none = by (entry_of change.key state) (entry_of change.key (after geo change state)) refl refl
  where
    by : (old new : Option Placed) → entry_of change.key state ≡ old → entry_of change.key (after geo change state) ≡ new → IsChangeOutcome geo state change None
    by None new e f = inl (inl (ap value_in e))
    by (Some old) None e f = inl (inr (ap value_in f))
    by (Some old) (Some new) e f = elim (by_kind change.kind) [
      | inl in_place ↦ inr in_place
      | inr apart ↦
          let there = found_there change.key state.entries old e in
          let there' = found_there change.key (after geo change state).entries new f in
          let has = its_kept geo segment words state op change kept old new is_torn whole apart there.is_in there.key_is there'.is_in there'.key_is in
          let found_it : entry_of change.key (state_of geo words kept) ≡ Some has.placed =
          found_is geo segment (state_of geo words kept) change.key has.placed (is_state_of geo segment words state op change kept is_torn whole) (in_to kept.entries has.placed has.is_in) has.key_is in
          (let clash : None ≡ Some has.placed = sym none ∙ found_it in cc clash)
    ]

-- the change's key has an outcome
its_outcome : (geo : Geo) (segment : ℕ) (words : List ℕ) (state : State) (op : Op) (change : Change) (kept : KeptEntries) → IsTorn geo segment words state op change
    → IsWhole geo segment words state change kept → IsChangeOutcome geo state change (value_of change.key (state_of geo words kept))
its_outcome geo segment words state op change kept is_torn whole = by (entry_of change.key (state_of geo words kept)) refl
  where
    its_role : (placed : Placed) → IsOfOtherKey state change placed ⊎ IsCandidate geo state change placed → placed.key ≡ change.key → IsChangeOutcome geo state change (Some placed.value)
    its_role placed (inl their) key_is = absurd (their.other key_is)
    its_role placed (inr its) key_is = its.outcome

    by : (it : Option Placed) → entry_of change.key (state_of geo words kept) ≡ it → IsChangeOutcome geo state change (value_of change.key (state_of geo words kept))
    by None e = subst (λ (v : Option (List ℕ)). IsChangeOutcome geo state change v) (sym (ap value_in e)) (its_gone geo segment words state op change kept is_torn whole e)
    by (Some placed) e =
        let there = found_there change.key kept.entries placed e in
        let may = may_of geo segment words state change kept placed whole there.is_in in
        subst (λ (v : Option (List ℕ)). IsChangeOutcome geo state change v) (sym (ap value_in e)) (its_role placed may.role there.key_is)

-- what is kept where the allowance covers the tiers at these places
record KeepsOutcomeAt (geo : Geo) (segment : ℕ) (words : List ℕ) (state : State) (change : Change) (places : List ℕ) (kept : KeptEntries) : Type 0 where
  is_state : IsState geo segment (record { chain = places; entries = kept.entries })
  outcome : Outcome geo state change (λ key. value_of key (record { chain = places; entries = kept.entries }))
  drops : All IsCauseOfTorn kept.drops

outcome_at : (geo : Geo) (segment : ℕ) (words : List ℕ) (state : State) (op : Op) (change : Change) (kept : KeptEntries) → IsTorn geo segment words state op change → IsWhole geo segment words state change kept
    → KeepsOutcomeAt geo segment words state change (chain_of geo words).places kept
outcome_at geo segment words state op change kept is_torn whole = record {
  is_state = is_state_of geo segment words state op change kept is_torn whole;
  outcome = record {
    others = λ key ne. others_same geo segment words state op change kept key is_torn whole ne;
    its = its_outcome geo segment words state op change kept is_torn whole;
  };
  drops = All-from_recursion IsCauseOfTorn kept.drops whole.more.sound.drops;
}

-- the law of torn words
pub keeps_outcomes : (geo : Geo) (words_of : ℕ → List ℕ) → KeepsAllowance geo words_of → KeepsOutcomes geo words_of
unfolding kept_in
keeps_outcomes geo words_of keeps segment state op change below is_torn =
    let words : List ℕ = words_of segment in
    let whole = outcome_at geo segment words state op change (kept_whole geo segment words) is_torn (keeps_whole geo segment words state op change is_torn) in
    let all : KeepsOutcomeAt geo segment words state change (allowed_places geo words_of segment) (kept_in geo words_of segment) =
    subst (λ (places : List ℕ). KeepsOutcomeAt geo segment words state change places (kept_of geo segment words places (record { entries = []; drops = [] }) (occupied_slots geo words))) (sym (all_allowed geo words_of segment keeps below)) whole in
    record { is_state = all.is_state; outcome = all.outcome; drops = all.drops }
