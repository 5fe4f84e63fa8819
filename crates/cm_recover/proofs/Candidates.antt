-- Which entries may be kept of torn words: those of other keys, and what an outcome allows for the change's key.
use Rattle.std.proofs.Common.{◌≡◌, ◌≢◌, ℕ, ◌⊎◌, List, Some, ap, sym, subst, ◌∙◌, inl, inr}
use Rattle.cm_geo.specs.declared.geo.Geo.{Geo}
use Rattle.cm_geo.specs.Hash.{segment_of_key}
use Rattle.cm_plain.specs.declared.op.Op.{Op}
use Rattle.cm_plain.specs.declared.placed.Placed.{Placed}
use Rattle.cm_plain.specs.States.{HasRun, IsState, State, value_in, value_of}
use Rattle.cm_plain.specs.Changes.{Change, after}
use Rattle.cm_plain.specs.Steps.{Plans}
use Rattle.cm_plain.specs.Slots.{slot_for}
use Rattle.cm_plain.specs.Readings.{Stands}
use Rattle.cm_plain.specs.FoundChains.{chain_of}
use Rattle.cm_plain.proofs.Apart.{IsApart, apart_symmetric, begins_low}
use Rattle.cm_plain.proofs.EntrySets.{found_is}
use Rattle.cm_plain.proofs.ListElements.{In, in_to}
use Rattle.cm_plain.proofs.Planned.{new_apart}
use Rattle.cm_plain.proofs.StatePairs.{apart_in}
use Rattle.cm_plain.proofs.States.{each_rising}
use Rattle.cm_recover.specs.OccupiedSlots.{OccupiedSlot}
use Rattle.cm_recover.specs.Judgements.{judgement}
use Rattle.cm_plain.specs.Outcomes.{IsChangeOutcome}
use Rattle.cm_recover.proofs.KeptSlots.{AreAlone, IsJudge}
use Rattle.cm_recover.proofs.SlotJudgements.{by_entry}

-- an entry of another key than the change's
pub record IsOfOtherKey (state : State) (change : Change) (placed : Placed) : Type 0 where
  pub is_in : In placed state.entries
  pub other : placed.key ≢ change.key

-- an entry that may stand for the change's key: its run is apart from those of all other keys, and its value is an outcome
pub record IsCandidate (geo : Geo) (state : State) (change : Change) (placed : Placed) : Type 0 where
  pub key_is : placed.key ≡ change.key
  pub apart : (other : Placed) → IsOfOtherKey state change other → IsApart geo other placed
  pub outcome : IsChangeOutcome geo state change (Some placed.value)

-- an entry that may be kept
pub record MayBeKept (geo : Geo) (segment : ℕ) (words : List ℕ) (state : State) (change : Change) (placed : Placed) : Type 0 where
  pub here : segment_of_key geo placed.key ≡ segment
  pub chained : In placed.place (chain_of geo words).places
  pub run : HasRun geo placed
  pub role : IsOfOtherKey state change placed ⊎ IsCandidate geo state change placed

-- a slot is of an entry that may be kept
pub record IsOf (geo : Geo) (segment : ℕ) (words : List ℕ) (state : State) (change : Change) (at : OccupiedSlot) (placed : Placed) : Type 0 where
  pub may : MayBeKept geo segment words state change placed
  pub place_is : placed.place ≡ at.place
  pub slot_is : at.slot ≡ slot_for geo placed.key placed.chunk
  pub reads : Stands geo words placed

-- entries of two keys that may be kept are apart
alone : (geo : Geo) (segment : ℕ) (words : List ℕ) (state : State) (change : Change) → IsState geo segment state → AreAlone geo (MayBeKept geo segment words state change)
alone geo segment words state change is one other may may' ne = by may.role may'.role
  where
    by : IsOfOtherKey state change one ⊎ IsCandidate geo state change one → IsOfOtherKey state change other ⊎ IsCandidate geo state change other → IsApart geo one other
    by (inl their) (inl their') = apart_in geo state.entries one other (each_rising is) their.is_in their'.is_in ne
    by (inl their) (inr its') = its'.apart one their
    by (inr its) (inl their') = apart_symmetric geo other one (its.apart other their')
    by (inr its) (inr its') = absurd (ne (its.key_is ∙ sym its'.key_is))

-- so slots are judged by their entries
pub judges : (geo : Geo) (segment : ℕ) (words : List ℕ) (state : State) (change : Change) → IsState geo segment state
    → IsJudge geo (judgement geo segment words (chain_of geo words).places) (MayBeKept geo segment words state change) (IsOf geo segment words state change)
judges geo segment words state change is = record {
  alone = alone geo segment words state change is;
  may = λ at placed of. of.may;
  beside = λ at placed kept of. by_entry geo segment words (chain_of geo words).places kept at placed (subst (λ (p : ℕ). In p (chain_of geo words).places) of.place_is of.may.chained) of.place_is of.slot_is
      (begins_low geo placed of.may.run) of.reads of.may.here;
}

-- the value of a key is that of its entry
pub value_is : (geo : Geo) (segment : ℕ) (state : State) (key : List ℕ) (placed : Placed) → IsState geo segment state → In placed state.entries → placed.key ≡ key → value_of key state ≡ Some placed.value
value_is geo segment state key placed is i key_is = ap value_in (found_is geo segment state key placed is (in_to state.entries placed i) key_is)

-- the old entry may stand
pub old_candidate : (geo : Geo) (segment : ℕ) (state : State) (change : Change) (old : Placed) → IsState geo segment state → In old state.entries → old.key ≡ change.key → IsCandidate geo state change old
old_candidate geo segment state change old is i key_is = record {
  key_is = key_is;
  apart = λ other their. apart_in geo state.entries other old (each_rising is) their.is_in i (λ same. their.other (same ∙ key_is));
  outcome = inl (inl (value_is geo segment state change.key old is i key_is));
}

-- and so may the new one
pub new_candidate : (geo : Geo) (segment : ℕ) (state : State) (op : Op) (change : Change) (new : Placed) → IsState geo segment state → Plans geo segment state op change
    → In new (after geo change state).entries → new.key ≡ change.key → IsCandidate geo state change new
new_candidate geo segment state op change new is plans i key_is = record {
  key_is = key_is;
  apart = λ other their. new_apart geo segment state op change new other is plans i key_is their.is_in their.other;
  outcome = inl (inr (value_is geo segment (after geo change state) change.key new plans.leads i key_is));
}
