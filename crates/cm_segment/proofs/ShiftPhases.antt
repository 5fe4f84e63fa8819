-- The call that removes a slot from a tier, in a phase of a change: which stores it may make, and the phase to which it leads.
use Rattle.std.proofs.Common.{◌≡◌, ℕ, List, length, slice_set, subst}
use Rattle.cm_geo.specs.declared.geo.Geo.{Geo}
use Rattle.cm_geo.specs.Addresses.{slot_at, words_in_segment}
use Rattle.cm_plain.specs.States.{State}
use Rattle.cm_plain.specs.Changes.{Change}
use Rattle.std.specs.declared.result.Result.{Result}
use Rattle.cm_words.specs.Calls.{Performs}
use Rattle.cm_words.specs.Memory.{MemSeen, origin}
use Rattle.cm_words.specs.Stores.{after_stores}
use Rattle.cm_lookup.specs.Removals.{CanLose, LeadsRemoval, LeadsShift, MayShift, Removes, ShiftsPart}
use Rattle.cm_lookup.specs.Tiers.{IsSlot, at_slots}
use Rattle.cm_lookup.proofs.LostEntry.{Rearranged, lost_pointed_once, lost_stood_before, shift_rearranges}
use Rattle.cm_lookup.proofs.PartialShift.{IsMidway, midway, midway_next}
use Rattle.cm_lookup.proofs.PartialShift.PartOrWhole.{part, whole}
use Rattle.cm_lookup.proofs.RemovalFrame.{IsTier}
use Rattle.cm_segment.specs.Phases.{Advances, IsInPhase, IsStart, IsTornFor, Phase, Reaches}
use Rattle.cm_segment.specs.RemovalStages.{HasLostSlot}
use Rattle.cm_segment.proofs.Phases.{allowed_in, call_as, long_in, phase_after}

-- on the way of the shift, what is in a phase leads to another one
abbrev pub ShiftLeadsTo : Geo → ℕ → Change → ℕ → ℕ → Phase → Phase → Type 0
ShiftLeadsTo geo segment change place slot phase later =
    (state : State) (start before words : List ℕ) → length before ≡ words_in_segment geo → IsStart geo segment change start state → phase state start before
    → IsMidway geo before words place slot → later state start words

-- the lists of a phase may lose the slot
abbrev pub CanLoseIn : Geo → ℕ → Change → ℕ → ℕ → Phase → Type 0
CanLoseIn geo segment change place slot phase =
    (state : State) (start before : List ℕ) → length before ≡ words_in_segment geo → IsStart geo segment change start state → phase state start before
    → CanLose geo before place slot

tier_of : (geo : Geo) (words : List ℕ) (place slot : ℕ) → length words ≡ words_in_segment geo → IsSlot geo place slot → IsTier geo words place slot
tier_of geo words place slot long at = record { length_is = long; place_inside = at.place_inside; slot_inside = at.slot_inside }

-- each store of the shift leaves the words torn
pub may_shift_in : (m : MemSeen) (geo : Geo) (change : Change) (place slot : ℕ) (phase : Phase) → IsInPhase m geo change phase → IsSlot geo place slot
    → ShiftLeadsTo geo m.setting.segment change place slot phase (IsTornFor geo change) → MayShift m geo place slot
may_shift_in m geo change place slot phase here at leads words fits made to word next =
    let long = long_in m geo words here.writable fits in
    allowed_in m geo change (origin m words) (after_stores words (at_slots geo place made))
    (slice_set (after_stores words (at_slots geo place made)) (slot_at geo place to) word) here.writable here.plan_is
    (λ state is. leads state (origin m words) words (slice_set (after_stores words (at_slots geo place made)) (slot_at geo place to) word) long is
    (here.lists words state fits is)
    (midway_next geo words place slot to word made (tier_of geo words place slot long at) next))

-- the lists of a phase, when they have lost the slot, are in another one
abbrev pub LossLeadsTo : Geo → ℕ → Change → ℕ → ℕ → Phase → Phase → Type 0
LossLeadsTo geo segment change place slot phase later =
    (state : State) (start before words : List ℕ) → length before ≡ words_in_segment geo → IsStart geo segment change start state → phase state start before
    → IsMidway geo before words place slot → HasLostSlot geo place slot before words → later state start words

-- after a part of the stores
in_shift : (a b : MemSeen) (geo : Geo) (change : Change) (place slot : ℕ) (phase later : Phase) → IsInPhase a geo change phase → IsSlot geo place slot
    → ShiftsPart a b geo place slot
    → ShiftLeadsTo geo a.setting.segment change place slot phase later → Reaches geo change later a b
in_shift a b geo change place slot phase later here at shifted leads =
    phase_after a b geo change phase later (LeadsShift a b geo place slot shifted.0 shifted.1) here shifted.2
    (λ state start before words fits long is was shift. leads state start before words long is was
    (subst (λ (w : List ℕ). IsMidway geo before w place slot) shift.by.leads
    (midway geo before place slot shift.made (tier_of geo before place slot long at) (part shifted.0 shifted.1 shift.shift))))

-- after all of them
after_shift : (a b : MemSeen) (geo : Geo) (change : Change) (place slot : ℕ) (phase later : Phase) → IsInPhase a geo change phase → IsSlot geo place slot
    → Removes a b geo place slot
    → CanLoseIn geo a.setting.segment change place slot phase → LossLeadsTo geo a.setting.segment change place slot phase later → Reaches geo change later a b
after_shift a b geo change place slot phase later here at removes can leads =
    phase_after a b geo change phase later (LeadsRemoval a b geo place slot) here removes
    (λ state start before words fits long is was removal. leads state start before words long is was
    (mid before words long (can state start before long is was) removal) (lost before words long (can state start before long is was) removal))
  where
    mid : (before words : List ℕ) → length before ≡ words_in_segment geo → CanLose geo before place slot → LeadsRemoval a b geo place slot before words
        → IsMidway geo before words place slot
    mid before words long can removal =
        subst (λ (w : List ℕ). IsMidway geo before w place slot) removal.by.leads
        (midway geo before place slot removal.stores (tier_of geo before place slot long at) (whole (removal.whole can)))

    lost : (before words : List ℕ) → length before ≡ words_in_segment geo → CanLose geo before place slot → LeadsRemoval a b geo place slot before words
        → HasLostSlot geo place slot before words
    lost before words long can removal =
        let moved = subst (λ (w : List ℕ). Rearranged geo before w place slot) removal.by.leads
        (shift_rearranges geo before place slot removal.stores (tier_of geo before place slot long at) (removal.whole can)) in
        record {
          law = (removal.lost can).law;
          still = (mid before words long can removal).still;
          stood = λ number seen below e. lost_stood_before geo before words place slot number seen moved below e;
          once = λ key chunk below apart once. lost_pointed_once geo before words place slot key chunk moved below apart once;
        }

-- so the call leads to that phase, or its stores leave the words torn
pub shift_advances : {M T E : Type 0} (seen : M → MemSeen) (rest : M → M → Type 0) (geo : Geo) (change : Change) (place slot : ℕ) (phase later : Phase)
    (a b : M) (result : Result T E)
    → IsInPhase (seen a) geo change phase → IsSlot geo place slot
    → Performs seen rest (λ old now. Removes old now geo place slot) (λ old now. ShiftsPart old now geo place slot) a b result
    → CanLoseIn geo (seen a).setting.segment change place slot phase → LossLeadsTo geo (seen a).setting.segment change place slot phase later
    → ShiftLeadsTo geo (seen a).setting.segment change place slot phase (IsTornFor geo change) → Advances seen rest geo change later a b result
shift_advances seen rest geo change place slot phase later a b result here at call can leads torn =
    call_as seen rest (λ old now. Removes old now geo place slot) (λ old now. ShiftsPart old now geo place slot) (Reaches geo change later)
    (Reaches geo change (IsTornFor geo change)) a b result call
    (λ removes. after_shift (seen a) (seen b) geo change place slot phase later here at removes can leads)
    (λ shifted. in_shift (seen a) (seen b) geo change place slot phase (IsTornFor geo change) here at shifted torn)
