-- The slot of the new entry: what its store may be, and where it leads.
use Rattle.std.proofs.Common.{◌≡◌, ◌≢◌, ℕ, ◌+◌, ◌*◌, ◌<◌, ◌≤◌, ◌⊎◌, List, [], ◌∷◌, length, length-set, slice_set, Some, None, refl, ap, sym, subst, ◌∙◌, inl, inr, arith}
use Rattle.std.proofs.lemmas.Bool.{cases_eq}
use Rattle.std.proofs.lemmas.Option.{same_Some}
use Rattle.std.specs.declared.result.Result.{Result}
use Rattle.cm_geo.specs.declared.geo.Geo.{Geo}
use Rattle.cm_geo.specs.Addresses.{slot_at, words_in_segment}
use Rattle.cm_geo.specs.Hash.{fingerprint_in, hash}
use Rattle.cm_plain.specs.declared.plan.Run.{Run}
use Rattle.cm_plain.specs.States.{HasRun, State}
use Rattle.cm_plain.specs.Changes.{Change, new_entry}
use Rattle.cm_plain.specs.Slots.{Slot, slot_for, slot_in}
use Rattle.cm_plain.specs.Readings.{Stands}
use Rattle.cm_words.specs.Memory.{FitsNotes, MayStore, MemSeen, origin}
use Rattle.cm_words.specs.Calls.{Loads, StoresOnce}
use Rattle.cm_words.specs.Stores.{store_at}
use Rattle.cm_lookup.specs.Probing.{IsFirstEmpty, probe}
use Rattle.cm_lookup.specs.Tiers.{HasEmptySlot, slot_word}
use Rattle.cm_lookup.proofs.Finding.{probe_below}
use Rattle.cm_lookup.proofs.SlotStores.{slot_in_kept_by_slot, slot_put}
use Rattle.cm_segment.specs.PlacementBase.{FromBase, PlacesElsewhere, base_state, base_words}
use Rattle.cm_segment.specs.Frames.{DiffersAt, IsSlotWord}
use Rattle.cm_segment.specs.Phases.{Advances, IsInPhase, IsTornFor, Phase}
use Rattle.cm_segment.specs.PlacementStages.{IsEntryPointed, IsEntryWritten, IsPlacing, IsPlacingWord, IsRunWord, IsWriting}
use Rattle.cm_segment.specs.PlacementStages.IsPlacingWord.{of_run, slots}
use Rattle.cm_segment.proofs.PlacementBase.{base_is}
use Rattle.cm_lookup.proofs.EmptySlots.{has_empty}
use Rattle.cm_segment.proofs.Frames.{differs_none, differs_store, differs_weaker, touched_slot}
use Rattle.cm_segment.proofs.UntouchedParts.{added_bits_left, counts_left, stands_left}
use Rattle.cm_segment.proofs.Phases.{LeadsTo, leads_then, loads_advance, may_store_in, store_advances}
use Rattle.cm_segment.proofs.PlacementTorn.{placing_is_torn, writing_is_torn, writing_slots}

-- the run of the new entry
pub new_run : (geo : Geo) (change : Change) (run : Run) → PlacesElsewhere geo change run → HasRun geo (new_entry change run)
new_run geo change run places =
    record { fits = places.new_in.fits; inside = subst (λ (n : ℕ). run.chunk + n ≤ geo.chunks) places.new_in.size places.new_in.run_in.inside }

pub new_chunk : (geo : Geo) (change : Change) (run : Run) → PlacesElsewhere geo change run → run.chunk < geo.chunks
new_chunk geo change run places = omega (arith, places.new_in.run_in.inside, places.new_in.run_in.nonzero)

-- a slot is this one, or not
pub here_or_not : (place slot q number : ℕ) → ((q ≡ place) × (number ≡ slot)) ⊎ (q ≡ place → number ≢ slot)
here_or_not place slot q number = elim (cases_eq q place) [
  | inl same ↦ elim (cases_eq number slot) [
    | inl it ↦ inl (same, it)
    | inr differ ↦ inr (λ e. differ)
  ]
  | inr differ ↦ inr (λ e. absurd (differ e))
]

pub empty_or_not : (slot : Slot) → None ≡ Some slot → ⊥
empty_or_not slot e = cc e

-- the word of one slot
abbrev pub IsOneSlot : Geo → ℕ → ℕ → ℕ → ℕ → Type 0
IsOneSlot geo place slot q offset = (q ≡ place) × IsSlotWord geo slot offset

-- ---- which slot it is

-- the entry is written, and this slot is the first empty one for its key
abbrev pub HasFreeSlot : Geo → Change → Run → ℕ → Phase
HasFreeSlot geo change run slot state start words =
    IsEntryWritten geo change run state start words × IsFirstEmpty geo start run.place (fingerprint_in geo (hash change.key)) slot

first_same : (geo : Geo) (start words : List ℕ) (place fingerprint slot : ℕ) → slot < 2 * geo.chunks
    → ((number : ℕ) → number < 2 * geo.chunks → slot_in geo words place number ≡ slot_in geo start place number)
    → IsFirstEmpty geo words place fingerprint slot → IsFirstEmpty geo start place fingerprint slot
first_same geo start words place fingerprint slot below same first = record {
  steps = first.steps;
  inside = first.inside;
  slot_is = first.slot_is;
  empty = sym (same slot below) ∙ first.empty;
  before = λ earlier h none. first.before earlier h (same (probe geo fingerprint earlier) (probe_below geo fingerprint earlier) ∙ none);
}

-- the one that was found
pub slot_found : (m : MemSeen) (geo : Geo) (change : Change) (run : Run) (slot fingerprint : ℕ) → PlacesElsewhere geo change run
    → fingerprint ≡ fingerprint_in geo (hash change.key) → slot < 2 * geo.chunks
    → IsInPhase m geo change (FromBase geo change run (IsEntryWritten geo change run))
    → ((words : List ℕ) → FitsNotes m words → HasEmptySlot geo words run.place → IsFirstEmpty geo words run.place fingerprint slot)
    → IsInPhase m geo change (FromBase geo change run (HasFreeSlot geo change run slot))
slot_found m geo change run slot fingerprint places print_is below at first = record {
  writable = at.writable;
  plan_is = at.plan_is;
  lists = λ words state fits is.
      let written = at.lists words state fits is in
      let base = base_is geo m.setting.segment state change run (origin m words) is places in
      let same : (number : ℕ) → number < 2 * geo.chunks
      → slot_in geo words run.place number ≡ slot_in geo (base_words geo change run state (origin m words)) run.place number =
      λ number h. writing_slots geo run (base_words geo change run state (origin m words)) words run.place number written.taken.writing h in
      let empty = has_empty geo m.setting.segment (base_state change run state)
      (base_words geo change run state (origin m words)) run.place base.rests base.chained in
      let it = first words fits (empty.0, empty.1, same empty.0 empty.1 ∙ empty.2) in (
        written,
        subst (λ (f : ℕ). IsFirstEmpty geo (base_words geo change run state (origin m words)) run.place f slot) print_is
            (first_same geo (base_words geo change run state (origin m words)) words run.place fingerprint slot below same it),
      );
}

-- ---- its store

module _ (geo : Geo) (change : Change) (run : Run) (start words : List ℕ) (slot : ℕ) (places : PlacesElsewhere geo change run)
    (long : length words ≡ words_in_segment geo) (below : slot < 2 * geo.chunks) where
  abbrev word : ℕ
  word = slot_word (fingerprint_in geo (hash change.key)) run.chunk

  abbrev later : List ℕ
  later = slice_set words (slot_at geo run.place slot) (slot_word (fingerprint_in geo (hash change.key)) run.chunk)

  differs : DiffersAt geo (IsOneSlot geo run.place slot) words later
  differs = differs_store geo (IsOneSlot geo run.place slot) words words (slot_at geo run.place slot) word
      (touched_slot geo (IsOneSlot geo run.place slot) run.place slot below (refl, refl)) (differs_none geo (IsOneSlot geo run.place slot) words)

  here : slot_in geo later run.place slot ≡ Some (slot_for geo change.key run.chunk)
  here = slot_put geo words run.place slot (fingerprint_in geo (hash change.key)) run.chunk long places.new_in.run_in.place_inside below
      (new_chunk geo change run places)

  stays : (q number : ℕ) → number < 2 * geo.chunks → (q ≡ run.place → number ≢ slot)
      → slot_in geo later q number ≡ slot_in geo words q number
  stays q number h other = slot_in_kept_by_slot geo words run.place q slot number (slot_at geo run.place slot) word refl below h other

  stands : Stands geo words (new_entry change run) → Stands geo later (new_entry change run)
  stands stood = stands_left geo (IsOneSlot geo run.place slot) words later (new_entry change run) long
      places.new_in.run_in.place_inside (new_run geo change run places) differs (λ offset of one. omega (arith, of.from, one.1, below)) stood

  -- the entry is placed where the slot was empty
  placing : IsWriting geo run start words → slot_in geo start run.place slot ≡ None → Stands geo words (new_entry change run)
      → IsPlacing geo change run start later
  placing writing empty stood = record {
    differs = differs_store geo (IsPlacingWord geo run) start words (slot_at geo run.place slot) word
        (touched_slot geo (IsPlacingWord geo run) run.place slot below (slots refl slot below refl))
        (differs_weaker geo (IsRunWord geo run) (IsPlacingWord geo run) start words (λ q i h. of_run h) writing);
    stay = λ q number seen h e. elim (here_or_not run.place slot q number) [
      | inl it ↦ absurd (empty_or_not seen
          (sym empty ∙ (sym (ap (λ (p : ℕ). slot_in geo start p slot) it.0) ∙ (sym (ap (λ (n : ℕ). slot_in geo start q n) it.1) ∙ e))))
      | inr other ↦ stays q number h other ∙ (writing_slots geo run start words q number writing h ∙ e)
    ];
    new = λ q number seen h e. elim (here_or_not run.place slot q number) [
      | inl it ↦ inr (record {
        place_is = it.0;
        slot_is = same_Some seen (slot_for geo change.key run.chunk)
            (sym e ∙ (ap (λ (p : ℕ). slot_in geo later p number) it.0 ∙ (ap (λ (n : ℕ). slot_in geo later run.place n) it.1 ∙ here)));
        stands = stands stood;
      })
      | inr other ↦ inl (sym (writing_slots geo run start words q number writing h) ∙ (sym (stays q number h other) ∙ e))
    ];
  }

  pub slot_points : (state : State) → HasFreeSlot geo change run slot state start words
      → IsEntryPointed geo change run state start later
  slot_points state it =
      let written = it.0 in
      let taken = written.taken in
      record {
        there = record {
          placing = placing taken.writing it.1.empty written.stands;
          bits = added_bits_left geo run (IsOneSlot geo run.place slot) start words later differs (λ q offset bit one. omega (arith, bit.to, one.1)) taken.bits;
          slot = record {
            slot = slot;
            below = below;
            first = it.1;
            here = here;
            others = λ q number h other. stays q number h other ∙ writing_slots geo run start words q number taken.writing h;
          };
          stands = stands written.stands;
        };
        counts = λ at count. counts_left geo run.place (IsOneSlot geo run.place slot) words (store_at (slot_at geo run.place slot) word ∷ []) at count
            (λ one. omega (arith, one.1))
            (touched_slot geo (IsOneSlot geo run.place slot) run.place slot below (refl, refl), tt) ∙ taken.counts at count;
      }

-- as phases
pub slot_leads : (geo : Geo) (segment : ℕ) (change : Change) (run : Run) (slot fingerprint : ℕ) → PlacesElsewhere geo change run
    → fingerprint ≡ fingerprint_in geo (hash change.key) → slot < 2 * geo.chunks
    → LeadsTo geo segment change (FromBase geo change run (HasFreeSlot geo change run slot)) (FromBase geo change run (IsEntryPointed geo change run))
    (λ words. slice_set words (slot_at geo run.place slot) (slot_word fingerprint run.chunk))
slot_leads geo segment change run slot fingerprint places print_is below state start words long is it =
    subst (λ (f : ℕ). FromBase geo change run (IsEntryPointed geo change run) state start
    (slice_set words (slot_at geo run.place slot) (slot_word f run.chunk))) (sym print_is)
    (slot_points geo change run (base_words geo change run state start) words slot places long below state it)

pub written_is_torn : (geo : Geo) (segment : ℕ) (change : Change) (run : Run) → PlacesElsewhere geo change run
    → LeadsTo geo segment change (FromBase geo change run (IsEntryWritten geo change run)) (IsTornFor geo change) (λ words. words)
written_is_torn geo segment change run places state start words long is written =
    writing_is_torn geo segment change run places state start words long is written.taken.writing

pub found_is_torn : (geo : Geo) (segment : ℕ) (change : Change) (run : Run) (slot : ℕ) → PlacesElsewhere geo change run
    → LeadsTo geo segment change (FromBase geo change run (HasFreeSlot geo change run slot)) (IsTornFor geo change) (λ words. words)
found_is_torn geo segment change run slot places state start words long is it = written_is_torn geo segment change run places state start words long is it.0

pub pointed_is_torn : (geo : Geo) (segment : ℕ) (change : Change) (run : Run) → PlacesElsewhere geo change run
    → LeadsTo geo segment change (FromBase geo change run (IsEntryPointed geo change run)) (IsTornFor geo change) (λ words. words)
pointed_is_torn geo segment change run places state start words long is it =
    placing_is_torn geo segment change run places state start words long is it.there.placing

pub may_point : (m : MemSeen) (geo : Geo) (change : Change) (run : Run) (slot fingerprint : ℕ) → PlacesElsewhere geo change run
    → fingerprint ≡ fingerprint_in geo (hash change.key) → slot < 2 * geo.chunks
    → IsInPhase m geo change (FromBase geo change run (HasFreeSlot geo change run slot))
    → MayStore m (slot_at geo run.place slot) (slot_word fingerprint run.chunk)
may_point m geo change run slot fingerprint places print_is below at =
    may_store_in m geo change (FromBase geo change run (HasFreeSlot geo change run slot)) (slot_at geo run.place slot) (slot_word fingerprint run.chunk) at
    (leads_then geo m.setting.segment change (FromBase geo change run (HasFreeSlot geo change run slot))
    (FromBase geo change run (IsEntryPointed geo change run)) (IsTornFor geo change)
    (λ words. slice_set words (slot_at geo run.place slot) (slot_word fingerprint run.chunk))
    (λ words. length-set words (slot_at geo run.place slot) (slot_word fingerprint run.chunk))
    (slot_leads geo m.setting.segment change run slot fingerprint places print_is below) (pointed_is_torn geo m.setting.segment change run places))

-- ---- as parts of a change

-- the search for it
pub search_advances : {M T E : Type 0} {seen : M → MemSeen} {rest : M → M → Type 0} {geo : Geo} {change : Change} {run : Run} {a b : M} {result : Result T E}
    → PlacesElsewhere geo change run → IsInPhase (seen a) geo change (FromBase geo change run (IsEntryWritten geo change run))
    → Loads seen rest a b result → Advances seen rest geo change (FromBase geo change run (IsEntryWritten geo change run)) a b result
search_advances {seen} {rest} {geo} {change} {run} {a} {b} {result} places at loads =
    loads_advance seen rest geo change (FromBase geo change run (IsEntryWritten geo change run)) a b result at loads
    (written_is_torn geo (seen a).setting.segment change run places)

pub slot_advances : {M T E : Type 0} {seen : M → MemSeen} {rest : M → M → Type 0} {geo : Geo} {change : Change} {run : Run} {a b : M} {result : Result T E}
    {slot fingerprint : ℕ}
    → PlacesElsewhere geo change run → fingerprint ≡ fingerprint_in geo (hash change.key) → slot < 2 * geo.chunks
    → IsInPhase (seen a) geo change (FromBase geo change run (HasFreeSlot geo change run slot))
    → StoresOnce seen rest (slot_at geo run.place slot) (slot_word fingerprint run.chunk) a b result
    → Advances seen rest geo change (FromBase geo change run (IsEntryPointed geo change run)) a b result
slot_advances {seen} {rest} {geo} {change} {run} {a} {b} {result} {slot} {fingerprint} places print_is below at store =
    store_advances seen rest geo change (FromBase geo change run (HasFreeSlot geo change run slot)) (FromBase geo change run (IsEntryPointed geo change run))
    (slot_at geo run.place slot) (slot_word fingerprint run.chunk) a b result at store
    (slot_leads geo (seen a).setting.segment change run slot fingerprint places print_is below)
    (found_is_torn geo (seen a).setting.segment change run slot places)
