-- Each call that moves an entry to another run leads from phase to phase.
use Rattle.std.proofs.Common.{◌≡◌, ◌≢◌, ℕ, ◌+◌, ◌*◌, ◌/◌, ◌<◌, ◌⊎◌, ◌↔◌, Bool, true, false, List, [], ◌∷◌, length, slice_set, Some, refl, ap, sym, subst, ◌∙◌, inl, inr, arith, get_or-set_other, get_or-set_same, if◌then◌else◌}
use Rattle.std.proofs.lemmas.List.Elements.{All-contains}
use Rattle.cm_geo.specs.declared.geo.Geo.{Geo}
use Rattle.cm_geo.specs.Addresses.{slot_at, tier_at, words_in_segment}
use Rattle.cm_geo.specs.Hash.{fingerprint_in, hash}
use Rattle.cm_geo.proofs.AddressOrder.{bits_behind_head, slots_behind_head, tier_behind_head, tier_head_in_range}
use Rattle.cm_geo.proofs.AddressesApart.{bits_not_tier_head, slot_not_tier_head, tier_heads_apart}
use Rattle.cm_geo.proofs.Ranges.{chunks_whole}
use Rattle.cm_plain.specs.declared.plan.Run.{Run}
use Rattle.cm_plain.specs.States.{State, chunks_of}
use Rattle.cm_plain.specs.Changes.{Change, new_entry}
use Rattle.cm_plain.specs.Slots.{Points, slot_for, slot_in, word_at}
use Rattle.cm_plain.specs.Lawful.{HasBit, TierRepresents}
use Rattle.cm_plain.proofs.OutsideHead.{resting_represents}
use Rattle.std.specs.declared.result.Result.{Result}
use Rattle.cm_words.specs.Calls.{Performs, StoresOnce}
use Rattle.cm_words.specs.Effects.{Reads}
use Rattle.cm_words.specs.Memory.{MayStore, MemSeen}
use Rattle.cm_words.specs.Stores.{MayStoreEach, WritesEach, WritesPrefixEach, after_stores, store_at}
use Rattle.cm_chunks.specs.RunBits.{Clears, IsInRun, IsRunIn}
use Rattle.cm_chunks.specs.RunBits.{IsApart}
use Rattle.cm_chunks.specs.Turns.{stores_to_clear}
use Rattle.cm_lookup.specs.Removals.{MayShift, Removes, ShiftsPart}
use Rattle.cm_lookup.specs.Tiers.{IsSlot, slot_word}
use Rattle.cm_lookup.proofs.Finding.{probe_below}
use Rattle.cm_lookup.proofs.PartialShift.{IsMidway}
use Rattle.cm_lookup.proofs.SlotStores.{slot_in_kept_by_slot, slot_put}
use Rattle.cm_segment.specs.PlacementBase.{FromBase, base_state, base_words, last_tier}
use Rattle.cm_segment.specs.Counts.{IsCountAt, one_less, one_more, stores_to_lower, stores_to_raise}
use Rattle.cm_segment.specs.Counts.IsCountAt.{of_segment, of_tier}
use Rattle.cm_segment.specs.Frames.{DiffersAt, IsBitOfTier, IsChunkWord}
use Rattle.cm_segment.specs.Phases.{Advances, IsAfter, IsInPhase, IsStart, IsTornFor, Phase, Reaches}
use Rattle.cm_segment.specs.PlanNumbers.{HasBegun}
use Rattle.cm_segment.specs.PlacementStages.{AddsBits, IsEntryPointed, IsEntryWritten, IsPlacingWord, IsRunWord}
use Rattle.cm_segment.specs.PlacementStages.IsPlacingWord.{of_run, slots}
use Rattle.cm_segment.specs.PlacementStages.IsRunWord.{bits, count}
use Rattle.cm_segment.specs.RelocationStages.{HasNewSlot, HasTurnedSlot, IsBesideOld, IsMove, IsMovedInTier, IsMovedToTier, IsMovingWord, IsOldRunCleared, IsOldSlotRemoved, IsOldTierLowered, IsPartMoved, IsTurned}
use Rattle.cm_segment.specs.RelocationStages.IsMovingWord.{from, to}
use Rattle.cm_segment.specs.RemovalStages.{HasLostSlot, IsIndexWord, same_count}
use Rattle.cm_segment.specs.RemovalStages.IsIndexWord.{bits as index_bits, count as index_count}
use Rattle.cm_segment.specs.ReplacementStages.{ReplacesBits}
use Rattle.cm_segment.proofs.PlacementBase.{IsBase, base_is}
use Rattle.cm_segment.proofs.BitPhases.{BitsLeadTo, clear_advances, may_clear_in}
use Rattle.cm_lookup.proofs.EmptySlots.{has_empty}
use Rattle.cm_segment.proofs.EntryMoved.{count_left, move_in_tier_rests, move_to_tier_rests}
use Rattle.cm_segment.proofs.EntryRemoved.{not_in_both}
use Rattle.cm_segment.proofs.Frames.{IsTouchedAt, differs_none, differs_store, differs_then, differs_weaker, slot_left, touched_slot}
use Rattle.cm_segment.proofs.UntouchedParts.{all_bits_left, stands_left}
use Rattle.cm_segment.proofs.LinkedTiers.{OneLink, link_touched}
use Rattle.cm_segment.proofs.NewSlots.{IsOneSlot, empty_or_not, new_chunk, new_run}
use Rattle.cm_segment.proofs.EntryBefore.{HasOldEntry, old_entry}
use Rattle.cm_segment.proofs.Phases.{LeadsTo, may_store_in, may_store_one_in, phase_both, phase_of_start, phase_weaker, store_advances, stores_advance}
use Rattle.cm_segment.proofs.PlacementTorn.{placing_place, writing_is_torn, writing_slots}
use Rattle.cm_segment.proofs.RaisedCounts.{IsOneCount, count_stored}
use Rattle.cm_segment.proofs.RelocationTorn.{moving_torn, old_in_base, shifted_moving, turned_moving}
use Rattle.cm_segment.proofs.RemovalStages.{begun_points, lost_on, midway_all, midway_bits, midway_count}
use Rattle.cm_segment.proofs.RemovalTorn.{LosesSlot, index_chunks, index_place, lost_loses, midway_differs}
use Rattle.cm_segment.proofs.ReplacementStages.{stand_on}
use Rattle.cm_segment.proofs.ShiftPhases.{CanLoseIn, LossLeadsTo, ShiftLeadsTo, may_shift_in, shift_advances}

-- ---- the old slot, in the words on which the new entry is placed

-- the link of a new tier leaves all slots
base_slot : (geo : Geo) (change : Change) (run : Run) (state : State) (start : List ℕ) (place number : ℕ) → number < 2 * geo.chunks
    → slot_in geo (base_words geo change run state start) place number ≡ slot_in geo start place number
base_slot geo change run state start place number below = by change.link
  where
    by : (link : Bool) → slot_in geo (if link then slice_set start (tier_at geo (last_tier state.chain)) run.place else start) place number
        ≡ slot_in geo start place number
    by true = slot_left geo (OneLink (last_tier state.chain)) start (slice_set start (tier_at geo (last_tier state.chain)) run.place) place number
        (differs_store geo (OneLink (last_tier state.chain)) start start (tier_at geo (last_tier state.chain)) run.place
        (link_touched geo (last_tier state.chain)) (differs_none geo (OneLink (last_tier state.chain)) start)) below (λ h. omega (arith, h.1))
    by false = refl

-- the store of a slot leaves the counts
slot_no_count : (geo : Geo) (place other slot at : ℕ) → IsCountAt geo other at → slot < 2 * geo.chunks → at ≢ slot_at geo place slot
slot_no_count geo place other slot at (of_tier e) below same = slot_not_tier_head geo place other slot 1 below (omega arith) (sym same ∙ e)
slot_no_count geo place other slot at (of_segment e) below same = omega (arith, slots_behind_head geo place slot, tier_behind_head geo place)

-- so does that of bits
bits_no_count : (geo : Geo) (run : Run) (place at : ℕ) → IsRunIn geo run → IsCountAt geo place at → IsApart geo run at
bits_no_count geo run place at run_in is chunk in_run same = by is
  where
    by : IsCountAt geo place at → ⊥
    by (of_tier e) = bits_not_tier_head geo run.place place (chunk / 64) 1 (omega (arith, in_run.not_ended, run_in.inside, (chunks_whole geo).1)) (omega arith)
        (sym same ∙ e)
    by (of_segment e) = omega (arith, e, same, bits_behind_head geo run.place (chunk / 64), tier_behind_head geo run.place)

-- the loss of a slot, counted from words with the same slots in that tier
lost_from : (geo : Geo) (place slot : ℕ) (base before words : List ℕ) → slot < 2 * geo.chunks
    → ((number : ℕ) → number < 2 * geo.chunks → slot_in geo before place number ≡ slot_in geo base place number)
    → HasLostSlot geo place slot before words → HasLostSlot geo place slot base words
lost_from geo place slot base before words inside same lost = record {
  law = lost.law;
  still = λ number seen below apart e. lost.still number seen below apart (same number below ∙ e);
  stood = λ number seen below e. (let was = lost.stood number seen below e in (was.0, was.1, was.2, sym (same was.0 was.1) ∙ was.3));
  once = λ key chunk below differ once. lost.once key chunk below (λ e. differ (sym (same slot inside) ∙ e)) (
    once.0,
    record { inside = once.1.inside; slot_is = same once.0 once.1.inside ∙ once.1.slot_is },
    λ other points. once.2 other (record { inside = points.inside; slot_is = sym (same other points.inside) ∙ points.slot_is }),
  );
}

module _ {geo : Geo} {change : Change} {old run : Run} {slot : ℕ} (move : IsMove geo change old run slot) where
  -- a phase of the new entry, beside the old one
  pub beside_old : {a b : MemSeen} (phase : Phase) → IsInPhase a geo change (HasBegun geo change slot) → Reaches geo change (FromBase geo change run phase) a b
      → IsInPhase b geo change (IsBesideOld geo change old run slot phase)
  beside_old {a} {b} phase begun reached =
      let points : IsInPhase a geo change (λ state start words. Points geo start old.place change.key old.chunk slot) =
      phase_weaker a geo change (HasBegun geo change slot) (λ state start words. Points geo start old.place change.key old.chunk slot) begun
      (λ state start words long is at. begun_points geo change old slot state start words move.old_is at) in
      phase_weaker b geo change (λ state start words. FromBase geo change run phase state start words × Points geo start old.place change.key old.chunk slot)
      (IsBesideOld geo change old run slot phase)
      (phase_both b geo change (FromBase geo change run phase) (λ state start words. Points geo start old.place change.key old.chunk slot) reached.here
      (phase_of_start a b geo change (λ state start words. Points geo start old.place change.key old.chunk slot)
      (λ state start words later h. h) points reached.here.writable reached.here.plan_is reached.from))
      (λ state start words long is both. record {
        new = both.0;
        points = record { inside = both.1.inside; slot_is = base_slot geo change run state start old.place slot both.1.inside ∙ both.1.slot_is };
      })

  on : (segment : ℕ) (state : State) (start : List ℕ) → IsStart geo segment change start state
      → IsBase geo segment change run state (base_state change run state) (base_words geo change run state start)
  on segment state start is = base_is geo segment state change run start is move.places

  its : (segment : ℕ) (state : State) (start : List ℕ) → IsStart geo segment change start state → HasOldEntry geo state change.key old
  its segment state start is = old_entry geo segment start state change old is move.old_is

  -- the bits of both runs, where those of the old one are cleared
  replaces_bits : (segment : ℕ) (state : State) (start before words : List ℕ) → IsStart geo segment change start state
      → AddsBits geo run (base_words geo change run state start) before
      → ((place chunk : ℕ) → chunk < geo.chunks → (HasBit geo words place chunk ↔ ((IsInRun old place chunk → ⊥) × HasBit geo before place chunk)))
      → ReplacesBits geo old run (base_words geo change run state start) words
  replaces_bits segment state start before words is added cleared place chunk below =
      let now = cleared place chunk below in
      let was = added place chunk below in (
        λ has. (let h = now.0 has in elim (was.0 h.1) [
          | inl inside ↦ inl inside
          | inr had ↦ inr (h.0, had)
        ]),
        λ either. now.1 (elim either [
          | inl inside ↦ (λ in_old. meet inside in_old, was.1 (inl inside))
          | inr other ↦ (other.0, was.1 (inr other.1))
        ]),
      )
    where
      meet : IsInRun run place chunk → IsInRun old place chunk → ⊥
      meet inside in_old =
          let old_its = its segment state start is in
          let here = subst (λ (r : Run). IsInRun r place chunk) old_its.run_is in_old in
          not_in_both geo old_its.old (new_entry change run) chunk ((on segment state start is).apart old_its.old old_its.there)
          (sym here.place_is ∙ inside.place_is) here.begun here.not_ended inside.begun
          (subst (λ (n : ℕ). chunk < run.chunk + n) (on segment state start is).new.size inside.not_ended)

  no_bit_slot : (place number : ℕ) → IsBitOfTier geo old.place place (4 + geo.chunks / 64 + number) → ⊥
  no_bit_slot place number h = omega (arith, h.1.to)

  -- ---- in its tier

  module _ (same : old.place ≡ run.place) where
    turned_torn : (segment : ℕ) (state : State) (start words : List ℕ) → IsStart geo segment change start state
        → HasTurnedSlot geo change old run slot (base_words geo change run state start) words → IsTornFor geo change state start words
    turned_torn segment state start words is turned =
        moving_torn geo segment change old run state (base_state change run state) (base_words geo change run state start) words (on segment state start is)
        (its segment state start is)
        (turned_moving geo segment change old run state (base_state change run state) (base_words geo change run state start) words (on segment state start is)
        (its segment state start is) slot same turned.points
        (differs_weaker geo (IsPlacingWord geo run) (IsMovingWord geo old.place run) (base_words geo change run state start) words
        (λ place offset h. to h) turned.differs) turned.here turned.others turned.stands)

    -- the slot is stored over
    turns : (fingerprint : ℕ) → fingerprint ≡ fingerprint_in geo (hash change.key) → (state : State) (start words : List ℕ)
        → length words ≡ words_in_segment geo → IsBesideOld geo change old run slot (IsEntryWritten geo change run) state start words
        → IsTurned geo change old run slot state (base_words geo change run state start)
        (slice_set words (slot_at geo run.place slot) (slot_word fingerprint run.chunk))
    turns fingerprint print_is state start words long beside =
        let touched : IsTouchedAt geo (IsOneSlot geo run.place slot) (slot_at geo run.place slot) =
        touched_slot geo (IsOneSlot geo run.place slot) run.place slot move.slot_inside (refl, refl) in
        let one : DiffersAt geo (IsOneSlot geo run.place slot) words (slice_set words (slot_at geo run.place slot) (slot_word fingerprint run.chunk)) =
        differs_store geo (IsOneSlot geo run.place slot) words words (slot_at geo run.place slot) (slot_word fingerprint run.chunk) touched
        (differs_none geo (IsOneSlot geo run.place slot) words) in
        let written = beside.new in
        record {
          turned = record {
            points = beside.points;
            differs = differs_then geo (IsPlacingWord geo run) (base_words geo change run state start) words
                (slice_set words (slot_at geo run.place slot) (slot_word fingerprint run.chunk))
                (differs_weaker geo (IsRunWord geo run) (IsPlacingWord geo run) (base_words geo change run state start) words
                (λ place offset h. of_run h) written.taken.writing)
                (differs_weaker geo (IsOneSlot geo run.place slot) (IsPlacingWord geo run) words
                (slice_set words (slot_at geo run.place slot) (slot_word fingerprint run.chunk))
                (λ place offset h. slots h.0 slot move.slot_inside h.1) one);
            here = subst (λ (f : ℕ). slot_in geo (slice_set words (slot_at geo run.place slot) (slot_word f run.chunk)) run.place slot
                ≡ Some (slot_for geo change.key run.chunk)) (sym print_is)
                (slot_put geo words run.place slot (fingerprint_in geo (hash change.key)) run.chunk long move.places.new_in.run_in.place_inside move.slot_inside
                (new_chunk geo change run move.places));
            others = λ place number below differ. slot_in_kept_by_slot geo words run.place place slot number (slot_at geo run.place slot)
                (slot_word fingerprint run.chunk) refl move.slot_inside below differ
                ∙ writing_slots geo run (base_words geo change run state start) words place number written.taken.writing below;
            stands = stands_left geo (IsOneSlot geo run.place slot) words (slice_set words (slot_at geo run.place slot) (slot_word fingerprint run.chunk))
                (new_entry change run) long move.places.new_in.run_in.place_inside (new_run geo change run move.places) one
                (λ i of h. omega (arith, of.from, h.1, move.slot_inside)) written.stands;
          };
          bits = λ place chunk below.
              (let kept = all_bits_left geo (IsOneSlot geo run.place slot) words
              (slice_set words (slot_at geo run.place slot) (slot_word fingerprint run.chunk)) one
              (λ p o bit h. omega (arith, bit.to, h.1)) place chunk below in
              let was = written.taken.bits place chunk below in
              (λ has. was.0 (kept.0 has), λ either. kept.1 (was.1 either)));
          counts = λ at is. get_or-set_other words (slot_at geo run.place slot) at (slot_word fingerprint run.chunk) 0
              (slot_no_count geo run.place run.place slot at is move.slot_inside) ∙ written.taken.counts at is;
        }

    pub may_overwrite : {m : MemSeen} (fingerprint : ℕ) → fingerprint ≡ fingerprint_in geo (hash change.key)
        → IsInPhase m geo change (IsBesideOld geo change old run slot (IsEntryWritten geo change run))
        → MayStore m (slot_at geo run.place slot) (slot_word fingerprint run.chunk)
    may_overwrite {m} fingerprint print_is here =
        may_store_in m geo change (IsBesideOld geo change old run slot (IsEntryWritten geo change run)) (slot_at geo run.place slot)
        (slot_word fingerprint run.chunk) here
        (λ state start words long is beside. turned_torn m.setting.segment state start
        (slice_set words (slot_at geo run.place slot) (slot_word fingerprint run.chunk)) is
        (turns fingerprint print_is state start words long beside).turned)

    pub overwrite_advances : {M T E : Type 0} {seen : M → MemSeen} {rest : M → M → Type 0} {a b : M} {result : Result T E} (fingerprint : ℕ)
        → fingerprint ≡ fingerprint_in geo (hash change.key)
        → IsInPhase (seen a) geo change (IsBesideOld geo change old run slot (IsEntryWritten geo change run))
        → StoresOnce seen rest (slot_at geo run.place slot) (slot_word fingerprint run.chunk) a b result
        → Advances seen rest geo change (FromBase geo change run (IsTurned geo change old run slot)) a b result
    overwrite_advances {M} {T} {E} {seen} {rest} {a} {b} {result} fingerprint print_is here call =
        store_advances seen rest geo change (IsBesideOld geo change old run slot (IsEntryWritten geo change run))
        (FromBase geo change run (IsTurned geo change old run slot)) (slot_at geo run.place slot) (slot_word fingerprint run.chunk) a b result here call
        (λ state start words long is beside. turns fingerprint print_is state start words long beside)
        (λ state start words long is beside. writing_is_torn geo (seen a).setting.segment change run move.places state start words long is
        beside.new.taken.writing)

    -- the bits of the old run
    turned_on : (base words later : List ℕ) → length words ≡ words_in_segment geo → DiffersAt geo (IsBitOfTier geo old.place) words later
        → HasTurnedSlot geo change old run slot base words → HasTurnedSlot geo change old run slot base later
    turned_on base words later long differs turned = record {
      points = turned.points;
      differs = differs_then geo (IsPlacingWord geo run) base words later turned.differs
          (differs_weaker geo (IsBitOfTier geo old.place) (IsPlacingWord geo run) words later (λ place offset h. of_run (bits (h.0 ∙ same) h.1)) differs);
      here = slot_left geo (IsBitOfTier geo old.place) words later run.place slot differs move.slot_inside (no_bit_slot run.place slot) ∙ turned.here;
      others = λ place number below differ. slot_left geo (IsBitOfTier geo old.place) words later place number differs below (no_bit_slot place number)
          ∙ turned.others place number below differ;
      stands = stand_on geo old.place words later (new_entry change run) long move.places.new_in.run_in.place_inside
          (new_run geo change run move.places) differs turned.stands;
    }

    free_torn : (segment : ℕ) → BitsLeadTo geo segment change old.place (FromBase geo change run (IsTurned geo change old run slot)) (IsTornFor geo change)
    free_torn segment state start before words long is at differs =
        turned_torn segment state start words is (turned_on (base_words geo change run state start) before words long differs at.turned)

    pub may_free_old : {m : MemSeen} → IsInPhase m geo change (FromBase geo change run (IsTurned geo change old run slot))
        → MayStoreEach m (stores_to_clear geo old)
    may_free_old {m} here = may_clear_in m geo change old (FromBase geo change run (IsTurned geo change old run slot)) here move.old_in
        (free_torn m.setting.segment)

    pub free_old_advances : {M T E : Type 0} {seen : M → MemSeen} {rest : M → M → Type 0} {a b : M} {result : Result T E}
        → IsInPhase (seen a) geo change (FromBase geo change run (IsTurned geo change old run slot))
        → Performs seen rest (λ before now. Clears before now geo old) (λ before now. WritesPrefixEach before now (stores_to_clear geo old)) a b result
        → Advances seen rest geo change (FromBase geo change run (IsMovedInTier geo change old run slot)) a b result
    free_old_advances {M} {T} {E} {seen} {rest} {a} {b} {result} here call =
        clear_advances seen rest geo change old (FromBase geo change run (IsTurned geo change old run slot))
        (FromBase geo change run (IsMovedInTier geo change old run slot)) a b result here move.old_in call
        (λ state start before words long is at differs cleared. record {
          turned = turned_on (base_words geo change run state start) before words long differs at.turned;
          bits = replaces_bits (seen a).setting.segment state start before words is at.bits cleared.bits;
          counts = λ count is_count. cleared.others count (bits_no_count geo old run.place count move.old_in is_count) ∙ at.counts count is_count;
        })
        (free_torn (seen a).setting.segment)

    pub moved_in_tier_is_after : (segment : ℕ)
        → LeadsTo geo segment change (FromBase geo change run (IsMovedInTier geo change old run slot)) (IsAfter geo segment change) (λ words. words)
    moved_in_tier_is_after segment state start words long is at = move_in_tier_rests geo segment change old run slot state start words is move same at

  -- ---- to another tier

  module _ (apart : old.place ≢ run.place) where
    old_slot : IsSlot geo old.place slot
    old_slot = record { place_inside = move.old_in.place_inside; slot_inside = move.slot_inside }

    new_torn : (segment : ℕ) (state : State) (start words : List ℕ) → IsStart geo segment change start state
        → HasNewSlot geo change old run slot (base_words geo change run state start) words
        → LosesSlot geo old.place slot (base_words geo change run state start) words
        → IsTornFor geo change state start words
    new_torn segment state start words is new loses =
        moving_torn geo segment change old run state (base_state change run state) (base_words geo change run state start) words (on segment state start is)
        (its segment state start is)
        (shifted_moving geo segment change old run state (base_state change run state) (base_words geo change run state start) words (on segment state start is)
        (its segment state start is) slot new.goal apart new.points new.differs new.goal_inside
        new.first.empty new.here new.others loses new.stands)

    part_torn : (segment : ℕ) (state : State) (start words : List ℕ) (Bits : List ℕ → List ℕ → Type 0) (old_count new_count : ℕ → ℕ)
        → IsStart geo segment change start state
        → IsPartMoved geo change old run slot Bits old_count new_count state (base_words geo change run state start) words
        → IsTornFor geo change state start words
    part_torn segment state start words Bits old_count new_count is at =
        new_torn segment state start words is at.new (lost_loses geo old.place slot (base_words geo change run state start) words at.lost)

    -- the slots of the old tier were those of the base
    old_tier : (state : State) (start words : List ℕ) → IsBesideOld geo change old run slot (IsEntryPointed geo change run) state start words → (number : ℕ)
        → number < 2 * geo.chunks
        → slot_in geo words old.place number ≡ slot_in geo (base_words geo change run state start) old.place number
    old_tier state start words beside number below = beside.new.there.slot.others old.place number below (λ same. absurd (apart same))

    -- while the old slot is removed
    shift_new : (state : State) (start before words : List ℕ) → length before ≡ words_in_segment geo
        → IsBesideOld geo change old run slot (IsEntryPointed geo change run) state start before → IsMidway geo before words old.place slot
        → HasNewSlot geo change old run slot (base_words geo change run state start) words
    shift_new state start before words long beside midway =
        let there = beside.new.there in
        let differs = midway_differs geo old.place slot before words midway in
        let elsewhere : (place number : ℕ) → number < 2 * geo.chunks → place ≢ old.place → slot_in geo words place number ≡ slot_in geo before place number =
        λ place number below differ. slot_left geo (IsIndexWord geo old.place) before words place number differs below
        (λ word. differ (index_place geo old.place place _ word)) in
        record {
          points = beside.points;
          differs = differs_then geo (IsMovingWord geo old.place run) (base_words geo change run state start) before words
              (differs_weaker geo (IsPlacingWord geo run) (IsMovingWord geo old.place run) (base_words geo change run state start) before
              (λ place offset h. to h) there.placing.differs)
              (differs_weaker geo (IsIndexWord geo old.place) (IsMovingWord geo old.place run) before words (λ place offset h. from h) differs);
          goal = there.slot.slot;
          goal_inside = there.slot.below;
          first = there.slot.first;
          here = elsewhere run.place there.slot.slot there.slot.below (λ e. apart (sym e)) ∙ there.slot.here;
          others = λ place number below differ other. elsewhere place number below differ ∙ there.slot.others place number below other;
          stands = stands_left geo (IsIndexWord geo old.place) before words (new_entry change run) long move.places.new_in.run_in.place_inside
              (new_run geo change run move.places) differs
              (λ offset of word. index_chunks geo old.place run.place run.chunk (chunks_of geo (new_entry change run)) offset of word) there.stands;
        }

    shift_torn : (segment : ℕ) → ShiftLeadsTo geo segment change old.place slot (IsBesideOld geo change old run slot (IsEntryPointed geo change run))
        (IsTornFor geo change)
    shift_torn segment state start before words long is beside midway = new_torn segment state start words is
        (shift_new state start before words long beside midway) (record {
          still = λ number seen below differ e. midway.still number seen below differ (old_tier state start before beside number below ∙ e);
          stood = λ number seen below e. (let was = midway.stood number seen below e in
              (was.0, was.1, sym (old_tier state start before beside was.0 was.1) ∙ was.2));
        })

    can_lose_old : (segment : ℕ) → CanLoseIn geo segment change old.place slot (IsBesideOld geo change old run slot (IsEntryPointed geo change run))
    can_lose_old segment state start before long is beside =
        let base = on segment state start is in
        let represents = resting_represents geo segment (base_words geo change run state start) (base_state change run state) base.rests in
        let chained = (old_in_base geo segment change old run state (base_state change run state) (base_words geo change run state start) base
        (its segment state start is)).chained in
        let empty = has_empty geo segment (base_state change run state) (base_words geo change run state start) old.place base.rests chained in
        let law = (All-contains (TierRepresents geo (base_words geo change run state start) (base_state change run state))
        (base_state change run state).chain old.place represents.tiers chained).reached in
        record {
          removed = λ none. empty_or_not (slot_for geo change.key old.chunk)
              (sym none ∙ (old_tier state start before beside slot move.slot_inside ∙ beside.points.slot_is));
          empty = (empty.0, empty.1, old_tier state start before beside empty.0 empty.1 ∙ empty.2);
          law = λ number seen below e steps on_way none. law number seen below (sym (old_tier state start before beside number below) ∙ e) steps on_way
              (sym (old_tier state start before beside _ (probe_below geo seen.fingerprint steps)) ∙ none);
        }

    old_count : (state : State) (start before : List ℕ) → IsBesideOld geo change old run slot (IsEntryPointed geo change run) state start before
        → word_at before (tier_at geo old.place + 1) ≡ word_at (base_words geo change run state start) (tier_at geo old.place + 1)
    old_count state start before beside =
        count_left geo (IsPlacingWord geo run) (base_words geo change run state start) before old.place beside.new.there.placing.differs
        (λ word. apart (placing_place geo run old.place 1 word))

    old_removed : (segment : ℕ) → LossLeadsTo geo segment change old.place slot (IsBesideOld geo change old run slot (IsEntryPointed geo change run))
        (FromBase geo change run (IsOldSlotRemoved geo change old run slot))
    old_removed segment state start before words long is beside midway lost = record {
      new = shift_new state start before words long beside midway;
      lost = lost_from geo old.place slot (base_words geo change run state start) before words move.slot_inside (old_tier state start before beside) lost;
      bits = λ place chunk below.
          (let kept = midway_bits geo old.place slot before words midway place chunk below in
          let was = beside.new.there.bits place chunk below in
          (λ has. was.0 (kept.0 has), λ either. kept.1 (was.1 either)));
      in_old = midway_count geo old.place slot before words midway old.place ∙ old_count state start before beside;
      in_new = midway_count geo old.place slot before words midway run.place ∙ beside.new.counts (tier_at geo run.place + 1) (of_tier refl);
      in_all = midway_all geo old.place slot before words midway ∙ beside.new.counts 2 (of_segment refl);
    }

    pub may_unpoint_old : {m : MemSeen} → IsInPhase m geo change (IsBesideOld geo change old run slot (IsEntryPointed geo change run))
        → MayShift m geo old.place slot
    may_unpoint_old {m} here = may_shift_in m geo change old.place slot (IsBesideOld geo change old run slot (IsEntryPointed geo change run)) here old_slot
        (shift_torn m.setting.segment)

    pub unpoint_old_advances : {M T E : Type 0} {seen : M → MemSeen} {rest : M → M → Type 0} {a b : M} {result : Result T E}
        → IsInPhase (seen a) geo change (IsBesideOld geo change old run slot (IsEntryPointed geo change run))
        → Performs seen rest (λ before now. Removes before now geo old.place slot) (λ before now. ShiftsPart before now geo old.place slot) a b result
        → Advances seen rest geo change (FromBase geo change run (IsOldSlotRemoved geo change old run slot)) a b result
    unpoint_old_advances {M} {T} {E} {seen} {rest} {a} {b} {result} here call =
        shift_advances seen rest geo change old.place slot (IsBesideOld geo change old run slot (IsEntryPointed geo change run))
        (FromBase geo change run (IsOldSlotRemoved geo change old run slot)) a b result here old_slot call
        (can_lose_old (seen a).setting.segment) (old_removed (seen a).setting.segment) (shift_torn (seen a).setting.segment)

    -- ---- the bits of the old run, and the counts

    -- what leaves all slots and the new entry's run leaves this
    new_on : (state : State) (base words later : List ℕ) (such : ℕ → ℕ → Type 0) → length words ≡ words_in_segment geo → DiffersAt geo such words later
        → ((place offset : ℕ) → such place offset → IsMovingWord geo old.place run place offset)
        → ((place number : ℕ) → such place (4 + geo.chunks / 64 + number) → ⊥)
        → ((offset : ℕ) → IsChunkWord geo run.chunk (chunks_of geo (new_entry change run)) offset → such run.place offset → ⊥)
        → HasNewSlot geo change old run slot base words → HasNewSlot geo change old run slot base later
    new_on state base words later such long differs moving no_slot no_chunk new = record {
      points = new.points;
      differs = differs_then geo (IsMovingWord geo old.place run) base words later new.differs
          (differs_weaker geo such (IsMovingWord geo old.place run) words later moving differs);
      goal = new.goal;
      goal_inside = new.goal_inside;
      first = new.first;
      here = slot_left geo such words later run.place new.goal differs new.goal_inside (no_slot run.place new.goal) ∙ new.here;
      others = λ place number below differ other. slot_left geo such words later place number differs below (no_slot place number)
          ∙ new.others place number below differ other;
      stands = stands_left geo such words later (new_entry change run) long move.places.new_in.run_in.place_inside
          (new_run geo change run move.places) differs no_chunk new.stands;
    }

    lost_still : (base words later : List ℕ) (such : ℕ → ℕ → Type 0) → DiffersAt geo such words later
        → ((place number : ℕ) → such place (4 + geo.chunks / 64 + number) → ⊥) → HasLostSlot geo old.place slot base words
        → HasLostSlot geo old.place slot base later
    lost_still base words later such differs no_slot lost =
        lost_on geo old.place slot base words later (λ number below. slot_left geo such words later old.place number differs below (no_slot old.place number))
        lost

    clear_new : (state : State) (base words later : List ℕ) → length words ≡ words_in_segment geo → DiffersAt geo (IsBitOfTier geo old.place) words later
        → HasNewSlot geo change old run slot base words → HasNewSlot geo change old run slot base later
    clear_new state base words later long differs new =
        new_on state base words later (IsBitOfTier geo old.place) long differs (λ place offset h. from (index_bits h.0 h.1)) no_bit_slot
        (λ offset of h. omega (arith, of.from, h.1.to)) new

    vacate_torn : (segment : ℕ) → BitsLeadTo geo segment change old.place (FromBase geo change run (IsOldSlotRemoved geo change old run slot))
        (IsTornFor geo change)
    vacate_torn segment state start before words long is at differs = new_torn segment state start words is
        (clear_new state (base_words geo change run state start) before words long differs at.new)
        (lost_loses geo old.place slot (base_words geo change run state start) words
        (lost_still (base_words geo change run state start) before words (IsBitOfTier geo old.place) differs no_bit_slot at.lost))

    pub may_vacate : {m : MemSeen} → IsInPhase m geo change (FromBase geo change run (IsOldSlotRemoved geo change old run slot))
        → MayStoreEach m (stores_to_clear geo old)
    may_vacate {m} here = may_clear_in m geo change old (FromBase geo change run (IsOldSlotRemoved geo change old run slot)) here move.old_in
        (vacate_torn m.setting.segment)

    pub vacate_advances : {M T E : Type 0} {seen : M → MemSeen} {rest : M → M → Type 0} {a b : M} {result : Result T E}
        → IsInPhase (seen a) geo change (FromBase geo change run (IsOldSlotRemoved geo change old run slot))
        → Performs seen rest (λ before now. Clears before now geo old) (λ before now. WritesPrefixEach before now (stores_to_clear geo old)) a b result
        → Advances seen rest geo change (FromBase geo change run (IsOldRunCleared geo change old run slot)) a b result
    vacate_advances {M} {T} {E} {seen} {rest} {a} {b} {result} here call =
        clear_advances seen rest geo change old (FromBase geo change run (IsOldSlotRemoved geo change old run slot))
        (FromBase geo change run (IsOldRunCleared geo change old run slot)) a b result here move.old_in call
        (λ state start before words long is at differs cleared. record {
          new = clear_new state (base_words geo change run state start) before words long differs at.new;
          lost = lost_still (base_words geo change run state start) before words (IsBitOfTier geo old.place) differs no_bit_slot at.lost;
          bits = replaces_bits (seen a).setting.segment state start before words is at.bits cleared.bits;
          in_old = cleared.others (tier_at geo old.place + 1) (bits_no_count geo old old.place (tier_at geo old.place + 1) move.old_in (of_tier refl))
              ∙ at.in_old;
          in_new = cleared.others (tier_at geo run.place + 1) (bits_no_count geo old run.place (tier_at geo run.place + 1) move.old_in (of_tier refl))
              ∙ at.in_new;
          in_all = cleared.others 2 (bits_no_count geo old old.place 2 move.old_in (of_segment refl)) ∙ at.in_all;
        })
        (vacate_torn (seen a).setting.segment)

    -- a count of one of the two tiers
    count_moving : (index : ℕ) → (index ≡ old.place) ⊎ (index ≡ run.place) → (place offset : ℕ) → IsOneCount index place offset
        → IsMovingWord geo old.place run place offset
    count_moving index (inl of_old) place offset h = from (index_count (h.0 ∙ of_old) h.1)
    count_moving index (inr of_new) place offset h = to (of_run (count (h.0 ∙ of_new) h.1))

    count_part : (segment index word : ℕ) → (index ≡ old.place) ⊎ (index ≡ run.place) → (state : State) (base words : List ℕ) (old_count new_count : ℕ → ℕ)
        → length words ≡ words_in_segment geo
        → IsPartMoved geo change old run slot (ReplacesBits geo old run) old_count new_count state base words
        → HasNewSlot geo change old run slot base (slice_set words (tier_at geo index + 1) word)
        × (HasLostSlot geo old.place slot base (slice_set words (tier_at geo index + 1) word) × ReplacesBits geo old run base
        (slice_set words (tier_at geo index + 1) word))
    count_part segment index word of state base words old_count new_count long at =
        let differs = count_stored geo index words (tier_at geo index + 1) word (of_tier refl) in (
          new_on state base words (slice_set words (tier_at geo index + 1) word) (IsOneCount index) long differs (count_moving index of)
              (λ place number h. omega (arith, h.1)) (λ offset of_chunk h. omega (arith, of_chunk.from, h.1)) at.new,
          (
            lost_still base words (slice_set words (tier_at geo index + 1) word) (IsOneCount index) differs (λ place number h. omega (arith, h.1)) at.lost,
            λ place chunk below.
                (let kept = all_bits_left geo (IsOneCount index) words (slice_set words (tier_at geo index + 1) word) differs
                (λ p o bit h. omega (arith, bit.from, h.1)) place chunk below in
                let was = at.bits place chunk below in
                (λ has. was.0 (kept.0 has), λ either. kept.1 (was.1 either))),
          ),
        )

    pub may_count : {m : MemSeen} (index at : ℕ) (make : ℕ → ℕ) → (index ≡ old.place) ⊎ (index ≡ run.place) → (old_count new_count : ℕ → ℕ)
        → at ≡ tier_at geo index + 1
        → IsInPhase m geo change (FromBase geo change run (IsPartMoved geo change old run slot (ReplacesBits geo old run) old_count new_count))
        → MayStoreEach m (λ words. store_at at (make (word_at words at)) ∷ [])
    may_count {m} index at make of old_count new_count at_is here =
        subst (λ (n : ℕ). MayStoreEach m (λ words. store_at n (make (word_at words n)) ∷ [])) (sym at_is)
        (may_store_one_in m geo change (FromBase geo change run (IsPartMoved geo change old run slot (ReplacesBits geo old run) old_count new_count))
        (tier_at geo index + 1) (λ words. make (word_at words (tier_at geo index + 1))) here
        (λ state start words long is at.
        let later = count_part m.setting.segment index (make (word_at words (tier_at geo index + 1))) of state
        (base_words geo change run state start) words old_count new_count long at in
        new_torn m.setting.segment state start (slice_set words (tier_at geo index + 1) (make (word_at words (tier_at geo index + 1)))) is later.0
        (lost_loses geo old.place slot (base_words geo change run state start)
        (slice_set words (tier_at geo index + 1) (make (word_at words (tier_at geo index + 1)))) later.1.0)))

    part_is_torn : (segment : ℕ) (old_count new_count : ℕ → ℕ)
        → LeadsTo geo segment change (FromBase geo change run (IsPartMoved geo change old run slot (ReplacesBits geo old run) old_count new_count))
        (IsTornFor geo change) (λ words. words)
    part_is_torn segment old_count new_count state start words long is at =
        part_torn segment state start words (ReplacesBits geo old run) old_count new_count is at

    behind_all : (place : ℕ) → 2 ≢ tier_at geo place + 1
    behind_all place = omega (arith, tier_behind_head geo place)

    old_lowered : (segment : ℕ) → LeadsTo geo segment change (FromBase geo change run (IsOldRunCleared geo change old run slot))
        (FromBase geo change run (IsOldTierLowered geo change old run slot))
        (λ words. after_stores words (stores_to_lower (tier_at geo old.place + 1) words))
    old_lowered segment state start words long is cleared =
        let later = count_part segment old.place (one_less (word_at words (tier_at geo old.place + 1))) (inl refl) state
        (base_words geo change run state start) words same_count same_count long cleared in
        record {
          new = later.0;
          lost = later.1.0;
          bits = later.1.1;
          in_old = get_or-set_same words (tier_at geo old.place + 1) (one_less (word_at words (tier_at geo old.place + 1))) 0
              (omega (arith, tier_head_in_range geo old.place 1 move.old_in.place_inside (omega arith), long)) ∙ ap one_less cleared.in_old;
          in_new = get_or-set_other words (tier_at geo old.place + 1) (tier_at geo run.place + 1) (one_less (word_at words (tier_at geo old.place + 1))) 0
              (tier_heads_apart geo run.place old.place 1 1 (omega arith) (omega arith) (λ e. absurd (apart (sym e)))) ∙ cleared.in_new;
          in_all = get_or-set_other words (tier_at geo old.place + 1) 2 (one_less (word_at words (tier_at geo old.place + 1))) 0 (behind_all old.place)
              ∙ cleared.in_all;
        }

    new_raised : (segment : ℕ) → LeadsTo geo segment change (FromBase geo change run (IsOldTierLowered geo change old run slot))
        (FromBase geo change run (IsMovedToTier geo change old run slot))
        (λ words. after_stores words (stores_to_raise (tier_at geo run.place + 1) words))
    new_raised segment state start words long is lowered =
        let later = count_part segment run.place (one_more (word_at words (tier_at geo run.place + 1))) (inr refl) state
        (base_words geo change run state start) words one_less same_count long lowered in
        record {
          new = later.0;
          lost = later.1.0;
          bits = later.1.1;
          in_old = get_or-set_other words (tier_at geo run.place + 1) (tier_at geo old.place + 1) (one_more (word_at words (tier_at geo run.place + 1))) 0
              (tier_heads_apart geo old.place run.place 1 1 (omega arith) (omega arith) (λ e. absurd (apart e))) ∙ lowered.in_old;
          in_new = get_or-set_same words (tier_at geo run.place + 1) (one_more (word_at words (tier_at geo run.place + 1))) 0
              (omega (arith, tier_head_in_range geo run.place 1 move.places.new_in.run_in.place_inside (omega arith), long)) ∙ ap one_more lowered.in_new;
          in_all = get_or-set_other words (tier_at geo run.place + 1) 2 (one_more (word_at words (tier_at geo run.place + 1))) 0 (behind_all run.place)
              ∙ lowered.in_all;
        }

    -- the calls that change the two counts
    pub lower_advances : {M T E : Type 0} {seen : M → MemSeen} {rest : M → M → Type 0} {a b : M} {result : Result T E} (at : ℕ) → at ≡ tier_at geo old.place + 1
        → IsInPhase (seen a) geo change (FromBase geo change run (IsOldRunCleared geo change old run slot))
        → Performs seen rest (λ old now. WritesEach old now (stores_to_lower at)) Reads a b result
        → Advances seen rest geo change (FromBase geo change run (IsOldTierLowered geo change old run slot)) a b result
    lower_advances {M} {T} {E} {seen} {rest} {a} {b} {result} at at_is here call =
        stores_advance seen rest geo change (FromBase geo change run (IsOldRunCleared geo change old run slot))
        (FromBase geo change run (IsOldTierLowered geo change old run slot)) (stores_to_lower (tier_at geo old.place + 1)) a b result here
        (subst (λ (n : ℕ). Performs seen rest (λ old now. WritesEach old now (stores_to_lower n)) Reads a b result) at_is call)
        (old_lowered (seen a).setting.segment) (part_is_torn (seen a).setting.segment same_count same_count)

    pub raise_advances : {M T E : Type 0} {seen : M → MemSeen} {rest : M → M → Type 0} {a b : M} {result : Result T E} (at : ℕ) → at ≡ tier_at geo run.place + 1
        → IsInPhase (seen a) geo change (FromBase geo change run (IsOldTierLowered geo change old run slot))
        → Performs seen rest (λ old now. WritesEach old now (stores_to_raise at)) Reads a b result
        → Advances seen rest geo change (FromBase geo change run (IsMovedToTier geo change old run slot)) a b result
    raise_advances {M} {T} {E} {seen} {rest} {a} {b} {result} at at_is here call =
        stores_advance seen rest geo change (FromBase geo change run (IsOldTierLowered geo change old run slot))
        (FromBase geo change run (IsMovedToTier geo change old run slot)) (stores_to_raise (tier_at geo run.place + 1)) a b result here
        (subst (λ (n : ℕ). Performs seen rest (λ old now. WritesEach old now (stores_to_raise n)) Reads a b result) at_is call)
        (new_raised (seen a).setting.segment) (part_is_torn (seen a).setting.segment one_less same_count)

    -- ---- all

    pub moved_to_tier_is_after : (segment : ℕ)
        → LeadsTo geo segment change (FromBase geo change run (IsMovedToTier geo change old run slot)) (IsAfter geo segment change) (λ words. words)
    moved_to_tier_is_after segment state start words long is at = move_to_tier_rests geo segment change old run slot state start words is move apart at
