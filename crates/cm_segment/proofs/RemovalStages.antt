-- Each call that removes an entry leads from phase to phase.
use Rattle.std.proofs.Common.{◌≡◌, ◌≢◌, ℕ, ◌+◌, ◌*◌, ◌/◌, ◌%◌, ◌<◌, ◌≤◌, List, slice_set, Option, Some, IfSome, IsBitSet, refl, ap, sym, subst, ◌∙◌, arith, get_or-set_other, get_or-set_same}
use Rattle.std.specs.declared.result.Result.{Result}
use Rattle.std.proofs.lemmas.List.Elements.{All-contains}
use Rattle.cm_geo.specs.declared.geo.Geo.{Geo}
use Rattle.cm_geo.specs.Addresses.{bits_at, slot_at, tier_at}
use Rattle.cm_geo.proofs.AddressesApart.{slot_not_bits, slot_not_tier_head}
use Rattle.cm_geo.proofs.AddressOrder.{bits_behind_head, segment_head_within, slots_behind_head, tier_behind_head, tier_head_in_range}
use Rattle.cm_geo.proofs.Ranges.{chunks_whole}
use Rattle.cm_plain.specs.declared.plan.Run.{Run}
use Rattle.cm_plain.specs.States.{State}
use Rattle.cm_plain.specs.Changes.{Change}
use Rattle.cm_plain.specs.Lawful.{TierRepresents}
use Rattle.cm_plain.specs.Slots.{Points, slot_for, slot_in, word_at}
use Rattle.cm_plain.proofs.OutsideHead.{resting_represents}
use Rattle.cm_words.specs.Memory.{MemSeen}
use Rattle.cm_words.specs.Calls.{Performs}
use Rattle.cm_words.specs.Effects.{Reads}
use Rattle.cm_words.specs.Stores.{MayStoreEach, WritesEach, WritesPrefixEach, after_stores}
use Rattle.cm_chunks.specs.RunBits.{Clears, IsApart}
use Rattle.cm_chunks.specs.Turns.{stores_to_clear}
use Rattle.cm_lookup.specs.Removals.{CanLose, MayShift, Removes, ShiftsPart}
use Rattle.cm_lookup.specs.Tiers.{IsSlot}
use Rattle.cm_lookup.proofs.Finding.{probe_below}
use Rattle.cm_lookup.proofs.PartialShift.{IsMidway}
use Rattle.cm_segment.specs.Counts.{IsCountAt, one_less, stores_to_lower}
use Rattle.cm_segment.specs.Counts.IsCountAt.{of_segment, of_tier}
use Rattle.cm_segment.specs.Frames.{DiffersAt, HasSameBits, IsBitOfTier}
use Rattle.cm_segment.specs.Phases.{Advances, IsAfter, IsInPhase, IsStart, IsTornFor}
use Rattle.cm_segment.specs.PlanNumbers.{HasBegun}
use Rattle.cm_segment.specs.RemovalStages.{HasBitsOutside, HasLostSlot, HasNoSlot, IsIndexWord, IsPartRemoved, IsRemoval, IsRemoved, IsRunCleared, IsSlotRemoved, IsTierLowered, same_count}
use Rattle.cm_segment.specs.RemovalStages.IsIndexWord.{bits, count}
use Rattle.cm_segment.proofs.BitPhases.{BitsLeadTo, clear_advances, may_clear_in}
use Rattle.cm_lookup.proofs.EmptySlots.{has_empty}
use Rattle.cm_segment.proofs.EntryRemoved.{removal_rests}
use Rattle.cm_segment.proofs.Frames.{differs_then, differs_weaker, slot_left}
use Rattle.cm_segment.proofs.UntouchedParts.{all_bits_left}
use Rattle.cm_segment.proofs.NewSlots.{empty_or_not}
use Rattle.cm_segment.proofs.EntryBefore.{old_entry}
use Rattle.cm_segment.proofs.Phases.{LeadsTo, may_store_one_in, stores_advance}
use Rattle.cm_segment.proofs.RaisedCounts.{IsOneCount, count_stored}
use Rattle.cm_segment.proofs.RemovalTorn.{IsBeingRemoved, lost_loses, midway_differs, removal_torn}
use Rattle.cm_segment.proofs.ShiftPhases.{CanLoseIn, LossLeadsTo, ShiftLeadsTo, may_shift_in, shift_advances}

-- the slot of a change that has begun points to its old run
pub begun_points : (geo : Geo) (change : Change) (run : Run) (slot : ℕ) (state : State) (start words : List ℕ) → change.old_run ≡ Some run
    → HasBegun geo change slot state start words → Points geo start run.place change.key run.chunk slot
begun_points geo change run slot state start words old_is begun = by change.old_run old_is begun.points
  where
    by : (old : Option Run) → old ≡ Some run → IfSome old (λ it. Points geo start it.place change.key it.chunk slot)
        → Points geo start run.place change.key run.chunk slot
    by old e points = rw e at points

-- ---- what leaves the slots of a tier

-- the loss of a slot stays where the slots of its tier do
pub lost_on : (geo : Geo) (place slot : ℕ) (start words later : List ℕ)
    → ((number : ℕ) → number < 2 * geo.chunks → slot_in geo later place number ≡ slot_in geo words place number)
    → HasLostSlot geo place slot start words → HasLostSlot geo place slot start later
lost_on geo place slot start words later same lost = record {
  law = λ number seen below e steps on_way none. lost.law number seen below (sym (same number below) ∙ e) steps on_way
      (sym (same _ (probe_below geo seen.fingerprint steps)) ∙ none);
  still = λ number seen below apart e. (let there = lost.still number seen below apart e in (there.0, there.1, same there.0 there.1 ∙ there.2));
  stood = λ number seen below e. lost.stood number seen below (sym (same number below) ∙ e);
  once = λ key chunk below apart once. (let was = lost.once key chunk below apart once in (
    was.0,
    record { inside = was.1.inside; slot_is = same was.0 was.1.inside ∙ was.1.slot_is },
    λ other points. was.2 other (record { inside = points.inside; slot_is = sym (same other points.inside) ∙ points.slot_is }),
  ));
}

-- while a slot is removed the bits and the counts stay
pub midway_bits : (geo : Geo) (place slot : ℕ) (before words : List ℕ) → IsMidway geo before words place slot → HasSameBits geo before words
midway_bits geo place slot before words midway q chunk below =
    let same : word_at words (bits_at geo q (chunk / 64)) ≡ word_at before (bits_at geo q (chunk / 64)) =
    midway.left (bits_at geo q (chunk / 64)) (λ number h e. slot_not_bits geo place q number (chunk / 64) h (omega (arith, (chunks_whole geo).1)) (sym e)) in
    (λ h. subst (λ (w : ℕ). IsBitSet w (chunk % 64)) same h, λ h. subst (λ (w : ℕ). IsBitSet w (chunk % 64)) (sym same) h)

pub midway_count : (geo : Geo) (place slot : ℕ) (before words : List ℕ) → IsMidway geo before words place slot → (q : ℕ)
    → word_at words (tier_at geo q + 1) ≡ word_at before (tier_at geo q + 1)
midway_count geo place slot before words midway q =
    midway.left (tier_at geo q + 1) (λ number h e. slot_not_tier_head geo place q number 1 h (omega arith) (sym e))

pub midway_all : (geo : Geo) (place slot : ℕ) (before words : List ℕ) → IsMidway geo before words place slot → word_at words 2 ≡ word_at before 2
midway_all geo place slot before words midway = midway.left 2 (λ number h. behind number (slots_behind_head geo place number) (tier_behind_head geo place))
  where
    behind : (number : ℕ) → tier_at geo place + 4 ≤ slot_at geo place number → 4 ≤ tier_at geo place → 2 ≢ slot_at geo place number
    behind number h k = omega arith

module _ {geo : Geo} {change : Change} {run : Run} {slot : ℕ} (removal : IsRemoval geo change run slot) where
  at_slot : IsSlot geo run.place slot
  at_slot = record { place_inside = removal.run_in.place_inside; slot_inside = removal.slot_inside }

  -- ---- the slot

  -- while it is removed the words are torn
  shift_torn : (segment : ℕ) → ShiftLeadsTo geo segment change run.place slot (HasBegun geo change slot) (IsTornFor geo change)
  shift_torn segment state start before words long is begun midway = removal_torn geo segment state change run slot start words is removal
      (subst (λ (s : List ℕ). IsBeingRemoved geo change run slot s words) begun.untouched (record {
        points = subst (λ (s : List ℕ). Points geo s run.place change.key run.chunk slot) (sym begun.untouched)
            (begun_points geo change run slot state start before removal.old_is begun);
        differs = midway_differs geo run.place slot before words midway;
        loses = record { still = midway.still; stood = midway.stood };
      }))

  -- it may be lost
  can_lose : (segment : ℕ) → CanLoseIn geo segment change run.place slot (HasBegun geo change slot)
  can_lose segment state start before long is begun =
      let represents = resting_represents geo segment start state is.rests in
      let its = old_entry geo segment start state change run is removal.old_is in
      subst (λ (w : List ℕ). CanLose geo w run.place slot) (sym begun.untouched) (record {
        removed = λ none. empty_or_not (slot_for geo change.key run.chunk)
            (sym none ∙ (begun_points geo change run slot state start before removal.old_is begun).slot_is);
        empty = has_empty geo segment state start run.place is.rests its.chained;
        law = (All-contains (TierRepresents geo start state) state.chain run.place represents.tiers its.chained).reached;
      })

  -- when it is removed nothing else has changed
  slot_removed : (segment : ℕ) → LossLeadsTo geo segment change run.place slot (HasBegun geo change slot) (IsSlotRemoved geo change run slot)
  slot_removed segment state start before words long is begun midway lost = subst
      (λ (s : List ℕ). IsSlotRemoved geo change run slot state s words) begun.untouched (record {
        no_slot = record {
          points = subst (λ (s : List ℕ). Points geo s run.place change.key run.chunk slot) (sym begun.untouched)
              (begun_points geo change run slot state start before removal.old_is begun);
          differs = midway_differs geo run.place slot before words midway;
          lost = lost;
        };
        bits = midway_bits geo run.place slot before words midway;
        in_tier = midway_count geo run.place slot before words midway run.place;
        in_all = midway_all geo run.place slot before words midway;
      })

  pub may_unpoint : {m : MemSeen} → IsInPhase m geo change (HasBegun geo change slot) → MayShift m geo run.place slot
  may_unpoint {m} here = may_shift_in m geo change run.place slot (HasBegun geo change slot) here at_slot (shift_torn m.setting.segment)

  pub unpoint_advances : {M T E : Type 0} {seen : M → MemSeen} {rest : M → M → Type 0} {a b : M} {result : Result T E}
      → IsInPhase (seen a) geo change (HasBegun geo change slot)
      → Performs seen rest (λ old now. Removes old now geo run.place slot) (λ old now. ShiftsPart old now geo run.place slot) a b result
      → Advances seen rest geo change (IsSlotRemoved geo change run slot) a b result
  unpoint_advances {M} {T} {E} {seen} {rest} {a} {b} {result} here call =
      shift_advances seen rest geo change run.place slot (HasBegun geo change slot) (IsSlotRemoved geo change run slot) a b result here at_slot call
      (can_lose (seen a).setting.segment) (slot_removed (seen a).setting.segment) (shift_torn (seen a).setting.segment)

  -- ---- what the later stores leave

  no_slot_on : (state : State) (start words later : List ℕ) (such : ℕ → ℕ → Type 0) → DiffersAt geo such words later
      → ((place offset : ℕ) → such place offset → IsIndexWord geo run.place place offset)
      → ((place number : ℕ) → such place (4 + geo.chunks / 64 + number) → ⊥) → HasNoSlot geo change run slot state start words
      → HasNoSlot geo change run slot state start later
  no_slot_on state start words later such differs index out gone = record {
    points = gone.points;
    differs = differs_then geo (IsIndexWord geo run.place) start words later gone.differs
        (differs_weaker geo such (IsIndexWord geo run.place) words later index differs);
    lost = lost_on geo run.place slot start words later (λ number below. slot_left geo such words later run.place number differs below (out run.place number))
        gone.lost;
  }

  no_slot_torn : (segment : ℕ) (state : State) (start words : List ℕ) → IsStart geo segment change start state → HasNoSlot geo change run slot state start words
      → IsTornFor geo change state start words
  no_slot_torn segment state start words is gone =
      removal_torn geo segment state change run slot start words is removal
      (record { points = gone.points; differs = gone.differs; loses = lost_loses geo run.place slot start words gone.lost })

  part_torn : (segment : ℕ) (Bits : List ℕ → List ℕ → Type 0) (tier_count all_count : ℕ → ℕ)
      → LeadsTo geo segment change (IsPartRemoved geo change run slot Bits tier_count all_count) (IsTornFor geo change) (λ words. words)
  part_torn segment Bits tier_count all_count state start words long is at = no_slot_torn segment state start words is at.no_slot

  -- ---- the bits

  bits_leave : (state : State) (start words later : List ℕ) → DiffersAt geo (IsBitOfTier geo run.place) words later
      → HasNoSlot geo change run slot state start words → HasNoSlot geo change run slot state start later
  bits_leave state start words later differs gone =
      no_slot_on state start words later (IsBitOfTier geo run.place) differs (λ place offset h. bits h.0 h.1) (λ place number h. omega (arith, h.1.to)) gone

  clear_torn : (segment : ℕ) → BitsLeadTo geo segment change run.place (IsSlotRemoved geo change run slot) (IsTornFor geo change)
  clear_torn segment state start before words long is at differs =
      no_slot_torn segment state start words is (bits_leave state start before words differs at.no_slot)

  pub may_free_run : {m : MemSeen} → IsInPhase m geo change (IsSlotRemoved geo change run slot) → MayStoreEach m (stores_to_clear geo run)
  may_free_run {m} here = may_clear_in m geo change run (IsSlotRemoved geo change run slot) here removal.run_in (clear_torn m.setting.segment)

  -- no count is a word of bits
  count_apart : (at : ℕ) → IsCountAt geo run.place at → IsApart geo run at
  count_apart at is chunk in_run e = by is (bits_behind_head geo run.place (chunk / 64)) (tier_behind_head geo run.place)
    where
      by : IsCountAt geo run.place at → tier_at geo run.place + 4 ≤ bits_at geo run.place (chunk / 64) → 4 ≤ tier_at geo run.place → ⊥
      by (of_tier f) h k = omega arith
      by (of_segment f) h k = omega arith

  pub free_run_advances : {M T E : Type 0} {seen : M → MemSeen} {rest : M → M → Type 0} {a b : M} {result : Result T E}
      → IsInPhase (seen a) geo change (IsSlotRemoved geo change run slot)
      → Performs seen rest (λ old now. Clears old now geo run) (λ old now. WritesPrefixEach old now (stores_to_clear geo run)) a b result
      → Advances seen rest geo change (IsRunCleared geo change run slot) a b result
  free_run_advances {M} {T} {E} {seen} {rest} {a} {b} {result} here call =
      clear_advances seen rest geo change run (IsSlotRemoved geo change run slot) (IsRunCleared geo change run slot) a b result here removal.run_in call
      (λ state start before words long is was differs cleared. record {
        no_slot = bits_leave state start before words differs was.no_slot;
        bits = λ place chunk below.
            (let now = cleared.bits place chunk below in
            let same = was.bits place chunk below in
            (λ has. (let both = now.0 has in (both.0, same.0 both.1)), λ both. now.1 (both.0, same.1 both.1)));
        in_tier = cleared.others (tier_at geo run.place + 1) (count_apart (tier_at geo run.place + 1) (of_tier refl)) ∙ was.in_tier;
        in_all = cleared.others 2 (count_apart 2 (of_segment refl)) ∙ was.in_all;
      })
      (clear_torn (seen a).setting.segment)

  -- ---- the counts

  count_leaves : (state : State) (start words : List ℕ) (at word : ℕ) → IsCountAt geo run.place at → HasNoSlot geo change run slot state start words
      → HasNoSlot geo change run slot state start (slice_set words at word)
  count_leaves state start words at word is gone =
      no_slot_on state start words (slice_set words at word) (IsOneCount run.place) (count_stored geo run.place words at word is)
      (λ place offset h. count h.0 h.1) (λ place number h. omega (arith, h.1)) gone

  count_bits : (start words : List ℕ) (at word : ℕ) → IsCountAt geo run.place at → HasBitsOutside geo run start words
      → HasBitsOutside geo run start (slice_set words at word)
  count_bits start words at word is outside place chunk below =
      let same = all_bits_left geo (IsOneCount run.place) words (slice_set words at word) (count_stored geo run.place words at word is)
      (λ p o bit h. omega (arith, bit.from, h.1)) place chunk below in
      let was = outside place chunk below in
      (λ has. was.0 (same.0 has), λ both. same.1 (was.1 both))

  pub may_lower : {m : MemSeen} (at : ℕ) (tier_count all_count : ℕ → ℕ) → IsCountAt geo run.place at
      → IsInPhase m geo change (IsPartRemoved geo change run slot (HasBitsOutside geo run) tier_count all_count) → MayStoreEach m (stores_to_lower at)
  may_lower {m} at tier_count all_count is here =
      may_store_one_in m geo change (IsPartRemoved geo change run slot (HasBitsOutside geo run) tier_count all_count) at
      (λ words. one_less (word_at words at)) here
      (λ state start words long start_is part. no_slot_torn m.setting.segment state start (slice_set words at (one_less (word_at words at))) start_is
      (count_leaves state start words at (one_less (word_at words at)) is part.no_slot))

  tier_behind : 2 ≢ tier_at geo run.place + 1
  tier_behind = omega (arith, tier_behind_head geo run.place)

  tier_lowered : (segment : ℕ) → LeadsTo geo segment change (IsRunCleared geo change run slot) (IsTierLowered geo change run slot)
      (λ words. after_stores words (stores_to_lower (tier_at geo run.place + 1) words))
  tier_lowered segment state start words long is at = record {
    no_slot = count_leaves state start words (tier_at geo run.place + 1) (one_less (word_at words (tier_at geo run.place + 1))) (of_tier refl) at.no_slot;
    bits = count_bits start words (tier_at geo run.place + 1) (one_less (word_at words (tier_at geo run.place + 1))) (of_tier refl) at.bits;
    in_tier = get_or-set_same words (tier_at geo run.place + 1) (one_less (word_at words (tier_at geo run.place + 1))) 0
        (omega (arith, tier_head_in_range geo run.place 1 removal.run_in.place_inside (omega arith), long)) ∙ ap one_less at.in_tier;
    in_all = get_or-set_other words (tier_at geo run.place + 1) 2 (one_less (word_at words (tier_at geo run.place + 1))) 0 tier_behind ∙ at.in_all;
  }

  all_lowered : (segment : ℕ) → LeadsTo geo segment change (IsTierLowered geo change run slot) (IsRemoved geo change run slot)
      (λ words. after_stores words (stores_to_lower 2 words))
  all_lowered segment state start words long is at = record {
    no_slot = count_leaves state start words 2 (one_less (word_at words 2)) (of_segment refl) at.no_slot;
    bits = count_bits start words 2 (one_less (word_at words 2)) (of_segment refl) at.bits;
    in_tier = get_or-set_other words 2 (tier_at geo run.place + 1) (one_less (word_at words 2)) 0 (λ e. tier_behind (sym e)) ∙ at.in_tier;
    in_all = get_or-set_same words 2 (one_less (word_at words 2)) 0 (omega (arith, long, segment_head_within geo)) ∙ ap one_less at.in_all;
  }

  pub lower_tier_advances : {M T E : Type 0} {seen : M → MemSeen} {rest : M → M → Type 0} {a b : M} {result : Result T E} (at : ℕ)
      → at ≡ tier_at geo run.place + 1 → IsInPhase (seen a) geo change (IsRunCleared geo change run slot)
      → Performs seen rest (λ old now. WritesEach old now (stores_to_lower at)) Reads a b result
      → Advances seen rest geo change (IsTierLowered geo change run slot) a b result
  lower_tier_advances {M} {T} {E} {seen} {rest} {a} {b} {result} at at_is here call =
      stores_advance seen rest geo change (IsRunCleared geo change run slot) (IsTierLowered geo change run slot)
      (stores_to_lower (tier_at geo run.place + 1)) a b result here
      (subst (λ (n : ℕ). Performs seen rest (λ old now. WritesEach old now (stores_to_lower n)) Reads a b result) at_is call)
      (tier_lowered (seen a).setting.segment) (part_torn (seen a).setting.segment (HasBitsOutside geo run) same_count same_count)

  pub lower_all_advances : {M T E : Type 0} {seen : M → MemSeen} {rest : M → M → Type 0} {a b : M} {result : Result T E}
      → IsInPhase (seen a) geo change (IsTierLowered geo change run slot)
      → Performs seen rest (λ old now. WritesEach old now (stores_to_lower 2)) Reads a b result
      → Advances seen rest geo change (IsRemoved geo change run slot) a b result
  lower_all_advances {M} {T} {E} {seen} {rest} {a} {b} {result} here call =
      stores_advance seen rest geo change (IsTierLowered geo change run slot) (IsRemoved geo change run slot) (stores_to_lower 2) a b result here call
      (all_lowered (seen a).setting.segment) (part_torn (seen a).setting.segment (HasBitsOutside geo run) one_less same_count)

  -- ---- all

  pub removed_is_after : (segment : ℕ) → LeadsTo geo segment change (IsRemoved geo change run slot) (IsAfter geo segment change) (λ words. words)
  removed_is_after segment state start words long is at = removal_rests geo segment state change run slot start words is removal at
