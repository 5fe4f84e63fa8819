-- The counts of the new entry: what their stores may be, and where they lead.
use Rattle.std.proofs.Common.{◌≡◌, ◌≢◌, ℕ, ◌+◌, ◌*◌, ◌<◌, ◌≤◌, List, length, length-set, slice_set, refl, ap, sym, subst, ◌∙◌, inl, inr, arith, get_or-set_other, get_or-set_same}
use Rattle.std.specs.declared.result.Result.{Result}
use Rattle.cm_geo.specs.declared.geo.Geo.{Geo}
use Rattle.cm_geo.specs.Addresses.{tier_at, words_in_segment}
use Rattle.cm_geo.proofs.AddressOrder.{segment_head_within, tier_behind_head, tier_head_in_range}
use Rattle.cm_plain.specs.declared.plan.Run.{Run}
use Rattle.cm_plain.specs.States.{State}
use Rattle.cm_plain.specs.Changes.{Change, new_entry}
use Rattle.cm_plain.specs.Slots.{slot_in, word_at}
use Rattle.cm_plain.specs.Readings.{Stands}
use Rattle.cm_words.specs.Memory.{MemSeen}
use Rattle.cm_words.specs.Effects.{Reads}
use Rattle.cm_words.specs.Calls.{Performs}
use Rattle.cm_words.specs.Stores.{MayStoreEach, WritesEach}
use Rattle.cm_segment.specs.PlacementBase.{FromBase, PlacesElsewhere, base_words}
use Rattle.cm_segment.specs.Counts.{IsCountAt, one_more, stores_to_raise}
use Rattle.cm_segment.specs.Counts.IsCountAt.{of_segment, of_tier}
use Rattle.cm_segment.specs.Frames.{DiffersAt, IsCountWord}
use Rattle.cm_segment.specs.Phases.{Advances, IsInPhase, IsTornFor}
use Rattle.cm_segment.specs.PlacementStages.{IsEntryCounted, IsEntryPointed, IsEntryThere, IsPlacing, IsPlacingWord}
use Rattle.cm_segment.specs.PlacementStages.IsPlacingWord.{of_run}
use Rattle.cm_segment.specs.PlacementStages.IsRunWord.{count}
use Rattle.cm_segment.proofs.Frames.{IsTouchedAt, differs_head, differs_none, differs_store, differs_then, differs_weaker, slot_left, touched_count}
use Rattle.cm_segment.proofs.UntouchedParts.{added_bits_left, stands_left}
use Rattle.cm_segment.proofs.NewSlots.{new_run, pointed_is_torn}
use Rattle.cm_segment.proofs.Phases.{LeadsTo, leads_then, may_store_one_in, stores_advance}
use Rattle.cm_segment.proofs.PlacementTorn.{placing_is_torn}

-- the word of one tier's count
abbrev pub IsOneCount : ℕ → ℕ → ℕ → Type 0
IsOneCount place q offset = (q ≡ place) × IsCountWord offset

-- a store at a count
pub count_stored : (geo : Geo) (place : ℕ) (words : List ℕ) (at word : ℕ) → IsCountAt geo place at
    → DiffersAt geo (IsOneCount place) words (slice_set words at word)
count_stored geo place words at word (of_tier e) = differs_store geo (IsOneCount place) words words at word
    (subst (IsTouchedAt geo (IsOneCount place)) (sym e) (touched_count geo (IsOneCount place) place (refl, refl))) (differs_none geo (IsOneCount place) words)
count_stored geo place words at word (of_segment e) =
    differs_head geo (IsOneCount place) words words at word (omega arith) (differs_none geo (IsOneCount place) words)

pub count_inner : (geo : Geo) (place at : ℕ) → IsCountAt geo place at → 1 < at
count_inner geo place at (of_tier e) = omega (arith, e, tier_behind_head geo place)
count_inner geo place at (of_segment e) = omega (arith, e)

pub count_in_range : (geo : Geo) (place at : ℕ) → place < geo.tiers → IsCountAt geo place at → at < words_in_segment geo
count_in_range geo place at low (of_tier e) = rw e (tier_head_in_range geo place 1 low (omega arith))
count_in_range geo place at low (of_segment e) = rw e (omega (arith, segment_head_within geo))

-- what leaves all but a count leaves the entry there
module _ (geo : Geo) (change : Change) (run : Run) (start words later : List ℕ) (places : PlacesElsewhere geo change run)
    (long : length words ≡ words_in_segment geo) (left : DiffersAt geo (IsOneCount run.place) words later) where
  same_slot : (q number : ℕ) → number < 2 * geo.chunks → slot_in geo later q number ≡ slot_in geo words q number
  same_slot q number below = slot_left geo (IsOneCount run.place) words later q number left below (λ h. omega (arith, h.1))

  stands : Stands geo words (new_entry change run) → Stands geo later (new_entry change run)
  stands stood = stands_left geo (IsOneCount run.place) words later (new_entry change run) long places.new_in.run_in.place_inside
      (new_run geo change run places) left (λ offset of h. omega (arith, of.from, h.1)) stood

  placing : IsPlacing geo change run start words → IsPlacing geo change run start later
  placing it = record {
    differs = differs_then geo (IsPlacingWord geo run) start words later it.differs
        (differs_weaker geo (IsOneCount run.place) (IsPlacingWord geo run) words later (λ q i h. of_run (count h.0 h.1)) left);
    stay = λ q number seen below e. same_slot q number below ∙ it.stay q number seen below e;
    new = λ q number seen below e. elim (it.new q number seen below (sym (same_slot q number below) ∙ e)) [
      | inl was ↦ inl was
      | inr new ↦ inr (record { place_is = new.place_is; slot_is = new.slot_is; stands = stands new.stands })
    ];
  }

  pub there_left : IsEntryThere geo change run start words → IsEntryThere geo change run start later
  there_left it = record {
    placing = placing it.placing;
    bits = added_bits_left geo run (IsOneCount run.place) start words later left (λ q offset bit h. omega (arith, bit.from, h.1)) it.bits;
    slot = record {
      slot = it.slot.slot;
      below = it.slot.below;
      first = it.slot.first;
      here = same_slot run.place it.slot.slot it.slot.below ∙ it.slot.here;
      others = λ q number below differ. same_slot q number below ∙ it.slot.others q number below differ;
    };
    stands = stands it.stands;
  }

-- ---- one after the other

-- the entry is there, and the count of its tier is raised
pub record IsCountedInTier (geo : Geo) (change : Change) (run : Run) (state : State) (start words : List ℕ) : Type 0 where
  pub there : IsEntryThere geo change run start words
  pub in_tier : word_at words (tier_at geo run.place + 1) ≡ one_more (word_at start (tier_at geo run.place + 1))
  pub in_all : word_at words 2 ≡ word_at start 2

pub tier_count_leads : (geo : Geo) (segment : ℕ) (change : Change) (run : Run) (at : ℕ) → PlacesElsewhere geo change run → at ≡ tier_at geo run.place + 1
    → LeadsTo geo segment change (FromBase geo change run (IsEntryPointed geo change run)) (FromBase geo change run (IsCountedInTier geo change run))
    (λ words. slice_set words at (one_more (word_at words at)))
tier_count_leads geo segment change run at places at_is state start words long is pointed =
    subst (λ (n : ℕ). FromBase geo change run (IsCountedInTier geo change run) state start (slice_set words n (one_more (word_at words n)))) (sym at_is)
    (record {
      there = there_left geo change run (base_words geo change run state start) words
          (slice_set words (tier_at geo run.place + 1) (one_more (word_at words (tier_at geo run.place + 1)))) places long
          (count_stored geo run.place words (tier_at geo run.place + 1) (one_more (word_at words (tier_at geo run.place + 1))) (of_tier refl)) pointed.there;
      in_tier = get_or-set_same words (tier_at geo run.place + 1) (one_more (word_at words (tier_at geo run.place + 1))) 0
          (in_words (tier_head_in_range geo run.place 1 places.new_in.run_in.place_inside (omega arith)))
          ∙ ap (λ (w : ℕ). one_more w) (pointed.counts (tier_at geo run.place + 1) (of_tier refl));
      in_all = get_or-set_other words (tier_at geo run.place + 1) 2 (one_more (word_at words (tier_at geo run.place + 1))) 0
          (apart (tier_behind_head geo run.place)) ∙ pointed.counts 2 (of_segment refl);
    })
  where
    in_words : tier_at geo run.place + 1 < words_in_segment geo → tier_at geo run.place + 1 < length words
    in_words h = omega (arith, h, long)

    apart : 4 ≤ tier_at geo run.place → 2 ≢ tier_at geo run.place + 1
    apart h = λ e. absurd (omega arith)

pub segment_count_leads : (geo : Geo) (segment : ℕ) (change : Change) (run : Run) → PlacesElsewhere geo change run
    → LeadsTo geo segment change (FromBase geo change run (IsCountedInTier geo change run)) (FromBase geo change run (IsEntryCounted geo change run))
    (λ words. slice_set words 2 (one_more (word_at words 2)))
segment_count_leads geo segment change run places state start words long is half = record {
  there = there_left geo change run (base_words geo change run state start) words (slice_set words 2 (one_more (word_at words 2))) places long
      (count_stored geo run.place words 2 (one_more (word_at words 2)) (of_segment refl)) half.there;
  counts = λ at count. both at count;
}
  where
    apart : 4 ≤ tier_at geo run.place → tier_at geo run.place + 1 ≢ 2
    apart h = λ e. absurd (omega arith)

    both : (at : ℕ) → IsCountAt geo run.place at
        → word_at (slice_set words 2 (one_more (word_at words 2))) at ≡ one_more (word_at (base_words geo change run state start) at)
    both at (of_tier e) = subst (λ (n : ℕ). word_at (slice_set words 2 (one_more (word_at words 2))) n
        ≡ one_more (word_at (base_words geo change run state start) n)) (sym e)
        (get_or-set_other words 2 (tier_at geo run.place + 1) (one_more (word_at words 2)) 0 (apart (tier_behind_head geo run.place)) ∙ half.in_tier)
    both at (of_segment e) = subst (λ (n : ℕ). word_at (slice_set words 2 (one_more (word_at words 2))) n
        ≡ one_more (word_at (base_words geo change run state start) n)) (sym e)
        (get_or-set_same words 2 (one_more (word_at words 2)) 0 (omega (arith, long, segment_head_within geo)) ∙ ap (λ (w : ℕ). one_more w) half.in_all)

-- ---- torn

pub there_is_torn : (geo : Geo) (segment : ℕ) (change : Change) (run : Run) → PlacesElsewhere geo change run
    → LeadsTo geo segment change (FromBase geo change run (λ _. IsEntryThere geo change run)) (IsTornFor geo change) (λ words. words)
there_is_torn geo segment change run places state start words long is it = placing_is_torn geo segment change run places state start words long is it.placing

pub half_is_torn : (geo : Geo) (segment : ℕ) (change : Change) (run : Run) → PlacesElsewhere geo change run
    → LeadsTo geo segment change (FromBase geo change run (IsCountedInTier geo change run)) (IsTornFor geo change) (λ words. words)
half_is_torn geo segment change run places state start words long is it = there_is_torn geo segment change run places state start words long is it.there

counted_is_torn : (geo : Geo) (segment : ℕ) (change : Change) (run : Run) → PlacesElsewhere geo change run
    → LeadsTo geo segment change (FromBase geo change run (IsEntryCounted geo change run)) (IsTornFor geo change) (λ words. words)
counted_is_torn geo segment change run places state start words long is it = there_is_torn geo segment change run places state start words long is it.there

pub may_count_in_tier : (m : MemSeen) (geo : Geo) (change : Change) (run : Run) (at : ℕ) → PlacesElsewhere geo change run → at ≡ tier_at geo run.place + 1
    → IsInPhase m geo change (FromBase geo change run (IsEntryPointed geo change run)) → MayStoreEach m (stores_to_raise at)
may_count_in_tier m geo change run at places at_is here =
    may_store_one_in m geo change (FromBase geo change run (IsEntryPointed geo change run)) at (λ words. one_more (word_at words at)) here
    (leads_then geo m.setting.segment change (FromBase geo change run (IsEntryPointed geo change run))
    (FromBase geo change run (IsCountedInTier geo change run)) (IsTornFor geo change) (λ words. slice_set words at (one_more (word_at words at)))
    (λ words. length-set words at (one_more (word_at words at))) (tier_count_leads geo m.setting.segment change run at places at_is)
    (half_is_torn geo m.setting.segment change run places))

pub may_count_in_all : (m : MemSeen) (geo : Geo) (change : Change) (run : Run) → PlacesElsewhere geo change run
    → IsInPhase m geo change (FromBase geo change run (IsCountedInTier geo change run)) → MayStoreEach m (stores_to_raise 2)
may_count_in_all m geo change run places here =
    may_store_one_in m geo change (FromBase geo change run (IsCountedInTier geo change run)) 2 (λ words. one_more (word_at words 2)) here
    (leads_then geo m.setting.segment change (FromBase geo change run (IsCountedInTier geo change run))
    (FromBase geo change run (IsEntryCounted geo change run)) (IsTornFor geo change) (λ words. slice_set words 2 (one_more (word_at words 2)))
    (λ words. length-set words 2 (one_more (word_at words 2))) (segment_count_leads geo m.setting.segment change run places)
    (counted_is_torn geo m.setting.segment change run places))

-- ---- as parts of a change

pub tier_count_advances : {M T E : Type 0} {seen : M → MemSeen} {rest : M → M → Type 0} {geo : Geo} {change : Change} {run : Run} {a b : M}
    {result : Result T E} {at : ℕ}
    → PlacesElsewhere geo change run → at ≡ tier_at geo run.place + 1
    → IsInPhase (seen a) geo change (FromBase geo change run (IsEntryPointed geo change run))
    → Performs seen rest (λ old now. WritesEach old now (stores_to_raise at)) Reads a b result
    → Advances seen rest geo change (FromBase geo change run (IsCountedInTier geo change run)) a b result
tier_count_advances {seen} {rest} {geo} {change} {run} {a} {b} {result} {at} places at_is here call =
    stores_advance seen rest geo change (FromBase geo change run (IsEntryPointed geo change run)) (FromBase geo change run (IsCountedInTier geo change run))
    (stores_to_raise at) a b result here call
    (tier_count_leads geo (seen a).setting.segment change run at places at_is) (pointed_is_torn geo (seen a).setting.segment change run places)

pub segment_count_advances : {M T E : Type 0} {seen : M → MemSeen} {rest : M → M → Type 0} {geo : Geo} {change : Change} {run : Run} {a b : M}
    {result : Result T E}
    → PlacesElsewhere geo change run → IsInPhase (seen a) geo change (FromBase geo change run (IsCountedInTier geo change run))
    → Performs seen rest (λ old now. WritesEach old now (stores_to_raise 2)) Reads a b result
    → Advances seen rest geo change (FromBase geo change run (IsEntryCounted geo change run)) a b result
segment_count_advances {seen} {rest} {geo} {change} {run} {a} {b} {result} places here call =
    stores_advance seen rest geo change (FromBase geo change run (IsCountedInTier geo change run)) (FromBase geo change run (IsEntryCounted geo change run))
    (stores_to_raise 2) a b result here call
    (segment_count_leads geo (seen a).setting.segment change run places) (half_is_torn geo (seen a).setting.segment change run places)
