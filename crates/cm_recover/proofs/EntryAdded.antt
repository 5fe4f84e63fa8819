-- The stores that keep an entry: what they leave, and what the words represent after them.
use Rattle.std.proofs.Common.{◌≡◌, ◌≢◌, ℕ, ◌+◌, ◌*◌, ◌/◌, ◌%◌, ◌<◌, ◌≤◌, ◌⊎◌, ◌↔◌, IsBitSet, List, length, slice_set, refl, ap, sym, subst, ◌∙◌, arith, length-set, get_or-set_other, get_or-set_same}
use Rattle.cm_geo.specs.declared.geo.Geo.{Geo}
use Rattle.cm_geo.specs.Addresses.{bits_at, slot_at, tier_at, words_in_segment, words_in_tier}
use Rattle.cm_geo.specs.Hash.{fingerprint_in, hash}
use Rattle.cm_geo.proofs.AddressOrder.{segment_head_within, tier_behind_head, tier_head_in_range}
use Rattle.cm_geo.proofs.AddressesApart.{bits_not_tier_head, slot_not_bits}
use Rattle.cm_geo.proofs.Ranges.{chunks_whole}
use Rattle.cm_geo.proofs.Unchanged.{bits_kept_by_slot, bits_kept_by_tier_head, slot_kept_by_tier_head, tier_head_kept_by_slot}
use Rattle.cm_plain.specs.declared.placed.Placed.{Placed}
use Rattle.cm_plain.specs.Changes.{run_of}
use Rattle.cm_plain.specs.Lawful.{HasBit}
use Rattle.cm_plain.specs.Slots.{slot_in, word_at}
use Rattle.cm_chunks.specs.RunBits.{IsInRun, IsRunIn}
use Rattle.cm_lookup.specs.Probing.{IsFirstEmpty, probe}
use Rattle.cm_lookup.specs.Tiers.{HasEmptySlot, slot_word}
use Rattle.cm_lookup.proofs.Finding.{probe_below}
use Rattle.cm_lookup.proofs.SlotStores.{slot_in_kept_by_slot, slot_put}
use Rattle.cm_recover.specs.Rebuilding.{IsAdded, raised}
use Rattle.cm_recover.proofs.Frames.{DiffersIn, differs_count, differs_set, differs_store, differs_then, slot_by}
use Rattle.cm_recover.proofs.EntryKept.{IsKeptIn, one_more}

module _ (geo : Geo) (placed : Placed) (before words : List ℕ) (long : length before ≡ words_in_segment geo)
    (inside : IsRunIn geo (run_of geo placed))
    (added : IsAdded geo (run_of geo placed) (fingerprint_in geo (hash placed.key)) before words) (empty : HasEmptySlot geo before placed.place) where
  abbrev pointed : List ℕ
  pointed = slice_set added.taken (slot_at geo placed.place added.slot) (slot_word (fingerprint_in geo (hash placed.key)) placed.chunk)

  abbrev in_tier : List ℕ
  in_tier = raised (tier_at geo placed.place + 1) pointed

  abbrev in_all : List ℕ
  in_all = raised 2 in_tier

  -- ---- what differs

  slot_offset : slot_at geo placed.place added.slot ≡ tier_at geo placed.place + (4 + geo.chunks / 64 + added.slot)
  unfolding slot_at
  slot_offset = omega arith

  point_differs : DiffersIn geo placed.place added.taken pointed
  unfolding words_in_tier
  point_differs = differs_store geo placed.place added.taken (slot_at geo placed.place added.slot) (4 + geo.chunks / 64 + added.slot)
      (slot_word (fingerprint_in geo (hash placed.key)) placed.chunk) slot_offset
      (omega (arith, added.below)) (record {
        place_is = refl;
        nonzero = omega arith;
        not_third = λ e. absurd (omega arith);
        not_fourth = λ e. absurd (omega arith);
        below = omega (arith, added.below);
      })

  tier_differs : DiffersIn geo placed.place pointed in_tier
  unfolding words_in_tier
  tier_differs = differs_store geo placed.place pointed (tier_at geo placed.place + 1) 1
      (one_more (word_at pointed (tier_at geo placed.place + 1))) refl (omega arith) (record {
        place_is = refl;
        nonzero = omega arith;
        not_third = λ e. absurd (omega arith);
        not_fourth = λ e. absurd (omega arith);
        below = omega arith;
      })

  differs : DiffersIn geo placed.place before in_all
  differs = differs_then geo placed.place before added.taken in_all
      (differs_set geo (run_of geo placed) before added.taken inside (added.long ∙ sym long) added.set)
      (differs_then geo placed.place added.taken pointed in_all point_differs
      (differs_then geo placed.place pointed in_tier in_all tier_differs (differs_count geo placed.place in_tier (one_more (word_at in_tier 2)))))

  -- ---- the slots

  taken_slot : (q number : ℕ) → number < 2 * geo.chunks → slot_in geo added.taken q number ≡ slot_in geo before q number
  taken_slot q number below = slot_by geo before added.taken q number (added.set.others (slot_at geo q number)
      (λ chunk here. slot_not_bits geo q placed.place number (chunk / 64) below (omega (arith, (chunks_whole geo).1, here.not_ended, inside.inside))))

  counted_slot : (q number : ℕ) → number < 2 * geo.chunks → slot_in geo in_all q number ≡ slot_in geo pointed q number
  unfolding slot_at
  counted_slot q number below = slot_by geo pointed in_all q number
      (get_or-set_other in_tier 2 (slot_at geo q number) (one_more (word_at in_tier 2)) 0 (behind (tier_behind_head geo q))
      ∙ slot_kept_by_tier_head geo pointed placed.place q 1 number (tier_at geo placed.place + 1)
      (one_more (word_at pointed (tier_at geo placed.place + 1))) refl (omega arith) below)
    where
      behind : 4 ≤ tier_at geo q → tier_at geo q + 4 + geo.chunks / 64 + number ≢ 2
      behind h e = omega arith

  first_here : IsFirstEmpty geo before placed.place (fingerprint_in geo (hash placed.key)) added.slot
  first_here =
      let first = added.first (empty.0, empty.1, taken_slot placed.place empty.0 empty.1 ∙ empty.2) in
      record {
        steps = first.steps;
        inside = first.inside;
        slot_is = first.slot_is;
        empty = sym (taken_slot placed.place added.slot added.below) ∙ first.empty;
        before = λ earlier h none. first.before earlier h
            (taken_slot placed.place (probe geo (fingerprint_in geo (hash placed.key)) earlier)
            (probe_below geo (fingerprint_in geo (hash placed.key)) earlier) ∙ none);
      }

  -- ---- the bits

  bit_word : (place chunk : ℕ) → chunk < geo.chunks
      → word_at in_all (bits_at geo place (chunk / 64)) ≡ word_at added.taken (bits_at geo place (chunk / 64))
  unfolding bits_at
  bit_word place chunk below =
      let number : chunk / 64 < geo.chunks / 64 = omega (arith, (chunks_whole geo).1) in
      get_or-set_other in_tier 2 (bits_at geo place (chunk / 64)) (one_more (word_at in_tier 2)) 0 (behind (tier_behind_head geo place) (chunk / 64))
      ∙ (bits_kept_by_tier_head geo pointed placed.place place 1 (chunk / 64) (tier_at geo placed.place + 1)
      (one_more (word_at pointed (tier_at geo placed.place + 1))) refl (omega arith) number
      ∙ bits_kept_by_slot geo added.taken placed.place place added.slot (chunk / 64) (slot_at geo placed.place added.slot)
      (slot_word (fingerprint_in geo (hash placed.key)) placed.chunk) refl added.below number)
    where
      behind : 4 ≤ tier_at geo place → (n : ℕ) → tier_at geo place + 4 + n ≢ 2
      behind h n e = omega arith

  -- ---- the counts

  tier_count : word_at pointed (tier_at geo placed.place + 1) ≡ word_at before (tier_at geo placed.place + 1)
  tier_count = tier_head_kept_by_slot geo added.taken placed.place placed.place added.slot 1 (slot_at geo placed.place added.slot)
      (slot_word (fingerprint_in geo (hash placed.key)) placed.chunk) refl added.below (omega arith)
      ∙ added.set.others (tier_at geo placed.place + 1)
      (λ chunk here e. bits_not_tier_head geo placed.place placed.place (chunk / 64) 1
      (omega (arith, (chunks_whole geo).1, here.not_ended, inside.inside)) (omega arith) (sym e))

  all_count : word_at in_tier 2 ≡ word_at before 2
  unfolding slot_at bits_at
  all_count = get_or-set_other pointed (tier_at geo placed.place + 1) 2 (one_more (word_at pointed (tier_at geo placed.place + 1))) 0
      (behind (tier_behind_head geo placed.place) 1)
      ∙ (get_or-set_other added.taken (slot_at geo placed.place added.slot) 2 (slot_word (fingerprint_in geo (hash placed.key)) placed.chunk) 0
      (behind_slot (tier_behind_head geo placed.place))
      ∙ added.set.others 2 (λ chunk here. behind_bits (tier_behind_head geo placed.place) (chunk / 64)))
    where
      behind : 4 ≤ tier_at geo placed.place → (n : ℕ) → 2 ≢ tier_at geo placed.place + n
      behind h n e = omega arith

      behind_slot : 4 ≤ tier_at geo placed.place → 2 ≢ tier_at geo placed.place + 4 + geo.chunks / 64 + added.slot
      behind_slot h e = omega arith

      behind_bits : 4 ≤ tier_at geo placed.place → (n : ℕ) → 2 ≢ tier_at geo placed.place + 4 + n
      behind_bits h n e = omega arith

  pointed_long : length pointed ≡ words_in_segment geo
  pointed_long = length-set added.taken (slot_at geo placed.place added.slot) (slot_word (fingerprint_in geo (hash placed.key)) placed.chunk)
      ∙ added.long

  all_kept : IsKeptIn geo placed before in_all
  all_kept = record {
    differs = differs;
    bits = λ place chunk below. subst
        (λ (w : ℕ). IsBitSet w (chunk % 64) ↔ (IsInRun (run_of geo placed) place chunk ⊎ HasBit geo before place chunk))
        (sym (bit_word place chunk below)) (added.set.bits place chunk below);
    slot = record {
      slot = added.slot;
      below = added.below;
      first = first_here;
      here = counted_slot placed.place added.slot added.below
          ∙ slot_put geo added.taken placed.place added.slot
          (fingerprint_in geo (hash placed.key)) placed.chunk added.long inside.place_inside added.below
          (omega (arith, inside.inside, inside.nonzero));
      others = λ q number below differ. counted_slot q number below
          ∙ (slot_in_kept_by_slot geo added.taken placed.place q added.slot number (slot_at geo placed.place added.slot)
          (slot_word (fingerprint_in geo (hash placed.key)) placed.chunk) refl added.below below differ
          ∙ taken_slot q number below);
    };
    in_tier = get_or-set_other in_tier 2 (tier_at geo placed.place + 1) (one_more (word_at in_tier 2)) 0 (behind (tier_behind_head geo placed.place))
        ∙ (get_or-set_same pointed (tier_at geo placed.place + 1) (one_more (word_at pointed (tier_at geo placed.place + 1))) 0
        (omega (arith, pointed_long, tier_head_in_range geo placed.place 1 inside.place_inside (omega arith))) ∙ ap one_more tier_count);
    in_all = get_or-set_same in_tier 2 (one_more (word_at in_tier 2)) 0
        (omega (
          arith,
          length-set pointed (tier_at geo placed.place + 1)
              (one_more (word_at pointed (tier_at geo placed.place + 1))),
          pointed_long,
          segment_head_within geo,
        ))
        ∙ ap one_more all_count;
  }
    where
      behind : 4 ≤ tier_at geo placed.place → tier_at geo placed.place + 1 ≢ 2
      behind h e = omega arith

  pub added_kept : IsKeptIn geo placed before words
  added_kept = subst (IsKeptIn geo placed before) (sym added.words_are) all_kept
