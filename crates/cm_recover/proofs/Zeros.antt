-- Words into which a first entry is written are torn for its put. Words in which nothing was written are such words, and represent one empty tier.
use Rattle.std.proofs.Common.{◌≡◌, ℕ, ◌*◌, subst, ◌+◌, ◌-◌, ◌<◌, ◌≤◌, Bool, true, Some, None, List, [], ◌∷◌, find, length, nat_le, refl, sym, ◌∙◌, arith, zero, suc, inl, inr}
use Rattle.std.specs.List.{Contains, range_with_len, sum_by}
use Rattle.std.proofs.lemmas.Bool.Decides.{nat_tests}
use Rattle.std.proofs.lemmas.List.Sums.{sum_by-cons}
use Rattle.std.proofs.lemmas.List.{length-replicate}
use Rattle.cm_geo.specs.declared.geo.Geo.{Geo}
use Rattle.cm_geo.specs.declared.limits.TheConstants.{MAX_RUN_CHUNKS}
use Rattle.cm_geo.specs.Addresses.{tier_at, words_in_segment}
use Rattle.cm_geo.specs.Hash.{segment_of_key}
use Rattle.cm_geo.specs.Need.{Fits, need}
use Rattle.cm_geo.proofs.Ranges.{chunks_range}
use Rattle.cm_plain.specs.declared.op.Op.TheVariants.{Put}
use Rattle.cm_plain.specs.declared.placed.Placed.{Placed}
use Rattle.cm_plain.specs.declared.room.Spot.{Spot}
use Rattle.cm_plain.specs.declared.room.Room.TheVariants.{Elsewhere}
use Rattle.cm_plain.specs.States.{one_tier}
use Rattle.cm_plain.specs.Rooms.{first_fit, is_free}
use Rattle.cm_plain.specs.Changes.{Change, entry_at, placing_change, planned_change}
use Rattle.cm_plain.specs.Steps.{Plans}
use Rattle.cm_plain.specs.Torn.{IsChangeSlot, Torn}
use Rattle.cm_plain.specs.Readings.{Stands}
use Rattle.cm_plain.specs.Slots.{IsPointed, Slot, slot_for, slot_in}
use Rattle.cm_plain.specs.FoundChains.{chain_of}
use Rattle.cm_plain.proofs.Placements.{placed_state}
use Rattle.cm_plain.proofs.RestingTorn.{resting_torn}
use Rattle.cm_plain.proofs.OutsideHead.{resting_many}
use Rattle.cm_plain.proofs.ListElements.{In, in_from}
use Rattle.cm_plain.specs.ZeroWords.{zeros}
use Rattle.cm_plain.proofs.ZeroWords.{all_zero, alone, alone_is, no_slot, none_in, one_is, zeros_lawful}
use Rattle.cm_recover.specs.Premises.{FirstWrittenIsTorn, IsFirstWritten, RestingIsTorn, ZerosAreTorn}

-- words that rest are as many as a segment's, and torn
pub resting_is_torn : (geo : Geo) → RestingIsTorn geo
resting_is_torn geo segment words state op change rests plans = record {
  length_is = resting_many geo segment words state rests;
  plans = plans;
  torn = resting_torn geo segment words state op change rests plans;
}

-- a first number that passes is found
finds_first : (test : ℕ → Bool) (n : ℕ) → 1 ≤ n → test 0 ≡ true → find test (range_with_len 0 n) ≡ Some 0
finds_first test zero nonzero passes = absurd (omega arith)
finds_first test (suc n) nonzero passes = rw passes refl

-- what fits has room at the first chunk of an empty tier
first_room : (geo : Geo) (chunks : ℕ) → chunks ≤ MAX_RUN_CHUNKS → first_fit geo one_tier chunks ≡ Some (record { place = 0; chunk = 0 })
first_room geo chunks within_limit =
    let inside : nat_le (0 + chunks) geo.chunks ≡ true = grind (arith, nat_tests, chunks_range geo) in
    let free : is_free geo [] 0 0 chunks ≡ true = rw inside refl in
    rw (finds_first (λ chunk. is_free geo [] 0 chunk chunks) geo.chunks (omega (arith, chunks_range geo)) free) refl

-- so a put that fits is planned
put_plans : (geo : Geo) (key value : List ℕ) → Fits geo (length key) (length value)
    → Plans geo (segment_of_key geo key) one_tier (Put key value) (planned_change geo one_tier (Put key value) key)
put_plans geo key value fits =
    let fit = first_room geo (need geo (length key) (length value)) fits.run_short in
    let spot : Spot = record { place = 0; chunk = 0 } in
    let segment = segment_of_key geo key in
    record {
      is_state = one_is geo segment;
      met = refl;
      room = rw fit refl;
      key = refl;
      change_is = refl;
      leads = rw fit (placed_state geo segment one_tier key value spot (one_is geo segment) fits refl (Elsewhere spot) (rw fit refl) refl);
    }

-- the put of an entry into one empty tier
abbrev first_put : Geo → List ℕ → List ℕ → Change
first_put geo key value = placing_change geo (Put key value) key value None (Elsewhere (record { place = 0; chunk = 0 })) (need geo (length key) (length value))

first_is : (geo : Geo) (key value : List ℕ) → Fits geo (length key) (length value) → planned_change geo one_tier (Put key value) key ≡ first_put geo key value
first_is geo key value fits = let fit = first_room geo (need geo (length key) (length value)) fits.run_short in rw fit refl

first_torn : (geo : Geo) (words key value : List ℕ) → IsFirstWritten geo words key value → Torn geo words one_tier (first_put geo key value)
first_torn geo words key value is =
    let linked_is = alone_is geo words is.alone in
    record {
      others_stand = λ placed other. absurd (none_in other.there);
      others_pointed = λ placed other. absurd (none_in other.there);
      slots = λ place number slot chained inside e. inr (its place number slot (rw linked_is at chained) inside e);
      old_stands = λ placed old. absurd (none_in old.there);
      new_stands = λ placed new apart points. whole_at placed (in_from (entry_at key value 0 0 ∷ []) placed new.there) points.pointed;
      pointed = λ old new is_old. absurd (none_in is_old.there);
      whole = rw linked_is refl;
      chain = inl (rw linked_is refl);
      unlinked = λ place inside out. is.unlinked place inside (λ first. out (rw (linked_is, first) (0, omega arith, refl)));
      between = λ old new is_kind is_old. absurd (none_in is_old.there);
    }
  where
    first_of_one : (place : ℕ) → Contains (0 ∷ []) place → place ≡ 0
    first_of_one place c = elim (in_from (0 ∷ []) place c) [ inl e ↦ e | inr i ↦ absurd i ]

    its : (place number : ℕ) (slot : Slot) → Contains (0 ∷ []) place → number < 2 * geo.chunks → slot_in geo words place number ≡ Some slot → IsChangeSlot geo (first_put geo key value) place slot
    its place number slot chained inside e =
        let first = first_of_one place chained in
        record { chunk = 0; begins = inr (sym first, refl); slot_is = (is.slots number slot inside (rw first at e)).slot_is }

    whole_at : (placed : Placed) → In placed (entry_at key value 0 0 ∷ []) → IsPointed geo words placed.place placed.key placed.chunk → Stands geo words placed
    whole_at placed (inl e) points =
        let points' : IsPointed geo words 0 key 0 = subst (λ (p : Placed). IsPointed geo words p.place p.key p.chunk) e points in
        subst (λ (p : Placed). Stands geo words p) (sym e) (is.slots points'.0 (slot_for geo key 0) points'.1.inside points'.1.slot_is).stands
    whole_at placed (inr i) points = absurd i

-- words into which one entry is written are torn for its put
pub first_written_is_torn : (geo : Geo) → FirstWrittenIsTorn geo
first_written_is_torn geo words key value fits is = record {
  length_is = is.length_is;
  plans = put_plans geo key value fits;
  torn = subst (Torn geo words one_tier) (sym (first_is geo key value fits)) (first_torn geo words key value is);
}

-- each segment has its first tier alone
no_extra : (geo : Geo) (n from : ℕ) → sum_by (λ segment. length (chain_of geo (zeros geo segment)).places - 1) (range_with_len from n) ≡ 0
no_extra geo zero from = refl
no_extra geo (suc n) from =
    let extra : ℕ → ℕ = λ segment. length (chain_of geo (zeros geo segment)).places - 1 in
    let none : extra from ≡ 0 = rw (alone geo from) refl in
    let rest : sum_by extra (range_with_len (from + 1) n) ≡ 0 = no_extra geo n (from + 1) in
    sum_by-cons extra from (range_with_len (from + 1) n) ∙ both (extra from) (sum_by extra (range_with_len (from + 1) n)) none rest
  where
    both : (a b : ℕ) → a ≡ 0 → b ≡ 0 → a + b ≡ 0
    both a b e f = omega arith

-- words in which nothing was written are words into which any first entry may be written
zeros_written : (geo : Geo) (segment : ℕ) (key value : List ℕ) → IsFirstWritten geo (zeros geo segment) key value
zeros_written geo segment key value = record {
  length_is = length-replicate (words_in_segment geo) 0;
  alone = all_zero (words_in_segment geo) (tier_at geo 0);
  slots = λ number slot inside e. absurd (clash (sym (no_slot geo segment 0 number) ∙ e));
  unlinked = λ place inside other offset below. all_zero (words_in_segment geo) (tier_at geo place + offset);
}
  where
    clash : {X : Type 0} {x : X} → None ≡ Some x → ⊥
    clash e = cc e

-- the premises of the laws are met by words in which nothing was written
pub zeros_are_torn : (geo : Geo) → ZerosAreTorn geo
zeros_are_torn geo = record {
  allowance = rw (no_extra geo geo.segments 0) (omega arith);
  lawful_apart = zeros_lawful geo;
  torn = λ key value fits. first_written_is_torn geo (zeros geo (segment_of_key geo key)) key value fits (zeros_written geo (segment_of_key geo key) key value);
}
