-- Cleared words represent a chain of empty tiers, and settled ones what is kept.
use Rattle.std.proofs.Common.{◌≡◌, ℕ, ◌+◌, ◌-◌, ◌*◌, ◌/◌, ◌%◌, ◌^◌, ◌<◌, ◌≤◌, false, List, [], length, take, min, bit_and, Some, None, Contains, refl, ap, sym, subst, ◌∙◌, inl, inr, arith}
use Rattle.std.specs.List.{flat_map}
use Rattle.std.proofs.lemmas.Bool.{cases_lt}
use Rattle.std.proofs.lemmas.List.{length-take}
use Rattle.std.proofs.lemmas.List.Elements.{All-from_recursion}
use Rattle.cm_geo.specs.declared.geo.Geo.{Geo}
use Rattle.cm_geo.specs.Addresses.{bits_at, slot_at, tier_at, words_in_segment}
use Rattle.cm_geo.proofs.Ranges.{chunks_whole}
use Rattle.cm_plain.specs.declared.found.SegFound.{SegFound}
use Rattle.cm_plain.specs.declared.found.Drops.{Drops}
use Rattle.cm_plain.specs.States.{IsChain, State}
use Rattle.cm_plain.specs.Slots.{slot_in, slot_of_word, word_at}
use Rattle.cm_plain.specs.FoundChains.{FoundChain, chain_of}
use Rattle.cm_plain.specs.Lawful.{EndsHead, HasBit, Lawful, Resting, TierRepresents}
use Rattle.cm_plain.proofs.ListElements.{all_in, in_to}
use Rattle.cm_tiers.specs.declared.places.Chain.{Chain}
use Rattle.cm_tiers.specs.Chains.{IsLinked, places_of}
use Rattle.cm_recover.specs.declared.tally.Tally.{Tally}
use Rattle.cm_recover.specs.AllowedPlaces.{allowed_places, extra_before}
use Rattle.cm_recover.specs.OccupiedSlots.{occupied_in, occupied_slots}
use Rattle.cm_recover.specs.KeptSlots.{kept_in, kept_of, kept_state}
use Rattle.cm_recover.specs.Clearing.{IsCleared}
use Rattle.cm_recover.specs.Tallies.{IsRecovered, IsToldOf, count_for}
use Rattle.cm_recover.specs.Rebuilding.{HasCome, IsSoFar, SettlesAll}
use Rattle.cm_recover.proofs.CutChains.{cleared_chain}
use Rattle.cm_recover.proofs.AnyChain.{allowed_chain}
use Rattle.cm_recover.proofs.SettledTiers.{take_past}

module _ (geo : Geo) (segment : ℕ) (old places words : List ℕ) (long : length old ≡ words_in_segment geo) (is_chain : IsChain geo places)
    (cleared : IsCleared geo places old words)
    (linked : chain_of geo words ≡ record { places = places; cut = false }) where
  abbrev start : State
  start = record { chain = places; entries = [] }

  none_in : {X : Type 0} {x : X} → Contains [] x → ⊥
  none_in there = omega (arith, there.1)

  no_slot : (place number : ℕ) → Contains places place → number < 2 * geo.chunks → slot_in geo words place number ≡ None
  unfolding slot_in slot_at
  no_slot place number there below =
      let e : tier_at geo place + (4 + geo.chunks / 64 + number) ≡ tier_at geo place + 4 + geo.chunks / 64 + number = omega arith in
      ap slot_of_word (subst (λ (n : ℕ). word_at words n ≡ 0) e
      (cleared.books place (4 + geo.chunks / 64 + number) there (omega arith) (omega arith)))

  no_bit : (place chunk : ℕ) → Contains places place → chunk < geo.chunks → HasBit geo words place chunk → ⊥
  unfolding bits_at
  no_bit place chunk there below has =
      let e : tier_at geo place + (4 + chunk / 64) ≡ tier_at geo place + 4 + chunk / 64 = omega arith in
      let zero : word_at words (tier_at geo place + 4 + chunk / 64) ≡ 0 =
      subst (λ (n : ℕ). word_at words n ≡ 0) e (cleared.books place (4 + chunk / 64) there (omega arith) (omega (arith, (chunks_whole geo).1))) in
      has (rw zero (none_set (2 ^ (chunk % 64))))
    where
      none_set : (mask : ℕ) → bit_and 0 mask ≡ 0
      none_set mask = refl

  clash : {X : Type 0} {x : X} → None ≡ Some x → ⊥
  clash e = cc e

  tier_is : (place : ℕ) → Contains places place → TierRepresents geo words start place
  tier_is place there = record {
    slots = λ number slot below e. absurd (clash (sym (no_slot place number there below) ∙ e));
    reached = λ number slot below e. absurd (clash (sym (no_slot place number there below) ∙ e));
    bits = λ chunk below. (λ has. absurd (no_bit place chunk there below has), λ taken. absurd (none_in taken.at.there));
    count = cleared.books place 1 there (omega arith) (omega arith);
  }

  starts : Resting geo segment words start
  unfolding Resting
  starts = record {
    length_is = cleared.length_is ∙ long;
    fourth = cleared.head 3 (omega arith);
    heads = All-from_recursion (EndsHead geo words) places (all_in (EndsHead geo words) places (λ place i. record {
      third = cleared.books place 2 (in_to places place i) (omega arith) (omega arith);
      fourth = cleared.books place 3 (in_to places place i) (omega arith) (omega arith);
    }));
    represents = record {
      is_state = record {
        chain = is_chain;
        placed = λ i d below. absurd (omega arith);
        runs = λ i j d before below. absurd (omega arith);
        keys = λ i j d before below. absurd (omega arith);
      };
      whole = ap (λ (l : FoundChain). l.cut) linked;
      chain = ap (λ (l : FoundChain). l.places) linked;
      tiers = All-from_recursion (TierRepresents geo words start) places
          (all_in (TierRepresents geo words start) places (λ place i. tier_is place (in_to places place i)));
      stand = λ placed there. absurd (none_in there);
      pointed = λ placed there. absurd (none_in there);
      count = cleared.head 2 (omega arith);
      unlinked = λ place low out. cleared.unlinked place low out;
    };
  }

  pub start_so_far : IsSoFar geo segment old places [] words
  start_so_far = record {
    old_long = long;
    lock = cleared.head 0 (omega arith);
    number = cleared.head 1
        (omega arith);
    rests = starts;
    chunks = cleared.chunks;
  }

-- ---- a segment that was cleared, and of which all slots were settled

-- at most so many places more than the first one
pub covered_same : (covered extra len : ℕ) (places : List ℕ) → covered ≡ 1 + min extra (len - 1) → 1 ≤ len → length places ≤ len
    → take covered places ≡ take (1 + extra) places
covered_same covered extra len places is some within = elim (cases_lt extra len) [
  | inl fewer ↦ (let e : covered ≡ 1 + extra = omega arith in ap (λ (n : ℕ). take n places) e)
  | inr all ↦ take_past covered places (omega arith) ∙ sym (take_past (1 + extra) places (omega arith))
]

module _ (geo : Geo) (segment extra covered : ℕ) (words_of : ℕ → List ℕ) (chain : Chain) (cleared words : List ℕ) (tally : Tally) (found : SegFound)
    (extra_is : extra ≡ geo.extra - extra_before geo words_of segment) (long : length (words_of segment) ≡ words_in_segment geo)
    (some : 1 ≤ chain.len) (linked : IsLinked geo (words_of segment) chain)
    (covered_is : covered ≡ 1 + min extra (chain.len - 1)) (clears : IsCleared geo (take covered (places_of chain)) (words_of segment) cleared)
    (settles : SettlesAll geo segment (take covered (places_of chain)) (places_of chain) (words_of segment) tally cleared words)
    (told : IsToldOf segment chain tally (words_of segment) found) where
  places_are : places_of chain ≡ (chain_of geo (words_of segment)).places
  places_are = sym (ap (λ (l : FoundChain). l.places) linked)

  few : length (places_of chain) ≤ chain.len
  few = omega (arith, length-take chain.len chain.places)

  left_are : take covered (places_of chain) ≡ take (1 + extra) (chain_of geo (words_of segment)).places
  left_are = covered_same covered extra chain.len (places_of chain) covered_is some few ∙ ap (λ (ps : List ℕ). take (1 + extra) ps) places_are

  allowed_are : take covered (places_of chain) ≡ allowed_places geo words_of segment
  unfolding allowed_places
  allowed_are = left_are ∙ ap (λ (n : ℕ). take (1 + n) (chain_of geo (words_of segment)).places) extra_is

  begun : IsSoFar geo segment (words_of segment) (take covered (places_of chain)) [] cleared
  begun = start_so_far geo segment (words_of segment) (take covered (places_of chain)) cleared long
      (subst (IsChain geo) (sym allowed_are) (allowed_chain geo words_of segment)) clears
      (cleared_chain geo extra (take covered (places_of chain)) (words_of segment) cleared left_are clears)

  come : HasCome geo segment (words_of segment) (allowed_places geo words_of segment) (kept_in geo words_of segment) tally words
  unfolding kept_in occupied_slots
  come = subst (λ (ps : List ℕ). HasCome geo segment (words_of segment) ps
      (kept_of geo segment (words_of segment) ps (record { entries = []; drops = [] })
      (flat_map (occupied_in geo (words_of segment)) (chain_of geo (words_of segment)).places)) tally words) allowed_are
      (subst (λ (qs : List ℕ). HasCome geo segment (words_of segment) (take covered (places_of chain))
      (kept_of geo segment (words_of segment) (take covered (places_of chain)) (record { entries = []; drops = [] })
      (flat_map (occupied_in geo (words_of segment)) qs)) tally words) places_are (settles begun))

  lawful : Lawful geo segment words 0 (kept_state geo words_of segment)
  unfolding Resting
  lawful = record { lock = come.so_far.lock; number_is = come.so_far.number; number_within_limit = omega arith; apart = come.so_far.rests }

  pub recovered_of : IsRecovered geo words_of segment words found
  recovered_of = record {
    lawful = lawful;
    found_is = record {
      segment_is = told.segment_is;
      kept = told.kept ∙ come.counts.kept_is;
      drops = λ why. ap (λ (d : Drops). count_for d why) told.drops ∙ come.counts.drops why;
      lock = told.lock;
      in_flight = told.in_flight;
      cut = told.cut ∙ sym (ap (λ (l : FoundChain). l.cut) linked);
    };
  }

-- the same of old words under another name
pub segment_recovered : (geo : Geo) (segment extra covered : ℕ) (words_of : ℕ → List ℕ) (chain : Chain) (old cleared words : List ℕ) (tally : Tally)
    (found : SegFound) → words_of segment ≡ old
    → extra ≡ geo.extra - extra_before geo words_of segment → length old ≡ words_in_segment geo → 1 ≤ chain.len → IsLinked geo old chain
    → covered ≡ 1 + min extra (chain.len - 1) → IsCleared geo (take covered (places_of chain)) old cleared
    → SettlesAll geo segment (take covered (places_of chain)) (places_of chain) old tally cleared words → IsToldOf segment chain tally old found
    → IsRecovered geo words_of segment words found
segment_recovered geo segment extra covered words_of chain old cleared words tally found is extra_is long some linked covered_is clears settles told =
    recovered_of geo segment extra covered words_of chain cleared words tally found extra_is (ap (λ (ws : List ℕ). length ws) is ∙ long) some
    (subst (λ (o : List ℕ). IsLinked geo o chain) (sym is) linked) covered_is
    (subst (λ (o : List ℕ). IsCleared geo (take covered (places_of chain)) o cleared) (sym is) clears)
    (subst (λ (o : List ℕ). SettlesAll geo segment (take covered (places_of chain)) (places_of chain) o tally cleared words) (sym is) settles)
    (subst (λ (o : List ℕ). IsToldOf segment chain tally o found) (sym is) told)
