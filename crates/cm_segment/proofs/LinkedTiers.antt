-- Words in which the link of a new tier was stored rest for the state with that tier, which is empty.
use Rattle.cm_plain.proofs.ListElements.{In, in_to, all_in, in_either}
use Rattle.std.proofs.Common.{◌≡◌, ◌≢◌, ℕ, ◌+◌, ◌-◌, ◌*◌, ◌/◌, ◌%◌, ◌<◌, ◌≤◌, ◌⊎◌, ◌↔◌, ◌==◌, ◌++◌, false, List, [], ◌∷◌, length, filter, get_or, slice_set, Some, None, Contains, IsBitSet, refl, ap, sym, subst, ◌∙◌, inl, inr, arith, ne_eqb, get_or-set_other}
use Rattle.std.proofs.lemmas.List.Elements.{All-contains, All-from_recursion, Contains-append_left}
use Rattle.cm_geo.specs.declared.geo.Geo.{Geo}
use Rattle.cm_geo.specs.Addresses.{bits_at, slot_at, tier_at, words_in_segment, words_in_tier}
use Rattle.cm_geo.proofs.AddressOrder.{tier_behind_head}
use Rattle.cm_geo.proofs.Ranges.{chunks_whole}
use Rattle.cm_plain.specs.declared.placed.Placed.{Placed}
use Rattle.cm_plain.specs.States.{IsPlaced, IsState, State}
use Rattle.cm_plain.specs.Slots.{Slot, slot_in, slot_of_word, word_at}
use Rattle.cm_plain.specs.FoundChains.{IsZero, chain_of}
use Rattle.cm_plain.specs.Lawful.{EndsHead, HasBit, IsTaken, Resting, Represents, TierRepresents}
use Rattle.cm_plain.proofs.Chains.{IsOutside, chain_with, each_other}
use Rattle.cm_plain.proofs.OutsideHead.{resting_many, resting_represents}
use Rattle.cm_plain.proofs.States.{is_placed, place_low}
use Rattle.cm_lookup.proofs.Finding.{probe_below}
use Rattle.cm_tiers.proofs.Appending.{link_appends}
use Rattle.cm_segment.specs.PlacementBase.{with_tier}
use Rattle.cm_segment.specs.Frames.{DiffersAt}
use Rattle.cm_segment.proofs.Frames.{IsTouchedAt, bits_left, differs_none, differs_store, slot_left}
use Rattle.cm_segment.proofs.UntouchedParts.{stands_left}

-- the word of a link alone
abbrev pub OneLink : ℕ → ℕ → ℕ → Type 0
OneLink last q i = (q ≡ last) × (i ≡ 0)

pub link_touched : (geo : Geo) (last : ℕ) → IsTouchedAt geo (OneLink last) (tier_at geo last)
unfolding words_in_tier
link_touched geo last = record { place = last; offset = 0; at_is = omega arith; inside = omega arith; touches = (refl, refl) }

-- the slots of a place that is all zero are empty
pub zero_slot : (geo : Geo) (words : List ℕ) (place number : ℕ) → number < 2 * geo.chunks → IsZero geo words place → slot_in geo words place number ≡ None
unfolding slot_in slot_at words_in_tier
zero_slot geo words place number below zero =
    let e : tier_at geo place + (4 + geo.chunks / 64 + number) ≡ tier_at geo place + 4 + geo.chunks / 64 + number = omega arith in
    ap slot_of_word (subst (λ (n : ℕ). word_at words n ≡ 0) e (zero (4 + geo.chunks / 64 + number) (omega arith)))

pub zero_first : (geo : Geo) (words : List ℕ) (place : ℕ) → IsZero geo words place → word_at words (tier_at geo place + 0) ≡ 0
unfolding words_in_tier
zero_first geo words place zero = zero 0 (omega arith)

-- the words with its link
abbrev pub with_link : Geo → ℕ → ℕ → List ℕ → List ℕ
with_link geo last place start = slice_set start (tier_at geo last) place

-- where a tier is linked
pub record IsLinkable (geo : Geo) (state : State) (last place : ℕ) : Type 0 where
  pub shorter : length state.chain < geo.tiers
  pub outside : IsOutside geo state.chain place
  pub last_is : get_or state.chain (length state.chain - 1) 0 ≡ last
  pub last_in : Contains state.chain last

-- bits of a word that is 0
no_bit : (word bit : ℕ) → word ≡ 0 → IsBitSet word bit → ⊥
no_bit word bit e h = grind (arith, e, h)

zero_bits : (geo : Geo) (words : List ℕ) (place number : ℕ) → number < geo.chunks / 64 → IsZero geo words place → word_at words (bits_at geo place number) ≡ 0
unfolding bits_at words_in_tier
zero_bits geo words place number below zero =
    let e : tier_at geo place + (4 + number) ≡ tier_at geo place + 4 + number = omega arith in
    subst (λ (n : ℕ). word_at words n ≡ 0) e (zero (4 + number) (omega arith))

zero_head : (geo : Geo) (words : List ℕ) (place i : ℕ) → i < 4 → IsZero geo words place → word_at words (tier_at geo place + i) ≡ 0
unfolding words_in_tier
zero_head geo words place i below zero = zero i (omega arith)

head_left : (geo : Geo) (last : ℕ) (start words : List ℕ) (q i : ℕ) → DiffersAt geo (OneLink last) start words → 1 ≤ i → i < 4
    → word_at words (tier_at geo q + i) ≡ word_at start (tier_at geo q + i)
unfolding words_in_tier
head_left geo last start words q i left some below = left.others q i (omega arith) (λ h. omega (arith, h.1, some))

module _ (geo : Geo) (segment : ℕ) (state : State) (last place : ℕ) (start : List ℕ) (rests : Resting geo segment start state)
    (at : IsLinkable geo state last place) where
  tells : Represents geo segment start state
  tells = resting_represents geo segment start state rests

  long : length start ≡ words_in_segment geo
  long = resting_many geo segment start state rests

  left : DiffersAt geo (OneLink last) start (with_link geo last place start)
  left = differs_store geo (OneLink last) start start (tier_at geo last) place (link_touched geo last) (differs_none geo (OneLink last) start)

  not_in : (q : ℕ) → Contains state.chain q → q ≢ place
  not_in q c = All-contains (λ it. it ≢ place) state.chain q
      (All-from_recursion (λ it. it ≢ place) state.chain (each_other state.chain place at.outside.unlinked)) c

  zero : IsZero geo start place
  zero = tells.unlinked place at.outside.below (λ c. not_in place c refl)

  not_last : place ≢ last
  not_last e = not_in last at.last_in (sym e)

  zero_now : IsZero geo (with_link geo last place start) place
  zero_now offset below = left.others place offset below (λ h. not_last h.0) ∙ zero offset below

  link_zero : word_at start (tier_at geo place) ≡ 0
  link_zero = (let e : tier_at geo place + 0 ≡ tier_at geo place = omega arith in subst (λ (n : ℕ). word_at start n ≡ 0) e (zero_first geo start place zero))

  chain_is : chain_of geo (with_link geo last place start) ≡ record { places = (chain_of geo start).places ++ place ∷ []; cut = false }
  chain_is = link_appends geo start last place long tells.whole (ap (λ (c : List ℕ). get_or c (length c - 1) 0) tells.chain ∙ at.last_is)
      (subst (λ (c : List ℕ). IsOutside geo c place) (sym tells.chain) at.outside) link_zero

  slot_same : (q number : ℕ) → number < 2 * geo.chunks → slot_in geo (with_link geo last place start) q number ≡ slot_in geo start q number
  slot_same q number below = slot_left geo (OneLink last) start (with_link geo last place start) q number left below (λ h. omega (arith, h.1))

  is_with : IsState geo segment (with_tier place state)
  is_with = record {
    chain = chain_with geo state.chain place tells.is_state.chain at.shorter at.outside;
    placed = All-from_recursion (IsPlaced geo segment (state.chain ++ place ∷ [])) state.entries
        (all_in (IsPlaced geo segment (state.chain ++ place ∷ [])) state.entries (λ placed i.
        (let is = is_placed tells.is_state placed (in_to state.entries placed i) in
        record { here = is.here; chained = Contains-append_left state.chain (place ∷ []) placed.place is.chained; run = is.run })));
    runs = tells.is_state.runs;
    keys = tells.is_state.keys;
  }

  -- a tier that was there
  old_tier : (q : ℕ) → Contains state.chain q → TierRepresents geo (with_link geo last place start) (with_tier place state) q
  old_tier q c =
      let tier = All-contains (TierRepresents geo start state) state.chain q tells.tiers c in
      record {
        slots = λ number slot below e. (let of = tier.slots number slot below (sym (slot_same q number below) ∙ e) in
            record { placed = of.placed; at = record { there = of.at.there; place_is = of.at.place_is }; slot_is = of.slot_is });
        reached = λ number slot below e steps on_way none. tier.reached number slot below (sym (slot_same q number below) ∙ e) steps on_way
            (sym (slot_same q _ (probe_below geo slot.fingerprint steps)) ∙ none);
        bits = λ chunk below. bits chunk below (tier.bits chunk below)
            (bits_left geo (OneLink last) start (with_link geo last place start) q (chunk / 64) left (low chunk below (chunks_whole geo).1)
            (λ h. omega (arith, h.1)));
        count = head_left geo last start (with_link geo last place start) q 1 left (omega arith) (omega arith) ∙ tier.count;
      }
    where
      low : (chunk : ℕ) → chunk < geo.chunks → 64 * (geo.chunks / 64) ≡ geo.chunks → chunk / 64 < geo.chunks / 64
      low chunk below whole = omega arith

      bits : (chunk : ℕ) → chunk < geo.chunks → (HasBit geo start q chunk ↔ IsTaken geo state q chunk)
          → word_at (with_link geo last place start) (bits_at geo q (chunk / 64)) ≡ word_at start (bits_at geo q (chunk / 64))
          → (HasBit geo (with_link geo last place start) q chunk ↔ IsTaken geo (with_tier place state) q chunk)
      bits chunk below was same = (
        λ has. (let taken = was.0 (subst (λ (w : ℕ). IsBitSet w (chunk % 64)) same has) in
            record {
              placed = taken.placed;
              at = record { there = taken.at.there; place_is = taken.at.place_is };
              begun = taken.begun;
              not_ended = taken.not_ended;
            }),
        λ taken. subst (λ (w : ℕ). IsBitSet w (chunk % 64)) (sym same)
            (was.1 (record {
              placed = taken.placed;
              at = record { there = taken.at.there; place_is = taken.at.place_is };
              begun = taken.begun;
              not_ended = taken.not_ended;
            })),
      )

  -- no entry is in the new one
  nobody : (placed : Placed) → Contains state.entries placed → placed.place ≢ place
  nobody placed there = not_in placed.place (is_placed tells.is_state placed there).chained

  none_there : (entries : List Placed) → ((placed : Placed) → In placed entries → placed.place ≢ place)
      → length (filter (λ placed. placed.place == place) entries) ≡ 0
  none_there [] h = refl
  none_there (entry ∷ entries) h =
      (let fails : (entry.place == place) ≡ false = ne_eqb entry.place place (h entry (inl refl)) in rw fails
      (none_there entries (λ placed i. h placed (inr i))))

  new_tier : TierRepresents geo (with_link geo last place start) (with_tier place state) place
  new_tier = record {
    slots = λ number slot below e. absurd (clash slot (sym (zero_slot geo (with_link geo last place start) place number below zero_now) ∙ e));
    reached = λ number slot below e. absurd (clash slot (sym (zero_slot geo (with_link geo last place start) place number below zero_now) ∙ e));
    bits = λ chunk below. (
      λ has. absurd (no_bit _ _ (zero_bits geo (with_link geo last place start) place (chunk / 64) (low chunk below (chunks_whole geo).1) zero_now) has),
      λ taken. absurd (nobody taken.placed taken.at.there taken.at.place_is),
    );
    count = zero_head geo (with_link geo last place start) place 1 (omega arith) zero_now ∙ sym
        (none_there state.entries (λ placed i. nobody placed (in_to state.entries placed i)));
  }
    where
      clash : (slot : Slot) → None ≡ Some slot → ⊥
      clash slot e = cc e

      low : (chunk : ℕ) → chunk < geo.chunks → 64 * (geo.chunks / 64) ≡ geo.chunks → chunk / 64 < geo.chunks / 64
      low chunk below whole = omega arith

  either : (q : ℕ) → In q (state.chain ++ place ∷ []) → Contains state.chain q ⊎ (q ≡ place)
  either q i = elim (in_either state.chain (place ∷ []) q i) [
    | inl old ↦ inl (in_to state.chain q old)
    | inr new ↦ inr (one new)
  ]
    where
      one : In q (place ∷ []) → q ≡ place
      one (inl e) = e
      one (inr h) = absurd h

  pub linked_rests : Resting geo segment (with_link geo last place start) (with_tier place state)
  unfolding Resting
  linked_rests = record {
    length_is = left.length_is ∙ long;
    fourth = left.fourth ∙ rests.fourth;
    heads = All-from_recursion (EndsHead geo (with_link geo last place start)) (state.chain ++ place ∷ [])
        (all_in (EndsHead geo (with_link geo last place start)) (state.chain ++ place ∷ []) (λ q i. elim (either q i) [
          | inl old ↦ (let head = All-contains (EndsHead geo start) state.chain q rests.heads old in record {
            third = head_left geo last start (with_link geo last place start) q 2 left (omega arith) (omega arith) ∙ head.third;
            fourth = head_left geo last start (with_link geo last place start) q 3 left (omega arith) (omega arith) ∙ head.fourth;
          })
          | inr new ↦ subst (EndsHead geo (with_link geo last place start)) (sym new) (record {
            third = zero_head geo (with_link geo last place start) place 2 (omega arith) zero_now;
            fourth = zero_head geo (with_link geo last place start) place 3 (omega arith) zero_now;
          })
        ]));
    represents = record {
      is_state = is_with;
      whole = ap (λ l. l.cut) chain_is;
      chain = ap (λ l. l.places) chain_is ∙ ap (λ (c : List ℕ). c ++ place ∷ []) tells.chain;
      tiers = All-from_recursion (TierRepresents geo (with_link geo last place start) (with_tier place state)) (state.chain ++ place ∷ [])
          (all_in (TierRepresents geo (with_link geo last place start) (with_tier place state)) (state.chain ++ place ∷ []) (λ q i. elim (either q i) [
            | inl old ↦ old_tier q old
            | inr new ↦ subst (TierRepresents geo (with_link geo last place start) (with_tier place state)) (sym new) new_tier
          ]));
      stand = λ placed there. (let is = is_placed tells.is_state placed there in
          stands_left geo (OneLink last) start (with_link geo last place start) placed long (place_low tells.is_state.chain placed.place is.chained) is.run left
          (λ i of h. omega (arith, of.from, h.1)) (tells.stand placed there));
      pointed = λ placed there. (let once = tells.pointed placed there in (
        once.0,
        record { inside = once.1.inside; slot_is = slot_same placed.place once.0 once.1.inside ∙ once.1.slot_is },
        λ other points. once.2 other (record { inside = points.inside; slot_is = sym (slot_same placed.place other points.inside) ∙ points.slot_is }),
      ));
      count = get_or-set_other start (tier_at geo last) 2 place 0 (head_apart (tier_behind_head geo last)) ∙ tells.count;
      unlinked = λ q low out offset below. left.others q offset below
          (λ h. out (Contains-append_left state.chain (place ∷ []) q (subst (Contains state.chain) (sym h.0) at.last_in)))
          ∙ tells.unlinked q low (λ c. out (Contains-append_left state.chain (place ∷ []) q c)) offset below;
    };
  }
    where
      head_apart : 4 ≤ tier_at geo last → 2 ≢ tier_at geo last
      head_apart h = λ e. absurd (omega arith)
