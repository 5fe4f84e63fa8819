-- A tier of the chain has an empty slot: it has twice as many slots as chunks.
use Rattle.cm_plain.proofs.ListElements.{in_from, one_or_pair}
use Rattle.std.proofs.Common.{◌≡◌, ◌≢◌, ℕ, zero, suc, ◌*◌, ◌<◌, ◌⊎◌, List, Option, Some, None, Contains, refl, ap, sym, subst, ◌∙◌, inl, inr, arith}
use Rattle.std.proofs.lemmas.Bool.{cases_eq}
use Rattle.std.proofs.lemmas.List.Elements.{All-contains}
use Rattle.cm_geo.specs.declared.geo.Geo.{Geo}
use Rattle.cm_geo.proofs.Ranges.{chunks_range}
use Rattle.cm_plain.specs.declared.placed.Placed.{Placed}
use Rattle.cm_plain.specs.States.{State, run_start}
use Rattle.cm_plain.specs.Slots.{Slot, slot_for, slot_in}
use Rattle.cm_plain.specs.Lawful.{IsSlotOf, Resting, TierRepresents}
use Rattle.cm_plain.proofs.Apart.{IsApart, Rising, chunks_some, start_same}
use Rattle.cm_plain.proofs.DistinctNumbers.{injective_below}
use Rattle.cm_plain.proofs.States.{each_rising, is_placed}
use Rattle.cm_plain.proofs.OutsideHead.{resting_represents}
use Rattle.cm_lookup.specs.Tiers.{HasEmptySlot}

-- a slot is empty or not
none_or_some : (slot : Option Slot) → (slot ≡ None) ⊎ ((it : Slot) × (slot ≡ Some it))
none_or_some None = inl refl
none_or_some (Some it) = inr (it, refl)

-- some of the first slots is empty, or none is
some_or_all : (geo : Geo) (words : List ℕ) (place n : ℕ)
    → ((number : ℕ) × (number < n) × (slot_in geo words place number ≡ None)) ⊎
    ((number : ℕ) → number < n → (it : Slot) × (slot_in geo words place number ≡ Some it))
some_or_all geo words place zero = inr (λ number below. absurd (omega arith))
some_or_all geo words place (suc n) = elim (some_or_all geo words place n) [
  | inl found ↦ inl (found.0, next found.0 n found.1, found.2)
  | inr all ↦ elim (none_or_some (slot_in geo words place n)) [
    | inl none ↦ inl (n, here n, none)
    | inr some ↦ inr (λ number below. elim (cases_eq number n) [
      | inl same ↦ (some.0, ap (slot_in geo words place) same ∙ some.1)
      | inr differ ↦ all number (before number n below differ)
    ])
  ]
]
  where
    next : (k n : ℕ) → k < n → k < suc n
    next k n h = omega arith

    here : (n : ℕ) → n < suc n
    here n = omega arith

    before : (k n : ℕ) → k < suc n → k ≢ n → k < n
    before k n h d = omega arith

-- the chunk of a slot
chunk_in : Option Slot → ℕ
chunk_in None = 0
chunk_in (Some slot) = by slot.chunk
  where
    by : Option ℕ → ℕ
    by None = 0
    by (Some chunk) = chunk

pub has_empty : (geo : Geo) (segment : ℕ) (state : State) (words : List ℕ) (place : ℕ) → Resting geo segment words state → Contains state.chain place
    → HasEmptySlot geo words place
unfolding chunk_in
has_empty geo segment state words place rests chained = elim (some_or_all geo words place (2 * geo.chunks)) [
  | inl found ↦ found
  | inr all ↦ absurd (too_many all)
]
  where
    tier : TierRepresents geo words state place
    tier = All-contains (TierRepresents geo words state) state.chain place (resting_represents geo segment words state rests).tiers chained

    of : ((number : ℕ) → number < 2 * geo.chunks → (it : Slot) × (slot_in geo words place number ≡ Some it)) → (number : ℕ) → number < 2 * geo.chunks
        → (it : Slot) × IsSlotOf geo state place it × (slot_in geo words place number ≡ Some it)
    of all number below = (let it = all number below in (it.0, tier.slots number it.0 below it.1, it.1))

    chunk_is : (number : ℕ) (it : Slot) (o : IsSlotOf geo state place it) → slot_in geo words place number ≡ Some it
        → chunk_in (slot_in geo words place number) ≡ o.placed.chunk
    chunk_is number it o e = ap chunk_in (e ∙ ap (λ (s : Slot). Some s) o.slot_is)

    low : (placed : Placed) → Contains state.entries placed → placed.chunk < geo.chunks
    low placed there = (let run = (is_placed (resting_represents geo segment words state rests).is_state placed there).run in omega
        (arith, run.inside, chunks_some geo placed))

    same_start : (one other : Placed) → run_start geo one ≡ run_start geo other → IsApart geo one other → ⊥
    same_start one other e (inl h) = omega (arith, chunks_some geo one, e, h)
    same_start one other e (inr h) = omega (arith, chunks_some geo other, e, h)

    one_entry : (one other : Placed) → Contains state.entries one → Contains state.entries other → one.place ≡ other.place → one.chunk ≡ other.chunk
        → one ≡ other
    one_entry one other i j e f = elim
        (one_or_pair (Rising geo) state.entries one other (each_rising (resting_represents geo segment words state rests).is_state)
        (in_from state.entries one i) (in_from state.entries other j)) [
          | inl same ↦ same
          | inr apart ↦ absurd (same_start one other (start_same geo one other e f) apart)
        ]

    too_many : ((number : ℕ) → number < 2 * geo.chunks → (it : Slot) × (slot_in geo words place number ≡ Some it)) → ⊥
    too_many all =
        let fewer = injective_below (λ number. chunk_in (slot_in geo words place number)) (2 * geo.chunks) geo.chunks
        (λ k below. (let it = of all k below in subst (λ (c : ℕ). c < geo.chunks) (sym (chunk_is k it.0 it.1 it.2)) (low it.1.placed it.1.at.there)))
        (λ i j before below same.
        (let i_below = first i j (2 * geo.chunks) before below in
        let a = of all i i_below in
        let b = of all j below in
        let entries = one_entry a.1.placed b.1.placed a.1.at.there b.1.at.there (a.1.at.place_is ∙ sym b.1.at.place_is)
        (sym (chunk_is i a.0 a.1 a.2) ∙ (same ∙ chunk_is j b.0 b.1 b.2)) in
        let once = (resting_represents geo segment words state rests).pointed a.1.placed a.1.at.there in
        let here = once.2 i (record {
          inside = i_below;
          slot_is = ap (λ (p : ℕ). slot_in geo words p i) a.1.at.place_is
              ∙ (a.2 ∙ ap (λ (s : Slot). Some s) a.1.slot_is);
        }) in
        let there = once.2 j (record {
          inside = below;
          slot_is = ap (λ (p : ℕ). slot_in geo words p j) a.1.at.place_is
              ∙ (b.2 ∙ ap (λ (s : Slot). Some s) (b.1.slot_is ∙ ap (λ (p : Placed). slot_for geo p.key p.chunk) (sym entries)));
        }) in
        apart i j before (here ∙ sym there))) in
        omega (arith, fewer, chunks_range geo)
      where
        first : (i j m : ℕ) → i < j → j < m → i < m
        first i j m h k = omega arith

        apart : (i j : ℕ) → i < j → i ≡ j → ⊥
        apart i j h e = omega arith
