-- What the laws on single words say, both ways.
use Rattle.std.proofs.Common.{◌≡◌, ◌≢◌, ℕ, ◌+◌, ◌-◌, ◌*◌, ◌/◌, ◌%◌, ◌^◌, ◌<◌, ◌≤◌, ◌==◌, not, Bool, true, false, List, [], ◌∷◌, All, Contains, refl, ap, ◌∙◌, arith, inl, inr}
use Rattle.std.specs.List.{range_with_len}
use Rattle.std.proofs.lemmas.Bool.Decides.{eqb_tells, nat_tests}
use Rattle.std.proofs.lemmas.List.Elements.{All-contains, All-from_recursion}
use Rattle.cm_geo.specs.declared.geo.Geo.{Geo}
use Rattle.cm_geo.specs.Addresses.{tier_at, words_in_tier}
use Rattle.cm_plain.specs.Slots.{word_at}
use Rattle.cm_plain.specs.Steps.{last_number}
use Rattle.cm_plain.specs.FoundChains.{IsZero, chain_of}
use Rattle.cm_plain.specs.Lawful.{EndsHead}
use Rattle.cm_plain.proofs.ListElements.{In, all_in, in_kept_from, in_kept_to, in_range, in_to, range_from}
use Rattle.cm_check.specs.HeadLaws.{chain_broken, header_broken, is_quiet_number, last_place, lock_broken, nonzero_in, number_broken, reserved_broken, reserved_in, unlinked_broken, where_nonzero}
use Rattle.cm_check.specs.Places.{chain_in, is_linked, linked_places, unlinked_places}
use Rattle.cm_check.proofs.FirstFound.{filter_none, joined_none, none_joined, none_passes, passes}
use Rattle.cm_check.proofs.LawsKept.{linked_in, place_linked, same_number}
use Rattle.cm_check.proofs.LinkedPlaces.{linked_not, not_there}

-- words that aren't 0
zero_test : (word : ℕ) → word ≡ 0 → not (word == 0) ≡ false
zero_test word e = rw e refl

pub zero_at : (words addresses : List ℕ) (at : ℕ) → where_nonzero words addresses ≡ [] → In at addresses → word_at words at ≡ 0
zero_at words addresses at none i = same_number (word_at words at) 0 (none_passes (λ at. not (word_at words at == 0)) addresses at none i)

pub all_zero : (words addresses : List ℕ) → ((at : ℕ) → In at addresses → word_at words at ≡ 0) → where_nonzero words addresses ≡ []
all_zero words addresses zeros = filter_none (λ at. not (word_at words at == 0)) addresses (λ at i. zero_test (word_at words at) (zeros at i))

-- the lock word and the fourth word
pub lock_kept : (words : List ℕ) → lock_broken words ≡ [] → word_at words 0 ≡ 0
unfolding lock_broken
lock_kept words none = zero_at words (0 ∷ []) 0 none (inl refl)

pub lock_none : (words : List ℕ) → word_at words 0 ≡ 0 → lock_broken words ≡ []
unfolding lock_broken
lock_none words e = all_zero words (0 ∷ []) (λ at i. only at i)
  where
    only : (at : ℕ) → In at (0 ∷ []) → word_at words at ≡ 0
    only at (inl same) = ap (word_at words) same ∙ e
    only at (inr i) = absurd i

pub header_kept : (words : List ℕ) → header_broken words ≡ [] → word_at words 3 ≡ 0
unfolding header_broken
header_kept words none = zero_at words (3 ∷ []) 3 none (inl refl)

pub header_none : (words : List ℕ) → word_at words 3 ≡ 0 → header_broken words ≡ []
unfolding header_broken
header_none words e = all_zero words (3 ∷ []) (λ at i. only at i)
  where
    only : (at : ℕ) → In at (3 ∷ []) → word_at words at ≡ 0
    only at (inl same) = ap (word_at words) same ∙ e
    only at (inr i) = absurd i

-- the change number
pub number_kept : (words : List ℕ) → number_broken words ≡ [] → (number : ℕ) × (word_at words 1 ≡ 2 * number) × (number ≤ last_number)
unfolding number_broken
number_kept words none = by (word_at words 1) (none_passes (λ at. not (is_quiet_number (word_at words at))) (1 ∷ []) 1 none (inl refl))
  where
    by : (word : ℕ) → not (is_quiet_number word) ≡ false → (number : ℕ) × (word ≡ 2 * number) × (number ≤ last_number)
    by word e =
        let even : word % 2 ≡ 0 = grind (arith, nat_tests) in
        let short : word ≤ 2 ^ 63 = grind (arith, nat_tests) in
        (word / 2, omega (arith, even), omega (arith, short))

pub number_none : (words : List ℕ) (number : ℕ) → word_at words 1 ≡ 2 * number → number ≤ last_number → number_broken words ≡ []
unfolding number_broken
number_none words number e short = filter_none (λ at. not (is_quiet_number (word_at words at))) (1 ∷ []) (λ at i. only at i)
  where
    quiet : (word : ℕ) → word % 2 ≡ 0 → word ≤ 2 ^ 63 → not (is_quiet_number word) ≡ false
    quiet word h k = grind (arith, nat_tests)

    only : (at : ℕ) → In at (1 ∷ []) → not (is_quiet_number (word_at words at)) ≡ false
    only at (inl same) = ap (λ (n : ℕ). not (is_quiet_number (word_at words n))) same ∙ quiet (word_at words 1) (omega (arith, e)) (omega (arith, e, short))
    only at (inr i) = absurd i

-- the chain
pub chain_kept : (geo : Geo) (words : List ℕ) → chain_broken geo words ≡ [] → (chain_of geo words).cut ≡ false
unfolding chain_broken
chain_kept geo words none = none_passes (λ at. (chain_of geo words).cut) (tier_at geo (last_place (chain_in geo words)) ∷ []) (tier_at geo (last_place (chain_in geo words))) none (inl refl)

pub chain_none : (geo : Geo) (words : List ℕ) → (chain_of geo words).cut ≡ false → chain_broken geo words ≡ []
unfolding chain_broken
chain_none geo words e = filter_none (λ at. (chain_of geo words).cut) (tier_at geo (last_place (chain_in geo words)) ∷ []) (λ at i. e)

-- the reserved words
pub reserved_kept : (geo : Geo) (words : List ℕ) → reserved_broken geo words ≡ [] → All (EndsHead geo words) (chain_in geo words)
unfolding reserved_broken
reserved_kept geo words none = All-from_recursion (EndsHead geo words) (chain_in geo words) (all_in (EndsHead geo words) (chain_in geo words) (λ place i.
    (let here = none_joined (reserved_in geo words) (linked_places geo words) place none (place_linked geo words place (in_to (chain_in geo words) place i)) in
    let at : (k : ℕ) → k < 2 → word_at words (tier_at geo place + 2 + k) ≡ 0 = λ k below. zero_at words (range_with_len (tier_at geo place + 2) 2) (tier_at geo place + 2 + k) here (in_range (tier_at geo place + 2) 2 (tier_at geo place + 2 + k) (omega arith) (omega arith)) in
    record { third = ap (word_at words) (omega arith) ∙ at 0 (omega arith); fourth = ap (word_at words) (omega arith) ∙ at 1 (omega arith) })))

pub reserved_none : (geo : Geo) (words : List ℕ) → All (EndsHead geo words) (chain_in geo words) → reserved_broken geo words ≡ []
unfolding reserved_broken
reserved_none geo words ends = joined_none (reserved_in geo words) (linked_places geo words) (λ place i.
    (let head = All-contains (EndsHead geo words) (chain_in geo words) place ends (linked_in geo words place i) in
    all_zero words (range_with_len (tier_at geo place + 2) 2) (λ at j. (let inside = range_from (tier_at geo place + 2) 2 at j in by place head at inside.0 inside.1))))
  where
    by : (place : ℕ) → EndsHead geo words place → (at : ℕ) → tier_at geo place + 2 ≤ at → at < tier_at geo place + 2 + 2 → word_at words at ≡ 0
    by place head at low high = elim (eqb_tells at (tier_at geo place + 2)) [
      | inl same ↦ ap (word_at words) same.1 ∙ head.third
      | inr differ ↦ (let ne : at ≢ tier_at geo place + 2 = differ.1 in let e : at ≡ tier_at geo place + 3 = omega (arith, ne) in ap (word_at words) e ∙ head.fourth)
    ]

-- the places outside the chain
pub unlinked_kept : (geo : Geo) (words : List ℕ) → unlinked_broken geo words ≡ [] → (place : ℕ) → place < geo.tiers → (Contains (chain_in geo words) place → ⊥) → IsZero geo words place
unfolding unlinked_broken
unlinked_kept geo words none place low outside offset below =
    let free : not (is_linked (chain_in geo words) place) ≡ true = rw (linked_not (chain_in geo words) place outside) refl in
    let here = none_joined (nonzero_in geo words) (unlinked_places geo words) place none (in_kept_to (λ place. not (is_linked (chain_in geo words) place)) (range_with_len 0 geo.tiers) place (in_range 0 geo.tiers place (omega arith) (omega arith)) free) in
    zero_at words (range_with_len (tier_at geo place) (words_in_tier geo)) (tier_at geo place + offset) here (in_range (tier_at geo place) (words_in_tier geo) (tier_at geo place + offset) (omega arith) (omega (arith, below)))

pub unlinked_none : (geo : Geo) (words : List ℕ) → ((place : ℕ) → place < geo.tiers → (Contains (chain_in geo words) place → ⊥) → IsZero geo words place) → unlinked_broken geo words ≡ []
unfolding unlinked_broken
unlinked_none geo words zeros = joined_none (nonzero_in geo words) (unlinked_places geo words) (λ place i.
    (let test : ℕ → Bool = λ place. not (is_linked (chain_in geo words) place) in
    let low = range_from 0 geo.tiers place (in_kept_from test (range_with_len 0 geo.tiers) place i) in
    let free = passes test (range_with_len 0 geo.tiers) place i in
    let zero = zeros place (omega (arith, low.1)) (not_there (chain_in geo words) place free) in
    all_zero words (range_with_len (tier_at geo place) (words_in_tier geo)) (λ at j. (let inside = range_from (tier_at geo place) (words_in_tier geo) at j in
    let e : at ≡ tier_at geo place + (at - tier_at geo place) = omega (arith, inside.0) in ap (word_at words) e ∙ zero (at - tier_at geo place) (omega (arith, inside.0, inside.1))))))
