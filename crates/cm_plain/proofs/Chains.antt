-- The places outside a chain, the lowest of them, and the chain with one of them.
use Rattle.std.proofs.Common.{◌≡◌, ◌≢◌, ◌∙◌, ℕ, ◌+◌, ◌<◌, ◌≤◌, ◌==◌, ◌||◌, Bool, true, false, not, nat_le, All, List, [], ◌∷◌, ◌++◌, length, eqb, Some, refl, sym, subst, arith, zero, suc, inl, inr}
use Rattle.std.specs.List.{AllByRecursion, AllPairs, list_any, position_or_len, range_with_len, slice_get}
use Rattle.std.proofs.lemmas.Bool.{cases_Bool, cases_eq, not-false, not-true}
use Rattle.std.proofs.lemmas.Bool.Decides.{nat_tests}
use Rattle.std.proofs.lemmas.List.Elements.{All-from_recursion, All-push, recursion_from_All}
use Rattle.std.proofs.lemmas.List.Quantifiers.{all_pairs_push}
use Rattle.std.proofs.lemmas.List.{length_push}
use Rattle.std.proofs.lemmas.Map.Steps.{le-length_from_below}
use Rattle.cm_geo.specs.declared.geo.Geo.{Geo}
use Rattle.cm_plain.specs.States.{IsChain}
use Rattle.cm_plain.specs.Rooms.{is_unlinked, lowest_unlinked}
use Rattle.cm_plain.proofs.DistinctNumbers.{distinct_below}
use Rattle.cm_plain.proofs.Each.{Pairs, each_fails, each_weaker, pairs_from_all}

-- the first number of a range that passes, if one does
pub record IsFirst (test : ℕ → Bool) (low count at : ℕ) : Type 0 where
  pub passes : at < count → test (low + at) ≡ true
  pub fails : at ≡ count → (i : ℕ) → i < count → test (low + i) ≡ false
  pub within : at ≤ count

-- a test answers the same at an equal number
at_same : (test : ℕ → Bool) (low low' : ℕ) (answer : Bool) → low ≡ low' → test low' ≡ answer → test low ≡ answer
at_same test low low' answer e h = rw e h

-- where the first number fails and all behind it fail, all fail
first_fails : (test : ℕ → Bool) (low count : ℕ) → test low ≡ false → ((i : ℕ) → i < count → test (low + 1 + i) ≡ false) → (i : ℕ) → i < suc count → test (low + i) ≡ false
first_fails test low count here later zero below = at_same test (low + 0) low false (omega arith) here
first_fails test low count here later (suc i) below = at_same test (low + suc i) (low + 1 + i) false (omega arith) (later i (omega arith))

-- the first place that passes is one
pub first_in : (test : ℕ → Bool) (low count : ℕ) → IsFirst test low count (position_or_len test (range_with_len low count))
first_in test low zero = record { passes = λ h. absurd (omega arith); fails = λ e i h. absurd (omega arith); within = omega arith }
first_in test low (suc count) = elim (cases_Bool (test low)) [
  | inl here ↦
      let e : position_or_len test (range_with_len low (suc count)) ≡ 0 = rw here refl in
      subst (IsFirst test low (suc count)) (sym e) (record {
        passes = λ h. at_same test (low + 0) low true (omega arith) here;
        fails = λ same i h. absurd (omega arith);
        within = omega arith;
      })
  | inr not_here ↦
      let e : position_or_len test (range_with_len low (suc count)) ≡ 1 + position_or_len test (range_with_len (low + 1) count) = rw not_here refl in
      let later = first_in test (low + 1) count in
      let at = position_or_len test (range_with_len (low + 1) count) in
      subst (IsFirst test low (suc count)) (sym e) (record {
        passes = λ h. at_same test (low + (1 + at)) (low + 1 + at) true (omega arith) (later.passes (omega arith));
        fails = λ same. first_fails test low count not_here (later.fails (omega arith));
        within = omega (arith, later.within);
      })
]

-- where the chain is not as long as it may be, the lowest place outside it is one
pub record IsOutside (geo : Geo) (chain : List ℕ) (place : ℕ) : Type 0 where
  pub below : place < geo.tiers
  pub unlinked : is_unlinked chain place ≡ true

-- whether a place is linked, with the sides of the test turned
linked_each_way : (chain : List ℕ) (place : ℕ) → list_any (λ linked. linked == place) chain ≡ list_any (eqb place) chain
linked_each_way [] place = refl
linked_each_way (linked ∷ chain) place = let same : (linked == place) ≡ eqb place linked = grind (arith, nat_tests) in rw (same, linked_each_way chain place) refl

-- a chain that has all places is as long as there are places
all_linked : (chain : List ℕ) (most : ℕ) → ((place : ℕ) → place < most → is_unlinked chain (0 + place) ≡ false) → most ≤ length chain
all_linked chain most linked =
    le-length_from_below chain most
    (λ place below. sym (linked_each_way chain place) ∙ not-false (list_any (λ it. it == place) chain) (at_same (is_unlinked chain) place (0 + place) false (omega arith) (linked place below)))

-- the lowest place outside a chain is outside it
pub lowest_outside : (geo : Geo) (chain : List ℕ) → length chain < geo.tiers → IsOutside geo chain (lowest_unlinked geo chain)
lowest_outside geo chain short =
    let first = first_in (is_unlinked chain) 0 geo.tiers in
    elim (cases_eq (lowest_unlinked geo chain) geo.tiers) [
      | inl none ↦ absurd (omega (arith, all_linked chain geo.tiers (first.fails none)))
      | inr nonzero ↦
          let below : lowest_unlinked geo chain < geo.tiers = omega (arith, first.within) in
          record { below = below; unlinked = at_same (is_unlinked chain) (lowest_unlinked geo chain) (0 + lowest_unlinked geo chain) true (omega arith) (first.passes below) }
    ]

-- no linked place is one outside the chain
pub each_other : (chain : List ℕ) (place : ℕ) → is_unlinked chain place ≡ true → AllByRecursion (λ linked. linked ≢ place) chain
each_other chain place e =
    each_weaker (λ linked. (linked == place) ≡ false) (λ linked. linked ≢ place) (λ linked no. grind (arith, nat_tests)) chain
    (each_fails (λ linked. linked == place) chain (not-true (list_any (λ linked. linked == place) chain) e))

-- a longer chain begins as before
first_stays : (chain : List ℕ) (place : ℕ) → slice_get chain 0 ≡ Some 0 → slice_get (chain ++ place ∷ []) 0 ≡ Some 0
first_stays [] place e = cc e
first_stays (linked ∷ chain) place e = e

-- a chain with a tier at a place outside it
pub chain_with : (geo : Geo) (chain : List ℕ) (place : ℕ) → IsChain geo chain → length chain < geo.tiers → IsOutside geo chain place → IsChain geo (chain ++ place ∷ [])
chain_with geo chain place is short outside = record {
  first = first_stays chain place is.first;
  within_limit = omega (arith, length_push chain place);
  inside = All-push (λ it. it < geo.tiers) chain place is.inside outside.below;
  apart = all_pairs_push (λ it other. it ≢ other) chain place is.apart (All-from_recursion (λ it. it ≢ place) chain (each_other chain place outside.unlinked));
}

-- a chain with a place outside it is short enough to be longer
pub short_beside : (geo : Geo) (places : List ℕ) (place : ℕ) → All (λ it. it < geo.tiers) places → AllPairs (λ it other. it ≢ other) places → IsOutside geo places place → length places < geo.tiers
short_beside geo places place inside apart outside =
    let below : AllByRecursion (λ it. it < geo.tiers) (place ∷ places) = (outside.below, recursion_from_All (λ it. it < geo.tiers) places inside) in
    let others : AllByRecursion (λ it. place ≢ it) places = each_weaker (λ it. it ≢ place) (λ it. place ≢ it) (λ it ne same. ne (sym same)) places (each_other places place outside.unlinked) in
    let differ : Pairs (λ x y. x ≢ y) (place ∷ places) = (others, pairs_from_all (λ x y. x ≢ y) places apart) in
    one_less (length places) geo.tiers (distinct_below (place ∷ places) geo.tiers below differ)
  where
    one_less : (n most : ℕ) → suc n ≤ most → n < most
    one_less n most h = omega arith

-- a link that leads somewhere leads to a place outside those that came before
pub leads_outside : (geo : Geo) (places : List ℕ) (link : ℕ) → (nat_le geo.tiers link || list_any (λ earlier. earlier == link) places) ≡ false → IsOutside geo places link
leads_outside geo places link e = record { below = low geo.tiers link (list_any (λ earlier. earlier == link) places) e; unlinked = out (nat_le geo.tiers link) (list_any (λ earlier. earlier == link) places) e }
  where
    low : (tiers link : ℕ) (met : Bool) → (nat_le tiers link || met) ≡ false → link < tiers
    low tiers link met e = elim (cases_Bool (nat_le tiers link)) [
      | inl above ↦ (let h = rw above at e in cc h)
      | inr below ↦ grind (arith, nat_tests)
    ]

    out : (above met : Bool) → (above || met) ≡ false → not met ≡ true
    out true met e = cc e
    out false true e = cc e
    out false false e = refl

-- and one to a place outside is such a link
pub outside_leads : (geo : Geo) (places : List ℕ) (link : ℕ) → IsOutside geo places link → (nat_le geo.tiers link || list_any (λ earlier. earlier == link) places) ≡ false
outside_leads geo places link outside = both (nat_le geo.tiers link) (list_any (λ earlier. earlier == link) places) (low geo.tiers link outside.below) outside.unlinked
  where
    low : (tiers link : ℕ) → link < tiers → nat_le tiers link ≡ false
    low tiers link h = grind (arith, nat_tests)

    both : (above met : Bool) → above ≡ false → not met ≡ true → (above || met) ≡ false
    both true met e f = e
    both false true e f = cc f
    both false false e f = refl
