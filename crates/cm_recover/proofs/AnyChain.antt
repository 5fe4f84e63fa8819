-- Whatever stands in the words of a segment, the chain that is found in them is one, and so is what the allowance leaves of it.
use Rattle.std.proofs.Common.{◌≡◌, ◌≢◌, ℕ, ◌+◌, ◌-◌, ◌<◌, ◌==◌, ◌||◌, List, [], ◌∷◌, ◌++◌, nat_le, take, Some, refl, sym, subst, arith, zero, suc, inl, inr}
use Rattle.std.specs.List.{AllByRecursion, list_any, slice_get}
use Rattle.std.proofs.lemmas.Bool.{cases_Bool}
use Rattle.std.proofs.lemmas.List.Elements.{All-from_recursion, recursion_from_All}
use Rattle.cm_geo.specs.declared.geo.Geo.{Geo}
use Rattle.cm_geo.specs.Addresses.{tier_at}
use Rattle.cm_geo.proofs.Ranges.{tiers_range}
use Rattle.cm_plain.specs.States.{IsChain}
use Rattle.cm_plain.specs.Slots.{word_at}
use Rattle.cm_plain.specs.FoundChains.{chain_of, chain_from}
use Rattle.cm_plain.proofs.Chains.{chain_with, leads_outside, short_beside}
use Rattle.cm_plain.proofs.DistinctNumbers.{distinct_below}
use Rattle.cm_plain.proofs.Each.{Pairs, all_from_pairs, pairs_from_all}
use Rattle.cm_plain.proofs.ListElements.{In}
use Rattle.cm_recover.specs.AllowedPlaces.{allowed_places, extra_before}

-- the chain from a place on
chain_from_is_chain : (links : ℕ) (geo : Geo) (words places : List ℕ) (place : ℕ) → IsChain geo places → IsChain geo (chain_from links geo words places place).places
chain_from_is_chain zero geo words places place is = is
chain_from_is_chain (suc links) geo words places place is =
    let next : ℕ = word_at words (tier_at geo place) in
    elim (cases_Bool (next == 0)) [
      | inl ends ↦ rw ends is
      | inr goes ↦ elim (cases_Bool (nat_le geo.tiers next || list_any (λ earlier. earlier == next) places)) [
        | inl cut ↦ rw (goes, cut) is
        | inr on ↦
            (let outside = leads_outside geo places next on in
            rw (goes, on) (chain_from_is_chain links geo words (places ++ next ∷ []) next (chain_with geo places next is (short_beside geo places next is.inside is.apart outside) outside)))
      ]
    ]

-- so the chain of any words is one
pub linked_chain : (geo : Geo) (words : List ℕ) → IsChain geo (chain_of geo words).places
unfolding chain_of
linked_chain geo words = chain_from_is_chain geo.tiers geo words (0 ∷ []) 0 (record {
  first = refl;
  within_limit = omega (arith, (tiers_range geo).0);
  inside = All-from_recursion (λ place. place < geo.tiers) (0 ∷ []) (omega (arith, (tiers_range geo).0), tt);
  apart = all_from_pairs (λ place other. place ≢ other) (0 ∷ []) (tt, tt);
})

-- what is taken of a list from its beginning
each_taken : {X : Type 0} (P : X → Type 0) (n : ℕ) (xs : List X) → AllByRecursion P xs → AllByRecursion P (take n xs)
each_taken P zero xs h = tt
each_taken P (suc n) [] h = tt
each_taken P (suc n) (x ∷ xs) h = (h.0, each_taken P n xs h.1)

pairs_taken : {X : Type 0} (R : X → X → Type 0) (n : ℕ) (xs : List X) → Pairs R xs → Pairs R (take n xs)
pairs_taken R zero xs h = tt
pairs_taken R (suc n) [] h = tt
pairs_taken R (suc n) (x ∷ xs) h = (each_taken (R x) n xs h.0, pairs_taken R n xs h.1)

first_taken : (n : ℕ) (chain : List ℕ) → slice_get chain 0 ≡ Some 0 → slice_get (take (suc n) chain) 0 ≡ Some 0
first_taken n [] e = cc e
first_taken n (place ∷ chain) e = e

-- the beginning of a chain is a chain
chain_taken : (geo : Geo) (n : ℕ) (chain : List ℕ) → IsChain geo chain → IsChain geo (take (suc n) chain)
chain_taken geo n chain is =
    let below = each_taken (λ place. place < geo.tiers) (suc n) chain (recursion_from_All (λ place. place < geo.tiers) chain is.inside) in
    let differ = pairs_taken (λ place other. place ≢ other) (suc n) chain (pairs_from_all (λ place other. place ≢ other) chain is.apart) in
    record {
      first = first_taken n chain is.first;
      within_limit = distinct_below (take (suc n) chain) geo.tiers below differ;
      inside = All-from_recursion (λ place. place < geo.tiers) (take (suc n) chain) below;
      apart = all_from_pairs (λ place other. place ≢ other) (take (suc n) chain) differ;
    }

pub allowed_chain : (geo : Geo) (words_of : ℕ → List ℕ) (segment : ℕ) → IsChain geo (allowed_places geo words_of segment)
unfolding allowed_places
allowed_chain geo words_of segment =
    let n : ℕ = geo.extra - extra_before geo words_of segment in
    let e : 1 + n ≡ suc n = omega arith in
    subst (λ (k : ℕ). IsChain geo (take k (chain_of geo (words_of segment)).places)) (sym e) (chain_taken geo n (chain_of geo (words_of segment)).places (linked_chain geo (words_of segment)))

-- and it is of the chain
in_taken : {X : Type 0} (n : ℕ) (xs : List X) (x : X) → In x (take n xs) → In x xs
in_taken zero xs x i = absurd i
in_taken (suc n) [] x i = absurd i
in_taken (suc n) (y ∷ xs) x (inl e) = inl e
in_taken (suc n) (y ∷ xs) x (inr i) = inr (in_taken n xs x i)

pub allowed_in : (geo : Geo) (words_of : ℕ → List ℕ) (segment place : ℕ) → In place (allowed_places geo words_of segment) → In place (chain_of geo (words_of segment)).places
unfolding allowed_places
allowed_in geo words_of segment place i = in_taken (1 + (geo.extra - extra_before geo words_of segment)) (chain_of geo (words_of segment)).places place i
