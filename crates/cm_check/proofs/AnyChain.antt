-- Whatever stands in the words of a segment, the chain that is found in them is one.
use Rattle.std.proofs.Common.{◌≢◌, ℕ, ◌<◌, ◌==◌, ◌||◌, List, [], ◌∷◌, ◌++◌, nat_le, refl, arith, zero, suc, inl, inr}
use Rattle.std.specs.List.{list_any}
use Rattle.std.proofs.lemmas.Bool.{cases_Bool}
use Rattle.std.proofs.lemmas.List.Elements.{All-from_recursion}
use Rattle.cm_geo.specs.declared.geo.Geo.{Geo}
use Rattle.cm_geo.specs.Addresses.{tier_at}
use Rattle.cm_geo.proofs.Ranges.{tiers_range}
use Rattle.cm_plain.specs.States.{IsChain}
use Rattle.cm_plain.specs.Slots.{word_at}
use Rattle.cm_plain.specs.FoundChains.{chain_from, chain_of}
use Rattle.cm_plain.proofs.Chains.{chain_with, leads_outside, short_beside}
use Rattle.cm_plain.proofs.Each.{all_from_pairs}
use Rattle.cm_check.specs.Places.{chain_in}

-- the chain from a place on
chain_from_is_chain : (links : ℕ) (geo : Geo) (words places : List ℕ) (place : ℕ) → IsChain geo places → IsChain geo (chain_from links geo words places place).places
chain_from_is_chain zero geo words places place is = is
chain_from_is_chain (suc links) geo words places place is =
    let next : ℕ = word_at words (tier_at geo place) in
    elim (cases_Bool (next == 0)) [
      | inl ends ↦ rw ends is
      | inr goes ↦ elim (cases_Bool (nat_le geo.tiers next || list_any (λ earlier. earlier == next) places)) [
        | inl cut ↦ rw (goes, cut) is
        | inr on ↦
            (let outside = leads_outside geo places next on in
            rw (goes, on) (chain_from_is_chain links geo words (places ++ next ∷ []) next (chain_with geo places next is (short_beside geo places next is.inside is.apart outside) outside)))
      ]
    ]

-- so the chain of any words is one
linked_chain : (geo : Geo) (words : List ℕ) → IsChain geo (chain_of geo words).places
unfolding chain_of
linked_chain geo words = chain_from_is_chain geo.tiers geo words (0 ∷ []) 0 (record {
  first = refl;
  within_limit = omega (arith, (tiers_range geo).0);
  inside = All-from_recursion (λ place. place < geo.tiers) (0 ∷ []) (omega (arith, (tiers_range geo).0), tt);
  apart = all_from_pairs (λ place other. place ≢ other) (0 ∷ []) (tt, tt);
})

pub chain_of_any : (geo : Geo) (words : List ℕ) → IsChain geo (chain_in geo words)
unfolding chain_in
chain_of_any geo words = linked_chain geo words
