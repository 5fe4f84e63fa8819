-- One link more of a chain: it ends, it is cut, or it goes on.
use Rattle.std.proofs.Common.{◌≡◌, ◌≢◌, ℕ, ◌<◌, ◌==◌, ◌||◌, true, false, List, [], ◌∷◌, ◌++◌, nat_le, arith, refl, suc}
use Rattle.std.specs.List.{list_any}
use Rattle.std.proofs.lemmas.Bool.Decides.{nat_tests}
use Rattle.std.proofs.lemmas.List.Elements.{All-from_recursion}
use Rattle.cm_geo.specs.declared.geo.Geo.{Geo}
use Rattle.cm_geo.specs.Addresses.{tier_at}
use Rattle.cm_geo.proofs.Ranges.{tiers_range}
use Rattle.cm_plain.specs.States.{IsChain}
use Rattle.cm_plain.specs.Slots.{word_at}
use Rattle.cm_plain.specs.FoundChains.{chain_from}
use Rattle.cm_plain.proofs.Each.{all_from_pairs}

some_link : (link : ℕ) → link ≢ 0 → (link == 0) ≡ false
some_link link nonzero = grind (arith, nat_tests)

pub ends : (links : ℕ) (geo : Geo) (words places : List ℕ) (place : ℕ) → word_at words (tier_at geo place) ≡ 0 → chain_from (suc links) geo words places place ≡ record { places = places; cut = false }
ends links geo words places place none = rw none refl

pub is_cut : (links : ℕ) (geo : Geo) (words places : List ℕ) (place link : ℕ) → word_at words (tier_at geo place) ≡ link → link ≢ 0 → (nat_le geo.tiers link || list_any (λ earlier. earlier == link) places) ≡ true
    → chain_from (suc links) geo words places place ≡ record { places = places; cut = true }
is_cut links geo words places place link is nonzero nowhere = let fuse = some_link link nonzero in rw (is, fuse, nowhere) refl

pub goes_on : (links : ℕ) (geo : Geo) (words places : List ℕ) (place link : ℕ) → word_at words (tier_at geo place) ≡ link → link ≢ 0 → (nat_le geo.tiers link || list_any (λ earlier. earlier == link) places) ≡ false
    → chain_from (suc links) geo words places place ≡ chain_from links geo words (places ++ link ∷ []) link
goes_on links geo words places place link is nonzero somewhere = let fuse = some_link link nonzero in rw (is, fuse, somewhere) refl

-- place 0 alone is a chain
pub first_place : (geo : Geo) → IsChain geo (0 ∷ [])
first_place geo = record {
  first = refl;
  within_limit = omega (arith, (tiers_range geo).0);
  inside = All-from_recursion (λ place. place < geo.tiers) (0 ∷ []) (omega (arith, (tiers_range geo).0), tt);
  apart = all_from_pairs (λ place other. place ≢ other) (0 ∷ []) (tt, tt);
}
