-- How far the links of a segment were followed over a memory.
use Rattle.std.proofs.Common.{◌≡◌, ◌≢◌, ℕ, ◌+◌, ◌-◌, ◌<◌, ◌≤◌, ◌==◌, ◌||◌, true, false, All, List, [], ◌∷◌, ◌++◌, take, drop, length, get_or, set, nat_le, arith, refl, sym, ap, subst, ◌∙◌, suc, drop-cons, length-set}
use Rattle.std.specs.List.{list_any}
use Rattle.std.proofs.lemmas.List.{drop-set-lt, length-take-le, take_more_set}
use Rattle.std.proofs.lemmas.List.Elements.{All-from_recursion, All-tail}
use Rattle.cm_geo.specs.declared.geo.Geo.{Geo}
use Rattle.cm_geo.specs.Addresses.{tier_at}
use Rattle.cm_geo.proofs.Ranges.{tiers_range}
use Rattle.cm_plain.specs.States.{IsChain}
use Rattle.cm_plain.specs.FoundChains.{chain_of, chain_from}
use Rattle.cm_plain.proofs.Chains.{IsOutside, chain_with, leads_outside, short_beside}
use Rattle.cm_words.specs.Memory.{FitsNotes, MemSeen}
use Rattle.cm_words.specs.Effects.{Reads, Knows}
use Rattle.cm_words.proofs.FittingLists.{known_word}
use Rattle.cm_tiers.proofs.Inner.{link_inner}
use Rattle.cm_tiers.proofs.ChainSteps.{ends, first_place, goes_on, is_cut}

-- these places were found, in eight words of which the rest is 0
pub record Found (geo : Geo) (places : List ℕ) (len : ℕ) : Type 0 where
  pub long : length places ≡ 8
  pub nonzero : 1 ≤ len
  pub within_limit : len ≤ geo.tiers
  pub is_chain : IsChain geo (take len places)
  pub rest : All (λ it. it ≡ 0) (drop len places)

-- the chain of each list that fits goes on from a place behind them
pub record Followed (m : MemSeen) (geo : Geo) (places : List ℕ) (len place : ℕ) : Type 0 where
  pub found : Found geo places len
  pub inside : place < geo.tiers
  pub led : (words : List ℕ) → FitsNotes m words → chain_of geo words ≡ chain_from (geo.tiers + 1 - len) geo words (take len places) place

-- there is a link to be followed
pub one_more : (geo : Geo) (words places : List ℕ) (len place : ℕ) → len ≤ geo.tiers → chain_from (geo.tiers + 1 - len) geo words places place ≡ chain_from (suc (geo.tiers - len)) geo words places place
one_more geo words places len place within_limit = let e : geo.tiers + 1 - len ≡ suc (geo.tiers - len) = omega arith in ap (λ (n : ℕ). chain_from n geo words places place) e

pub found_end : (a b : MemSeen) (geo : Geo) (places : List ℕ) (len place at link : ℕ) → Followed a geo places len place → Reads a b → at ≡ tier_at geo place → Knows b at link → link ≡ 0
    → (words : List ℕ) → FitsNotes b words → chain_of geo words ≡ record { places = take len places; cut = false }
found_end a b geo places len place at link so_far reads at_is knows none words fits =
    so_far.led words (reads.fits words fits) ∙ (one_more geo words (take len places) len place so_far.found.within_limit
    ∙ ends (geo.tiers - len) geo words (take len places) place (known_word b (tier_at geo place) at link (link_inner geo place) at_is knows words fits ∙ none))

pub found_cut : (a b : MemSeen) (geo : Geo) (places : List ℕ) (len place at link : ℕ) → Followed a geo places len place → Reads a b → at ≡ tier_at geo place → Knows b at link → link ≢ 0
    → (nat_le geo.tiers link || list_any (λ earlier. earlier == link) (take len places)) ≡ true
    → (words : List ℕ) → FitsNotes b words → chain_of geo words ≡ record { places = take len places; cut = true }
found_cut a b geo places len place at link so_far reads at_is knows nonzero nowhere words fits =
    so_far.led words (reads.fits words fits) ∙ (one_more geo words (take len places) len place so_far.found.within_limit
    ∙ is_cut (geo.tiers - len) geo words (take len places) place link (known_word b (tier_at geo place) at link (link_inner geo place) at_is knows words fits) nonzero nowhere)

-- a link that leads somewhere finds room among the eight words
pub has_room : (geo : Geo) (places : List ℕ) (len link : ℕ) → Found geo places len → (nat_le geo.tiers link || list_any (λ earlier. earlier == link) (take len places)) ≡ false → len < geo.tiers
has_room geo places len link found somewhere =
    let short = short_beside geo (take len places) link found.is_chain.inside found.is_chain.apart (leads_outside geo (take len places) link somewhere) in
    let as_many : length (take len places) ≡ len = length-take-le len places (omega (arith, found.long, found.within_limit, (tiers_range geo).1)) in
    omega arith

-- one place more
pub found_more : (geo : Geo) (places : List ℕ) (len link : ℕ) → Found geo places len → len < geo.tiers → IsOutside geo (take len places) link → take (len + 1) (set places len link) ≡ take len places ++ link ∷ []
    → Found geo (set places len link) (len + 1)
found_more geo places len link found room outside taken =
    let low : len < length places = omega (arith, found.long, (tiers_range geo).1) in
    let as_many : length (take len places) ≡ len = length-take-le len places (omega arith) in
    let next : len + 1 ≡ suc len = omega arith in
    record {
      long = length-set places len link ∙ found.long;
      nonzero = omega arith;
      within_limit = omega arith;
      is_chain = subst (IsChain geo) (sym taken) (chain_with geo (take len places) link found.is_chain (omega arith) outside);
      rest = subst (All (λ it. it ≡ 0)) (ap (λ (n : ℕ). drop n places) (sym next) ∙ sym (drop-set-lt (len + 1) places len link (omega arith)))
          (All-tail (λ it. it ≡ 0) (get_or places len 0) (drop (suc len) places) (subst (All (λ it. it ≡ 0)) (drop-cons places len 0 low) found.rest));
    }

pub follows_on : (a b : MemSeen) (geo : Geo) (places : List ℕ) (len place at link : ℕ) → Followed a geo places len place → Reads a b → at ≡ tier_at geo place → Knows b at link → link ≢ 0
    → (nat_le geo.tiers link || list_any (λ earlier. earlier == link) (take len places)) ≡ false → Followed b geo (set places len link) (len + 1) link
follows_on a b geo places len place at link so_far reads at_is knows nonzero somewhere =
    let room = has_room geo places len link so_far.found somewhere in
    let outside = leads_outside geo (take len places) link somewhere in
    let low : len < length places = omega (arith, so_far.found.long, (tiers_range geo).1) in
    let taken : take (len + 1) (set places len link) ≡ take len places ++ link ∷ [] = take_more_set places len link low in
    let left : geo.tiers - len ≡ geo.tiers + 1 - (len + 1) = omega arith in
    record {
      found = found_more geo places len link so_far.found room outside taken;
      inside = outside.below;
      led = λ words fits.
          so_far.led words (reads.fits words fits) ∙ (one_more geo words (take len places) len place so_far.found.within_limit
          ∙ (goes_on (geo.tiers - len) geo words (take len places) place link (known_word b (tier_at geo place) at link (link_inner geo place) at_is knows words fits) nonzero somewhere
          ∙ (ap (λ (n : ℕ). chain_from n geo words (take len places ++ link ∷ []) link) left
          ∙ ap (λ (ps : List ℕ). chain_from (geo.tiers + 1 - (len + 1)) geo words ps link) (sym taken))));
    }

-- place 0 alone
pub followed_none : (m : MemSeen) (geo : Geo) → Followed m geo (0 ∷ 0 ∷ 0 ∷ 0 ∷ 0 ∷ 0 ∷ 0 ∷ 0 ∷ []) 1 0
unfolding chain_of
followed_none m geo = record {
  found = record {
    long = refl;
    nonzero = omega arith;
    within_limit = omega (arith, (tiers_range geo).0);
    is_chain = first_place geo;
    rest = All-from_recursion (λ it. it ≡ 0) (0 ∷ 0 ∷ 0 ∷ 0 ∷ 0 ∷ 0 ∷ 0 ∷ []) (refl, (refl, (refl, (refl, (refl, (refl, (refl, tt)))))));
  };
  inside = omega (arith, (tiers_range geo).0);
  led = λ words fits. (let e : geo.tiers ≡ geo.tiers + 1 - 1 = omega arith in ap (λ (n : ℕ). chain_from n geo words (0 ∷ []) 0) e);
}
