-- What a store of a link does to the chain.
use Rattle.std.proofs.Common.{◌≡◌, ◌≢◌, ℕ, ◌+◌, ◌-◌, ◌<◌, ◌≤◌, ◌==◌, ◌||◌, true, false, List, [], ◌∷◌, ◌++◌, length, get_or, slice_set, nat_le, arith, refl, sym, ap, subst, ◌∙◌, zero, suc, inl, inr, Some, get_or-set_same, get_or-take}
use Rattle.std.specs.List.{list_any, slice_get}
use Rattle.std.proofs.lemmas.Bool.{cases_Bool, cases_eq}
use Rattle.std.proofs.lemmas.List.{get_or_push, length-take-le, length_push}
use Rattle.std.proofs.lemmas.List.Elements.{All-from_recursion}
use Rattle.cm_geo.specs.declared.geo.Geo.{Geo}
use Rattle.cm_geo.specs.Addresses.{tier_at, words_in_segment, words_in_tier}
use Rattle.cm_geo.proofs.AddressOrder.{tier_head_in_range}
use Rattle.cm_geo.proofs.Unchanged.{offset_kept}
use Rattle.cm_geo.proofs.Ranges.{tiers_range}
use Rattle.cm_plain.specs.States.{IsChain}
use Rattle.cm_plain.specs.Slots.{word_at}
use Rattle.cm_plain.specs.Rooms.{is_unlinked}
use Rattle.cm_plain.specs.FoundChains.{FoundChain, chain_of, chain_from}
use Rattle.cm_plain.proofs.Chains.{IsOutside, chain_with, each_other, leads_outside, outside_leads, short_beside}
use Rattle.cm_tiers.specs.declared.places.Chain.{Chain}
use Rattle.cm_tiers.specs.Chains.{IsLinked, IsRead, places_of}
use Rattle.cm_tiers.proofs.ChainSteps.{ends, first_place, goes_on, is_cut}

-- ---- the words after the store

link_set : (geo : Geo) (words : List ℕ) (last place : ℕ) → length words ≡ words_in_segment geo → last < geo.tiers → word_at (slice_set words (tier_at geo last) place) (tier_at geo last) ≡ place
link_set geo words last place length_is below = get_or-set_same words (tier_at geo last) place 0 (omega (arith, length_is, tier_head_in_range geo last 0 below (omega arith)))

-- the links of the other tiers are left
pub link_kept : (geo : Geo) (words : List ℕ) (last place other : ℕ) → other ≢ last → word_at (slice_set words (tier_at geo last) place) (tier_at geo other) ≡ word_at words (tier_at geo other)
unfolding words_in_tier
link_kept geo words last place other differ = offset_kept geo words last other 0 0 (tier_at geo last) (tier_at geo other) place (omega arith) (omega arith) (omega arith) (omega arith) (λ e. absurd (differ e))

-- ---- on from a place

-- these places were found, the last of them is this one, and so many links may be followed
record IsOnWay (geo : Geo) (places : List ℕ) (links place : ℕ) : Type 0 where
  is_chain : IsChain geo places
  fuel : length places + links ≡ geo.tiers + 1
  last_is : get_or places (length places - 1) 0 ≡ place
  inside : place < geo.tiers

one_further : (geo : Geo) (places : List ℕ) (links place next : ℕ) → IsOnWay geo places (suc links) place → IsOutside geo places next → IsOnWay geo (places ++ next ∷ []) links next
one_further geo places links place next way outside =
    let short = short_beside geo places next way.is_chain.inside way.is_chain.apart outside in
    record {
      is_chain = chain_with geo places next way.is_chain short outside;
      fuel = omega (arith, way.fuel, length_push places next);
      last_is = get_or_push places next 0 (length (places ++ next ∷ []) - 1) (omega (arith, length_push places next));
      inside = outside.below;
    }

never : (geo : Geo) (places : List ℕ) (place : ℕ) → IsOnWay geo places zero place → ⊥
never geo places place way = omega (arith, way.fuel, way.is_chain.within_limit)

-- a chain that isn't cut ends at a link of 0
last_is_zero : (links : ℕ) (geo : Geo) (words places : List ℕ) (place last : ℕ) (r : FoundChain) → IsOnWay geo places links place → chain_from links geo words places place ≡ r → r.cut ≡ false
    → get_or r.places (length r.places - 1) 0 ≡ last → word_at words (tier_at geo last) ≡ 0
last_is_zero zero geo words places place last r way is whole last_is = absurd (never geo places place way)
last_is_zero (suc links) geo words places place last r way is whole last_is =
    let next : ℕ = word_at words (tier_at geo place) in
    elim (cases_eq next 0) [
      | inl none ↦
          let e : r.places ≡ places = ap (λ (l : FoundChain). l.places) (sym is ∙ ends links geo words places place none) in
          let same : place ≡ last = sym way.last_is ∙ (ap (λ (ps : List ℕ). get_or ps (length ps - 1) 0) (sym e) ∙ last_is) in
          ap (λ (p : ℕ). word_at words (tier_at geo p)) (sym same) ∙ none
      | inr nonzero ↦ elim (cases_Bool (nat_le geo.tiers next || list_any (λ earlier. earlier == next) places)) [
        | inl nowhere ↦
            let e : true ≡ r.cut = ap (λ (l : FoundChain). l.cut) (sym (is_cut links geo words places place next refl nonzero nowhere) ∙ is) in
            let no : true ≡ false = e ∙ whole in
            cc no
        | inr somewhere ↦
            last_is_zero links geo words (places ++ next ∷ []) next last r (one_further geo places links place next way (leads_outside geo places next somewhere))
            (sym (goes_on links geo words places place next refl nonzero somewhere) ∙ is) whole last_is
      ]
    ]

-- no place outside a chain is 0
not_first : (places : List ℕ) (place : ℕ) → slice_get places 0 ≡ Some 0 → is_unlinked places place ≡ true → place ≢ 0
not_first [] place first out same = cc first
not_first (chain_of ∷ places) place first out same = let here : chain_of ≡ 0 = cc in (each_other (chain_of ∷ places) place out).0 (here ∙ sym same)

-- the chain goes on to the new tier, and ends there
goes_to : (links : ℕ) (geo : Geo) (words places : List ℕ) (last place : ℕ) → length words ≡ words_in_segment geo → IsOnWay geo places (suc links) last → IsOutside geo places place → word_at words (tier_at geo place) ≡ 0
    → chain_from (suc links) geo (slice_set words (tier_at geo last) place) places last ≡ record { places = places ++ place ∷ []; cut = false }
goes_to zero geo words places last place length_is way outside none = absurd (never geo (places ++ place ∷ []) place (one_further geo places zero last place way outside))
goes_to (suc links) geo words places last place length_is way outside none =
    let nonzero = not_first places place way.is_chain.first outside.unlinked in
    let here = link_set geo words last place length_is way.inside in
    let other : place ≢ last = λ same. apart (length places) (short_of geo places links last way) (sym same) in
    goes_on (suc links) geo (slice_set words (tier_at geo last) place) places last place here nonzero (outside_leads geo places place outside)
    ∙ ends links geo (slice_set words (tier_at geo last) place) (places ++ place ∷ []) place (link_kept geo words last place place other ∙ none)
  where
    short_of : (geo : Geo) (places : List ℕ) (links last : ℕ) → IsOnWay geo places (suc (suc links)) last → length places - 1 < length places
    short_of geo places links last way = some_places places way.is_chain.first
      where
        some_places : (places : List ℕ) → slice_get places 0 ≡ Some 0 → length places - 1 < length places
        some_places [] e = cc e
        some_places (it ∷ places) e = omega arith

    apart : (n : ℕ) → length places - 1 < length places → last ≢ place
    apart n low same = All-from_recursion (λ it. it ≢ place) places (each_other places place outside.unlinked) (length places - 1) 0 low (way.last_is ∙ same)

appends : (links : ℕ) (geo : Geo) (words places : List ℕ) (at last place : ℕ) (r : FoundChain) → length words ≡ words_in_segment geo → IsOnWay geo places links at → chain_from links geo words places at ≡ r → r.cut ≡ false
    → get_or r.places (length r.places - 1) 0 ≡ last → word_at words (tier_at geo last) ≡ 0 → IsOutside geo r.places place → word_at words (tier_at geo place) ≡ 0
    → chain_from links geo (slice_set words (tier_at geo last) place) places at ≡ record { places = r.places ++ place ∷ []; cut = false }
appends zero geo words places at last place r length_is way is whole last_is ended outside none = absurd (never geo places at way)
appends (suc links) geo words places at last place r length_is way is whole last_is ended outside none =
    let next : ℕ = word_at words (tier_at geo at) in
    elim (cases_eq next 0) [
      | inl stops ↦
          let e : r.places ≡ places = ap (λ (l : FoundChain). l.places) (sym is ∙ ends links geo words places at stops) in
          let same : at ≡ last = sym way.last_is ∙ (ap (λ (ps : List ℕ). get_or ps (length ps - 1) 0) (sym e) ∙ last_is) in
          subst (λ (p : ℕ). chain_from (suc links) geo (slice_set words (tier_at geo p) place) places at ≡ record { places = r.places ++ place ∷ []; cut = false }) same
          (goes_to links geo words places at place length_is way (subst (λ (ps : List ℕ). IsOutside geo ps place) e outside) none
          ∙ ap (λ (ps : List ℕ). record { places = ps ++ place ∷ []; cut = false }) (sym e))
      | inr nonzero ↦ elim (cases_Bool (nat_le geo.tiers next || list_any (λ earlier. earlier == next) places)) [
        | inl nowhere ↦
            let e : true ≡ r.cut = ap (λ (l : FoundChain). l.cut) (sym (is_cut links geo words places at next refl nonzero nowhere) ∙ is) in
            let no : true ≡ false = e ∙ whole in
            cc no
        | inr somewhere ↦
            let other : at ≢ last = λ same. nonzero (ap (λ (p : ℕ). word_at words (tier_at geo p)) same ∙ ended) in
            goes_on links geo (slice_set words (tier_at geo last) place) places at next (link_kept geo words last place at other) nonzero somewhere
            ∙ appends links geo words (places ++ next ∷ []) next last place r length_is (one_further geo places links at next way (leads_outside geo places next somewhere))
            (sym (goes_on links geo words places at next refl nonzero somewhere) ∙ is) whole last_is ended outside none
      ]
    ]

-- the way begins at place 0
on_way : (geo : Geo) → IsOnWay geo (0 ∷ []) geo.tiers 0
on_way geo = record { is_chain = first_place geo; fuel = omega arith; last_is = refl; inside = omega (arith, (tiers_range geo).0) }

-- the link of the last tier of a chain that isn't cut is 0
pub last_link : (geo : Geo) (words : List ℕ) (last : ℕ) → (chain_of geo words).cut ≡ false → get_or (chain_of geo words).places (length (chain_of geo words).places - 1) 0 ≡ last → word_at words (tier_at geo last) ≡ 0
unfolding chain_of
last_link geo words last whole last_is = last_is_zero geo.tiers geo words (0 ∷ []) 0 last (chain_of geo words) (on_way geo) refl whole last_is

-- a store of the last tier's link with a tier outside the chain, whose own link is 0, appends that tier to the chain
pub link_appends : (geo : Geo) (words : List ℕ) (last place : ℕ) → length words ≡ words_in_segment geo → (chain_of geo words).cut ≡ false → get_or (chain_of geo words).places (length (chain_of geo words).places - 1) 0 ≡ last
    → IsOutside geo (chain_of geo words).places place → word_at words (tier_at geo place) ≡ 0
    → chain_of geo (slice_set words (tier_at geo last) place) ≡ record { places = (chain_of geo words).places ++ place ∷ []; cut = false }
unfolding chain_of
link_appends geo words last place length_is whole last_is outside none =
    appends geo.tiers geo words (0 ∷ []) 0 last place (chain_of geo words) length_is (on_way geo) refl whole last_is (last_link geo words last whole last_is) outside none

-- the same of a chain that was read
pub read_appends : (geo : Geo) (words : List ℕ) (chain : Chain) (place : ℕ) → length words ≡ words_in_segment geo → chain.len ≤ length chain.places → IsRead geo chain → IsLinked geo words chain → chain.cut ≡ false
    → IsOutside geo (places_of chain) place → word_at words (tier_at geo place) ≡ 0
    → chain_of geo (slice_set words (tier_at geo (get_or chain.places (chain.len - 1) 0)) place) ≡ record { places = places_of chain ++ place ∷ []; cut = false }
read_appends geo words chain place length_is long read is whole outside none =
    let places_are : (chain_of geo words).places ≡ places_of chain = ap (λ (l : FoundChain). l.places) is in
    let as_many : length (places_of chain) ≡ chain.len = length-take-le chain.len chain.places long in
    let last_is : get_or (chain_of geo words).places (length (chain_of geo words).places - 1) 0 ≡ get_or chain.places (chain.len - 1) 0 =
    ap (λ (ps : List ℕ). get_or ps (length ps - 1) 0) places_are ∙ (ap (λ (n : ℕ). get_or (places_of chain) (n - 1) 0) as_many ∙ get_or-take chain.len chain.places (chain.len - 1) 0 (omega (arith, read.nonzero))) in
    link_appends geo words (get_or chain.places (chain.len - 1) 0) place length_is (ap (λ (l : FoundChain). l.cut) is ∙ whole) last_is (subst (λ (ps : List ℕ). IsOutside geo ps place) (sym places_are) outside) none
    ∙ ap (λ (ps : List ℕ). record { places = ps ++ place ∷ []; cut = false }) places_are

-- ---- what leaves the links leaves the chain

kept_from : (links : ℕ) (geo : Geo) (words later places : List ℕ) (place : ℕ) → ((other : ℕ) → other < geo.tiers → word_at later (tier_at geo other) ≡ word_at words (tier_at geo other)) → place < geo.tiers
    → chain_from links geo later places place ≡ chain_from links geo words places place
kept_from zero geo words later places place same below = refl
kept_from (suc links) geo words later places place same below =
    let next : ℕ = word_at words (tier_at geo place) in
    elim (cases_eq next 0) [
      | inl none ↦ ends links geo later places place (same place below ∙ none) ∙ sym (ends links geo words places place none)
      | inr nonzero ↦ elim (cases_Bool (nat_le geo.tiers next || list_any (λ earlier. earlier == next) places)) [
        | inl nowhere ↦ is_cut links geo later places place next (same place below) nonzero nowhere ∙ sym (is_cut links geo words places place next refl nonzero nowhere)
        | inr somewhere ↦
            goes_on links geo later places place next (same place below) nonzero somewhere
            ∙ (kept_from links geo words later (places ++ next ∷ []) next same (leads_outside geo places next somewhere).below
            ∙ sym (goes_on links geo words places place next refl nonzero somewhere))
      ]
    ]

pub linked_kept : (geo : Geo) (words later : List ℕ) → ((place : ℕ) → place < geo.tiers → word_at later (tier_at geo place) ≡ word_at words (tier_at geo place)) → chain_of geo later ≡ chain_of geo words
unfolding chain_of
linked_kept geo words later same = kept_from geo.tiers geo words later (0 ∷ []) 0 same (omega (arith, (tiers_range geo).0))
