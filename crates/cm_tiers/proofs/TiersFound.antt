-- The chain of a segment, found one tier at a time.
use Rattle.std.proofs.Common.{◌≡◌, ◌≢◌, ℕ, ◌+◌, ◌-◌, ◌<◌, ◌≤◌, ◌==◌, ◌||◌, ◌⊎◌, Bool, true, false, List, [], ◌∷◌, ◌++◌, take, length, get_or, set, nat_le, Option, Some, None, arith, refl, sym, ap, subst, ◌∙◌, zero, suc, inl, inr, get_or-take, get_or-set_same, length-set}
use Rattle.std.specs.List.{list_any, slice_get}
use Rattle.std.proofs.lemmas.Bool.{cases_Bool, cases_eq}
use Rattle.std.proofs.lemmas.Bool.Decides.{nat_tests}
use Rattle.std.proofs.lemmas.List.{length-take-le, take_more_set}
use Rattle.std.proofs.lemmas.Option.{slice_get-get_or, slice_get_past}
use Rattle.cm_geo.specs.declared.geo.Geo.{Geo}
use Rattle.cm_geo.specs.Addresses.{tier_at}
use Rattle.cm_geo.proofs.Ranges.{tiers_range}
use Rattle.cm_plain.specs.Slots.{word_at}
use Rattle.cm_plain.specs.FoundChains.{FoundChain, chain_of, chain_from}
use Rattle.cm_plain.proofs.Chains.{leads_outside}
use Rattle.cm_words.specs.Memory.{FitsNotes, MemSeen}
use Rattle.cm_words.specs.Effects.{Reads}
use Rattle.cm_tiers.specs.declared.places.Chain.{Chain}
use Rattle.cm_tiers.specs.declared.stepwise.Tiers.{Tiers}
use Rattle.cm_tiers.specs.Chains.{AreAll, AreFound, GoesOn, IsRead, LinksTo, places_of}
use Rattle.cm_tiers.proofs.ChainSteps.{ends, goes_on, is_cut}
use Rattle.cm_tiers.proofs.Following.{Found, followed_none, found_more, has_room, one_more}

-- ---- the tiers that were found are the first ones

-- what stands in a list stands there in a longer one
stays_at : (xs : List ℕ) (last number x : ℕ) → slice_get xs number ≡ Some x → slice_get (xs ++ last ∷ []) number ≡ Some x
stays_at [] last number x e = cc e
stays_at (first ∷ xs) last zero x e = e
stays_at (first ∷ xs) last (suc number) x e = stays_at xs last number x e

chain_begins : (links : ℕ) (geo : Geo) (words places : List ℕ) (place number found : ℕ) → slice_get places number ≡ Some found → slice_get (chain_from links geo words places place).places number ≡ Some found
chain_begins zero geo words places place number found is = is
chain_begins (suc links) geo words places place number found is =
    let next : ℕ = word_at words (tier_at geo place) in
    let at : FoundChain → Option ℕ = λ chain. slice_get chain.places number in
    elim (cases_eq next 0) [
      | inl none ↦ ap at (ends links geo words places place none) ∙ is
      | inr nonzero ↦ elim (cases_Bool (nat_le geo.tiers next || list_any (λ earlier. earlier == next) places)) [
        | inl nowhere ↦ ap at (is_cut links geo words places place next refl nonzero nowhere) ∙ is
        | inr somewhere ↦
            ap at (goes_on links geo words places place next refl nonzero somewhere)
            ∙ chain_begins links geo words (places ++ next ∷ []) next number found (stays_at places next number found is)
      ]
    ]

-- a place that was found
place_at : (chain : Chain) (number : ℕ) → number < chain.len → chain.len ≤ length chain.places → slice_get (places_of chain) number ≡ Some (get_or chain.places number 0)
place_at chain number below long =
    let as_many : length (places_of chain) ≡ chain.len = length-take-le chain.len chain.places long in
    slice_get-get_or (places_of chain) number 0 (omega (arith, as_many, below)) ∙ ap (λ (p : ℕ). Some p) (get_or-take chain.len chain.places number 0 below)

-- a place of a chain that was read is one of the geometry's
pub read_below : (geo : Geo) (chain : Chain) (number place : ℕ) → IsRead geo chain → number < chain.len → chain.len ≤ length chain.places → place ≡ get_or chain.places number 0 → place < geo.tiers
read_below geo chain number place read below long place_is =
    let as_many : length (places_of chain) ≡ chain.len = length-take-le chain.len chain.places long in
    let inside = read.is_chain.inside number 0 (omega (arith, as_many, below)) in
    subst (λ (p : ℕ). p < geo.tiers) (get_or-take chain.len chain.places number 0 below ∙ sym place_is) inside

-- there is room for all tiers
pub long_enough : (m : MemSeen) (geo : Geo) (tiers : Tiers) → AreFound m geo tiers → tiers.found.len ≤ length tiers.found.places
long_enough m geo tiers are = omega (arith, are.eight, are.read.within_limit, (tiers_range geo).1)

pub place_found : (m : MemSeen) (geo : Geo) (tiers : Tiers) (number place : ℕ) → AreFound m geo tiers → number < tiers.found.len → place ≡ get_or tiers.found.places number 0
    → (words : List ℕ) → FitsNotes m words → Some place ≡ slice_get (chain_of geo words).places number
place_found m geo tiers number place are below place_is words fits =
    ap (λ (p : ℕ). Some p) place_is ∙ sym (by tiers.ended (are.goes_on words fits))
  where
    long : tiers.found.len ≤ length tiers.found.places
    long = long_enough m geo tiers are

    by : (ended : Bool) → GoesOn geo words tiers.found ended → slice_get (chain_of geo words).places number ≡ Some (get_or tiers.found.places number 0)
    by true is = ap (λ (ps : List ℕ). slice_get ps number) is ∙ place_at tiers.found number below long
    by false is =
        ap (λ (l : FoundChain). slice_get l.places number) is
        ∙ chain_begins (geo.tiers + 1 - tiers.found.len) geo words (places_of tiers.found) (get_or tiers.found.places (tiers.found.len - 1) 0) number (get_or tiers.found.places number 0) (place_at tiers.found number below long)

pub place_below : (m : MemSeen) (geo : Geo) (tiers : Tiers) (number place : ℕ) → AreFound m geo tiers → number < tiers.found.len → place ≡ get_or tiers.found.places number 0 → place < geo.tiers
place_below m geo tiers number place are below place_is = read_below geo tiers.found number place are.read below (long_enough m geo tiers are) place_is

-- ---- no tier behind them

-- behind all tiers there is none
pub none_behind : (m : MemSeen) (geo : Geo) (tiers : Tiers) (number : ℕ) → AreFound m geo tiers → AreAll m geo tiers → tiers.found.len ≤ number
    → (words : List ℕ) → FitsNotes m words → None ≡ slice_get (chain_of geo words).places number
none_behind m geo tiers number are all past words fits =
    let as_many : length (places_of tiers.found) ≡ tiers.found.len = length-take-le tiers.found.len tiers.found.places (long_enough m geo tiers are) in
    sym (ap (λ (ps : List ℕ). slice_get ps number) (all words fits) ∙ slice_get_past (places_of tiers.found) number (omega (arith, as_many, past)))

-- tiers behind which no link leads on are all
pub all_ended : (m : MemSeen) (geo : Geo) (tiers : Tiers) → AreFound m geo tiers → tiers.ended ≡ true → AreAll m geo tiers
all_ended m geo tiers are ended words fits = subst (GoesOn geo words tiers.found) ended (are.goes_on words fits)

-- the places that were found, in eight words
found_of : (geo : Geo) (chain : Chain) → IsRead geo chain → length chain.places ≡ 8 → Found geo chain.places chain.len
found_of geo chain read long = record { long = long; nonzero = read.nonzero; within_limit = read.within_limit; is_chain = read.is_chain; rest = read.rest }

-- the place of the last tier that was found
abbrev last_found : Chain → ℕ
last_found chain = get_or chain.places (chain.len - 1) 0

-- where the chain goes on, it does so by the link of that tier
leads : (geo : Geo) (words : List ℕ) (tiers : Tiers) → IsRead geo tiers.found → tiers.ended ≡ false → GoesOn geo words tiers.found tiers.ended
    → chain_of geo words ≡ chain_from (suc (geo.tiers - tiers.found.len)) geo words (places_of tiers.found) (last_found tiers.found)
leads geo words tiers read open_end is =
    subst (GoesOn geo words tiers.found) open_end is ∙ one_more geo words (places_of tiers.found) tiers.found.len (last_found tiers.found) read.within_limit

-- a link that leads nowhere ends the chain
stops_here : (links : ℕ) (geo : Geo) (words places : List ℕ) (place : ℕ)
    → (word_at words (tier_at geo place) ≡ 0) ⊎ ((nat_le geo.tiers (word_at words (tier_at geo place)) || list_any (λ earlier. earlier == word_at words (tier_at geo place)) places) ≡ true)
    → (chain_from (suc links) geo words places place).places ≡ places
stops_here links geo words places place (inl none) = ap (λ (l : FoundChain). l.places) (ends links geo words places place none)
stops_here links geo words places place (inr nowhere) = elim (cases_eq (word_at words (tier_at geo place)) 0) [
  | inl none ↦ ap (λ (l : FoundChain). l.places) (ends links geo words places place none)
  | inr nonzero ↦ ap (λ (l : FoundChain). l.places) (is_cut links geo words places place (word_at words (tier_at geo place)) refl nonzero nowhere)
]

-- as many tiers as the geometry has are all
pub all_found : (m : MemSeen) (geo : Geo) (tiers : Tiers) → AreFound m geo tiers → tiers.found.len ≡ geo.tiers → AreAll m geo tiers
all_found m geo tiers are all words fits = by tiers.ended refl
  where
    by : (ended : Bool) → tiers.ended ≡ ended → (chain_of geo words).places ≡ places_of tiers.found
    by true e = all_ended m geo tiers are e words fits
    by false e =
        let next : ℕ = word_at words (tier_at geo (last_found tiers.found)) in
        let nowhere : (nat_le geo.tiers next || list_any (λ earlier. earlier == next) (places_of tiers.found)) ≡ true =
        elim (cases_Bool (nat_le geo.tiers next || list_any (λ earlier. earlier == next) (places_of tiers.found))) [
          | inl is ↦ is
          | inr leads_on ↦ absurd (let room = has_room geo tiers.found.places tiers.found.len next (found_of geo tiers.found are.read are.eight) leads_on in omega (arith, room, all))
        ] in
        ap (λ (l : FoundChain). l.places) (leads geo words tiers are.read e (are.goes_on words fits))
        ∙ stops_here (geo.tiers - tiers.found.len) geo words (places_of tiers.found) (last_found tiers.found) (inr nowhere)

-- ---- after the last link was loaded

-- the same tiers, where the last one's link leads nowhere
pub ended_by : (a b : MemSeen) (geo : Geo) (tiers : Tiers) → AreFound a geo tiers → tiers.ended ≡ false → Reads a b
    → ((words : List ℕ) → FitsNotes b words → (word_at words (tier_at geo (last_found tiers.found)) ≡ 0)
    ⊎ ((nat_le geo.tiers (word_at words (tier_at geo (last_found tiers.found))) || list_any (λ earlier. earlier == word_at words (tier_at geo (last_found tiers.found))) (places_of tiers.found)) ≡ true))
    → AreFound b geo (record { found = tiers.found; ended = true })
ended_by a b geo tiers are open_end reads nowhere = record {
  eight = are.eight;
  read = are.read;
  goes_on = λ words fits.
      ap (λ (l : FoundChain). l.places) (leads geo words tiers are.read open_end (are.goes_on words (reads.fits words fits)))
      ∙ stops_here (geo.tiers - tiers.found.len) geo words (places_of tiers.found) (last_found tiers.found) (nowhere words fits);
}

-- a link that leads to no place
pub leads_to_none : (geo : Geo) (link : ℕ) (places : List ℕ) → LinksTo geo link None → (link ≡ 0) ⊎ ((nat_le geo.tiers link || list_any (λ earlier. earlier == link) places) ≡ true)
leads_to_none geo link places (inl none) = inl none
leads_to_none geo link places (inr past) = let beyond : nat_le geo.tiers link ≡ true = grind (arith, nat_tests) in inr (rw beyond refl)

-- a link that leads to one of the places
pub leads_to_known : (geo : Geo) (link place : ℕ) (places : List ℕ) → LinksTo geo link (Some place) → list_any (λ earlier. earlier == place) places ≡ true
    → (link ≡ 0) ⊎ ((nat_le geo.tiers link || list_any (λ earlier. earlier == link) places) ≡ true)
leads_to_known geo link place places to known =
    inr (either (nat_le geo.tiers link) (list_any (λ earlier. earlier == link) places) (ap (λ (p : ℕ). list_any (λ earlier. earlier == p) places) to.link_is ∙ known))
  where
    either : (beyond met : Bool) → met ≡ true → (beyond || met) ≡ true
    either true met e = refl
    either false met e = e

-- the tiers that were found, and one more
abbrev pub with_tier : Tiers → ℕ → Tiers
with_tier tiers place = record {
  found = record { places = set tiers.found.places tiers.found.len place; len = tiers.found.len + 1; cut = tiers.found.cut };
  ended = tiers.ended;
}

-- where the last one's link leads to another place
pub one_found : (a b : MemSeen) (geo : Geo) (tiers : Tiers) (place : ℕ) → AreFound a geo tiers → tiers.ended ≡ false → Reads a b
    → ((words : List ℕ) → FitsNotes b words → LinksTo geo (word_at words (tier_at geo (last_found tiers.found))) (Some place)) → place < geo.tiers
    → list_any (λ earlier. earlier == place) (places_of tiers.found) ≡ false → AreFound b geo (with_tier tiers place)
one_found a b geo tiers place are open_end reads to below other =
    let long : length tiers.found.places ≡ 8 = are.eight in
    let found = found_of geo tiers.found are.read long in
    let somewhere : (nat_le geo.tiers place || list_any (λ earlier. earlier == place) (places_of tiers.found)) ≡ false =
    neither (nat_le geo.tiers place) (list_any (λ earlier. earlier == place) (places_of tiers.found)) (not_beyond geo.tiers place below) other in
    let outside = leads_outside geo (places_of tiers.found) place somewhere in
    let room = has_room geo tiers.found.places tiers.found.len place found somewhere in
    let low : tiers.found.len < length tiers.found.places = omega (arith, long, room, (tiers_range geo).1) in
    let taken : take (tiers.found.len + 1) (set tiers.found.places tiers.found.len place) ≡ places_of tiers.found ++ place ∷ [] = take_more_set tiers.found.places tiers.found.len place low in
    let more = found_more geo tiers.found.places tiers.found.len place found room outside taken in
    let left : geo.tiers - tiers.found.len ≡ geo.tiers + 1 - (tiers.found.len + 1) = omega arith in
    let last : place ≡ get_or (set tiers.found.places tiers.found.len place) (tiers.found.len + 1 - 1) 0 = is_last tiers.found.places tiers.found.len place low in
    record {
      eight = length-set tiers.found.places tiers.found.len place ∙ long;
      read = record { nonzero = more.nonzero; within_limit = more.within_limit; is_chain = more.is_chain; rest = more.rest };
      goes_on = λ words fits.
          subst (GoesOn geo words (with_tier tiers place).found) (sym open_end)
          (leads geo words tiers are.read open_end (are.goes_on words (reads.fits words fits))
          ∙ (goes_on (geo.tiers - tiers.found.len) geo words (places_of tiers.found) (last_found tiers.found) place (to words fits).link_is (nonzero place (to words fits).nonzero) somewhere
          ∙ (ap (λ (n : ℕ). chain_from n geo words (places_of tiers.found ++ place ∷ []) place) left
          ∙ (ap (λ (ps : List ℕ). chain_from (geo.tiers + 1 - (tiers.found.len + 1)) geo words ps place) (sym taken)
          ∙ ap (chain_from (geo.tiers + 1 - (tiers.found.len + 1)) geo words (take (tiers.found.len + 1) (set tiers.found.places tiers.found.len place))) last))));
    }
  where
    neither : (beyond met : Bool) → beyond ≡ false → met ≡ false → (beyond || met) ≡ false
    neither beyond met e f = rw e f

    not_beyond : (tiers place : ℕ) → place < tiers → nat_le tiers place ≡ false
    not_beyond tiers place h = grind (arith, nat_tests)

    nonzero : (place : ℕ) → 0 < place → place ≢ 0
    nonzero place h e = omega arith

    is_last : (places : List ℕ) (len place : ℕ) → len < length places → place ≡ get_or (set places len place) (len + 1 - 1) 0
    is_last places len place low =
        sym (ap (λ (n : ℕ). get_or (set places len place) n 0) (let h : len + 1 - 1 ≡ len = omega arith in h) ∙ get_or-set_same places len place 0 low)

-- its place is that of its number
pub one_place : (m : MemSeen) (geo : Geo) (tiers : Tiers) (number place : ℕ) → AreFound m geo (with_tier tiers place) → number ≡ tiers.found.len
    → (words : List ℕ) → FitsNotes m words → Some place ≡ slice_get (chain_of geo words).places number
one_place m geo tiers number place are number_is =
    let longer : length tiers.found.places ≡ 8 = sym (length-set tiers.found.places tiers.found.len place) ∙ are.eight in
    let low : tiers.found.len < length tiers.found.places = omega (arith, longer, are.read.within_limit, (tiers_range geo).1) in
    place_found m geo (with_tier tiers place) number place are (omega (arith, number_is))
    (sym (ap (λ (n : ℕ). get_or (set tiers.found.places tiers.found.len place) n 0) number_is ∙ get_or-set_same tiers.found.places tiers.found.len place 0 low))

-- loads leave what was found
pub found_after : (a b : MemSeen) (geo : Geo) (tiers : Tiers) → AreFound a geo tiers → Reads a b → AreFound b geo tiers
found_after a b geo tiers are reads = record { eight = are.eight; read = are.read; goes_on = λ words fits. are.goes_on words (reads.fits words fits) }

-- the tier at place 0
pub first_found : (m : MemSeen) (geo : Geo) (cut : Bool) → AreFound m geo (record { found = record { places = 0 ∷ 0 ∷ 0 ∷ 0 ∷ 0 ∷ 0 ∷ 0 ∷ 0 ∷ []; len = 1; cut = cut }; ended = false })
first_found m geo cut =
    let followed = followed_none m geo in
    record {
      eight = refl;
      read = record { nonzero = followed.found.nonzero; within_limit = followed.found.within_limit; is_chain = followed.found.is_chain; rest = followed.found.rest };
      goes_on = followed.led;
    }
