-- The search for a key along the chain.
use Rattle.std.proofs.Common.{◌≡◌, ◌≢◌, ℕ, ◌+◌, ◌<◌, ◌≤◌, List, length, get_or, Option, Some, None, Contains, refl, ap, sym, subst, ◌∙◌, inl, inr, arith}
use Rattle.std.specs.List.{slice_get}
use Rattle.std.proofs.lemmas.Bool.{cases_eq, cases_lt}
use Rattle.std.proofs.lemmas.Option.{none-some, same_Some, slice_get-get_or}
use Rattle.cm_geo.specs.declared.geo.Geo.{Geo}
use Rattle.cm_plain.specs.States.{State}
use Rattle.cm_plain.specs.FoundChains.{chain_of}
use Rattle.cm_plain.specs.Lawful.{Represents, Resting}
use Rattle.cm_plain.proofs.OutsideHead.{resting_represents}
use Rattle.cm_plain.proofs.States.{is_placed}
use Rattle.cm_words.specs.Memory.{FitsNotes, MemSeen}
use Rattle.cm_words.specs.Effects.{Reads}
use Rattle.cm_segment.specs.Sights.{IsAbsent, IsAbsentAt}
use Rattle.cm_segment.proofs.ChainedTiers.{chain_is, contains_at, number_of, represents_before, segment_before}

-- ---- tiers by their number

-- what was found as the tier of a number is so of the state's chain
abbrev pub IsTierOf : MemSeen → Geo → ℕ → Option ℕ → Type 0
IsTierOf m geo number place = (words : List ℕ) → FitsNotes m words → place ≡ slice_get (chain_of geo words).places number

pub tier_in_chain : (m : MemSeen) (geo : Geo) (number : ℕ) (place : Option ℕ) (words : List ℕ) (state : State) → IsTierOf m geo number place
    → FitsNotes m words
    → (chain_of geo words).places ≡ state.chain → slice_get state.chain number ≡ place
tier_in_chain m geo number place words state is fits chain = ap (λ (ps : List ℕ). slice_get ps number) (sym chain) ∙ sym (is words fits)

pub tier_is : (m : MemSeen) (geo : Geo) (number : ℕ) (place : Option ℕ) (words : List ℕ) (state : State) → IsTierOf m geo number place
    → FitsNotes m words
    → Resting geo m.setting.segment words state
    → slice_get state.chain number ≡ place
tier_is m geo number place words state is fits rests =
    tier_in_chain m geo number place words state is fits (chain_is geo m.setting.segment words state rests)

-- so it is one of the chain
pub place_chained : (m : MemSeen) (geo : Geo) (number place : ℕ) (words : List ℕ) (state : State) → IsTierOf m geo number (Some place)
    → FitsNotes m words
    → (chain_of geo words).places ≡ state.chain → Contains state.chain place
place_chained m geo number place words state is fits chain =
    contains_at state.chain number place (tier_in_chain m geo number (Some place) words state is fits chain)

pub tier_chained : (m : MemSeen) (geo : Geo) (number place : ℕ) (words : List ℕ) (state : State) → IsTierOf m geo number (Some place)
    → FitsNotes m words
    → Resting geo m.setting.segment words state → Contains state.chain place
tier_chained m geo number place words state is fits rests =
    place_chained m geo number place words state is fits (chain_is geo m.setting.segment words state rests)

-- the tiers before a number are so, by their number and their place
abbrev pub AreBefore : State → ℕ → (ℕ → ℕ → Type 0) → Type 0
AreBefore state number IsSo = (k place : ℕ) → k < number → slice_get state.chain k ≡ Some place → IsSo k place

-- Of each list that fits, and each state that it has. How a list has a state may be one of two ways: it rests for it, or it represents it
abbrev pub AreSoFarOf : (ℕ → List ℕ → State → Type 0) → MemSeen → ℕ → (List ℕ → State → ℕ → ℕ → Type 0) → Type 0
AreSoFarOf Has m number IsSo = (words : List ℕ) (state : State) → FitsNotes m words → Has m.setting.segment words state → AreBefore state number (IsSo words state)

module _ (geo : Geo) (Has : ℕ → List ℕ → State → Type 0)
    (chain : (segment : ℕ) (words : List ℕ) (state : State) → Has segment words state → (chain_of geo words).places ≡ state.chain) where
  pub so_far_none_of : (m : MemSeen) (IsSo : List ℕ → State → ℕ → ℕ → Type 0) → AreSoFarOf Has m 0 IsSo
  so_far_none_of m IsSo words state fits has k place below = absurd (omega arith)

  -- one tier more
  pub so_far_more_of : (a b c : MemSeen) (number place : ℕ) (IsSo : List ℕ → State → ℕ → ℕ → Type 0) → AreSoFarOf Has a number IsSo → Reads a b
      → IsTierOf b geo number (Some place) → Reads b c
      → ((words : List ℕ) (state : State) → FitsNotes c words → Has c.setting.segment words state → Contains state.chain place → IsSo words state number place)
      → AreSoFarOf Has c (number + 1) IsSo
  so_far_more_of a b c number place IsSo so_far one is two here words state fits has k other below at =
      let fits_b = two.fits words fits in
      let has_b = segment_before b c (λ s. Has s words state) two has in
      let chain_is : (chain_of geo words).places ≡ state.chain = chain c.setting.segment words state has in
      elim (cases_eq k number) [
        | inl same ↦
            let place_is : place ≡ other = same_Some place other
            (sym (tier_in_chain b geo number (Some place) words state is fits_b chain_is) ∙ (ap (slice_get state.chain) (sym same) ∙ at)) in
            subst (λ (n : ℕ). IsSo words state n other) (sym same)
            (subst (IsSo words state number) place_is (here words state fits has (place_chained b geo number place words state is fits_b chain_is)))
        | inr differ ↦ so_far words state (one.fits words fits_b) (segment_before a b (λ s. Has s words state) one has_b) k other (before k number below differ) at
      ]
    where
      before : (k n : ℕ) → k < n + 1 → k ≢ n → k < n
      before k n h d = omega arith

-- of each list that fits, and each state for which it rests
abbrev pub AreSoFar : MemSeen → Geo → ℕ → (List ℕ → State → ℕ → ℕ → Type 0) → Type 0
AreSoFar m geo number IsSo = AreSoFarOf (λ segment words state. Resting geo segment words state) m number IsSo

pub so_far_none : (m : MemSeen) (geo : Geo) (IsSo : List ℕ → State → ℕ → ℕ → Type 0) → AreSoFar m geo 0 IsSo
so_far_none m geo IsSo = so_far_none_of geo (λ segment words state. Resting geo segment words state) (chain_is geo) m IsSo

pub so_far_more : (a b c : MemSeen) (geo : Geo) (number place : ℕ) (IsSo : List ℕ → State → ℕ → ℕ → Type 0) → AreSoFar a geo number IsSo → Reads a b
    → IsTierOf b geo number (Some place) → Reads b c
    → ((words : List ℕ) (state : State) → FitsNotes c words → Resting geo c.setting.segment words state → Contains state.chain place
    → IsSo words state number place) → AreSoFar c geo (number + 1) IsSo
so_far_more a b c geo number place IsSo = so_far_more_of geo (λ segment words state. Resting geo segment words state) (chain_is geo) a b c number place IsSo

-- of each list that fits, and each state that it represents
abbrev pub AreSoFarIn : MemSeen → Geo → ℕ → (List ℕ → State → ℕ → ℕ → Type 0) → Type 0
AreSoFarIn m geo number IsSo = AreSoFarOf (λ segment words state. Represents geo segment words state) m number IsSo

pub so_far_none_in : (m : MemSeen) (geo : Geo) (IsSo : List ℕ → State → ℕ → ℕ → Type 0) → AreSoFarIn m geo 0 IsSo
so_far_none_in m geo IsSo = so_far_none_of geo (λ segment words state. Represents geo segment words state) (λ segment words state has. has.chain) m IsSo

pub so_far_more_in : (a b c : MemSeen) (geo : Geo) (number place : ℕ) (IsSo : List ℕ → State → ℕ → ℕ → Type 0) → AreSoFarIn a geo number IsSo
    → Reads a b
    → IsTierOf b geo number (Some place) → Reads b c
    → ((words : List ℕ) (state : State) → FitsNotes c words → Represents geo c.setting.segment words state → Contains state.chain place
    → IsSo words state number place) → AreSoFarIn c geo (number + 1) IsSo
so_far_more_in a b c geo number place IsSo =
    so_far_more_of geo (λ segment words state. Represents geo segment words state) (λ segment words state has. has.chain) a b c number place IsSo

-- where a number has no tier, all tiers are before it
pub all_before : (xs : List ℕ) (number : ℕ) → None ≡ slice_get xs number → length xs ≤ number
all_before xs number none = elim (cases_lt number (length xs)) [
  | inl inside ↦ absurd (none-some (get_or xs number 0) (none ∙ slice_get-get_or xs number 0 inside))
  | inr past ↦ past
]

-- no chain has more tiers than the geometry
pub tiers_within : (geo : Geo) (segment : ℕ) (words : List ℕ) (state : State) (number : ℕ) → Resting geo segment words state → geo.tiers ≤ number
    → length state.chain ≤ number
tiers_within geo segment words state number rests past =
    let is = (resting_represents geo segment words state rests).is_state.chain in omega (arith, is.within_limit, past)

-- ---- a key

-- a key that has no entry in any tier has none
absent_all : (geo : Geo) (segment : ℕ) (words : List ℕ) (state : State) (key : List ℕ) (number : ℕ) → Represents geo segment words state
    → AreBefore state number (λ _ place. IsAbsentAt state place key) → length state.chain ≤ number → IsAbsent state key
absent_all geo segment words state key number has so past placed there =
    let at = number_of state.chain placed.place (is_placed has.is_state placed there).chained in
    so at.0 placed.place (omega (arith, at.1, past)) at.2 placed (record { there = there; place_is = refl })

-- after the last tier
pub absent_behind : (a b : MemSeen) (geo : Geo) (key : List ℕ) (number : ℕ)
    → AreSoFarIn a geo number (λ _ state _ place. IsAbsentAt state place key) → Reads a b
    → IsTierOf b geo number None
    → (words : List ℕ) (state : State) → FitsNotes b words → Represents geo b.setting.segment words state → IsAbsent state key
absent_behind a b geo key number so_far reads none words state fits has =
    absent_all geo b.setting.segment words state key number has (so_far words state (reads.fits words fits) (represents_before a b geo words state reads has))
    (all_before state.chain number (sym (tier_in_chain b geo number None words state none fits has.chain)))

-- after as many tiers as the geometry has
pub absent_end : (m : MemSeen) (geo : Geo) (key : List ℕ) (number : ℕ) → AreSoFarIn m geo number (λ _ state _ place. IsAbsentAt state place key)
    → geo.tiers ≤ number
    → (words : List ℕ) (state : State) → FitsNotes m words → Represents geo m.setting.segment words state → IsAbsent state key
absent_end m geo key number so_far past words state fits has =
    absent_all geo m.setting.segment words state key number has (so_far words state fits has)
    (let within = has.is_state.chain.within_limit in omega (arith, within, past))
