-- What stands in the words of a segment (own): its chain, for any words.
use Rattle.std.specs.Prelude.{ℕ, zero, suc, ◌≡◌, ◌+◌, ◌-◌, ◌<◌, ◌≤◌, ◌==◌, ◌||◌, Bool, true, false, List, [], ◌∷◌, ◌++◌, length, nat_le, sum_by, if◌then◌else◌}
use Rattle.std.specs.List.{list_any, range_with_len}
use Rattle.cm_geo.specs.declared.geo.Geo.{Geo}
use Rattle.cm_geo.specs.Addresses.{tier_at, words_in_tier}
use Rattle.cm_plain.specs.Slots.{word_at}

-- places in the order of the links, and whether a link led nowhere: to no place, or to one that came before
pub record FoundChain : Type 0 where
  pub places : List ℕ
  pub cut : Bool

-- the chain on from a place, behind those that came before it, for at most so many links more
abbrev pub chain_from : ℕ → Geo → List ℕ → List ℕ → ℕ → FoundChain
chain_from zero geo words places place = record { places = places; cut = false }
chain_from (suc links) geo words places place =
    let next = word_at words (tier_at geo place) in
    if next == 0 then record { places = places; cut = false }
    else (if nat_le geo.tiers next || list_any (λ earlier. earlier == next) places then record { places = places; cut = true }
    else chain_from links geo words (places ++ next ∷ []) next)

-- the chain from place 0 on
unfoldable pub chain_of : Geo → List ℕ → FoundChain
chain_of geo words = chain_from geo.tiers geo words (0 ∷ []) 0

-- all words of a place are 0
abbrev pub IsZero : Geo → List ℕ → ℕ → Type 0
IsZero geo words place = (offset : ℕ) → offset < words_in_tier geo → word_at words (tier_at geo place + offset) ≡ 0

-- the chained tiers beyond the first one of each segment are no more than the geometry allows
abbrev pub KeepsAllowance : Geo → (ℕ → List ℕ) → Type 0
KeepsAllowance geo words_of =
    sum_by (λ segment. length (chain_of geo (words_of segment)).places - 1) (range_with_len 0 geo.segments) ≤ geo.extra
