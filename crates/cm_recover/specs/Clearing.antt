-- What a segment's words are once all but the entries is cleared (own).
use Rattle.std.specs.Prelude.{ℕ, ◌≡◌, ◌≢◌, ◌+◌, ◌-◌, ◌*◌, ◌/◌, ◌<◌, ◌≤◌, ◌==◌, Bool, true, false, List, length, Contains, get_or, nat_lt, if◌then◌else◌}
use Rattle.std.specs.List.{list_any}
use Rattle.cm_geo.specs.declared.geo.Geo.{Geo}
use Rattle.cm_geo.specs.Addresses.{tier_at, words_in_tier}
use Rattle.cm_plain.specs.Slots.{word_at}
use Rattle.cm_plain.specs.FoundChains.{IsZero}
use Rattle.cm_recover.specs.Rebuilding.{SameChunks}

-- the words from an address up to another one are 0, and the others are as before
pub record IsZeroed (from to : ℕ) (old words : List ℕ) : Type 0 where
  pub length_is : length words ≡ length old
  pub zero : (at : ℕ) → from ≤ at → at < to → word_at words at ≡ 0
  pub before : (at : ℕ) → at < from → word_at words at ≡ word_at old at
  pub behind : (at : ℕ) → to ≤ at → word_at words at ≡ word_at old at

-- the word at an offset of a tier: where the allowance covers the tier, its link and its chunks stay
abbrev pub cleared : Geo → Bool → ℕ → ℕ → ℕ
cleared geo true offset word = if nat_lt 0 offset then (if nat_lt offset (4 + geo.chunks / 64 + 2 * geo.chunks) then 0 else word) else word
cleared geo false offset word = 0

-- the tier at a place is cleared
pub record IsTierCleared (geo : Geo) (tier : ℕ) (covered : Bool) (old words : List ℕ) : Type 0 where
  pub length_is : length words ≡ length old
  pub head : (at : ℕ) → at < 4 → word_at words at ≡ word_at old at
  pub here : (offset : ℕ) → offset < words_in_tier geo
      → word_at words (tier_at geo tier + offset) ≡ cleared geo covered offset (word_at old (tier_at geo tier + offset))
  pub others : (place offset : ℕ) → place ≢ tier → offset < words_in_tier geo
      → word_at words (tier_at geo place + offset) ≡ word_at old (tier_at geo place + offset)

-- a place is one of these
abbrev pub is_among : List ℕ → ℕ → Bool
is_among places place = list_any (λ other. other == place) places

-- each tier is, by whether it is at one of the places
pub record AreTiersCleared (geo : Geo) (places old words : List ℕ) : Type 0 where
  pub length_is : length words ≡ length old
  pub head : (at : ℕ) → at < 4 → word_at words at ≡ word_at old at
  pub tiers : (place offset : ℕ) → place < geo.tiers → offset < words_in_tier geo
      → word_at words (tier_at geo place + offset) ≡ cleared geo (is_among places place) offset (word_at old (tier_at geo place + offset))

-- all but the links and the chunks of the tiers at these places is, and the last of them has no link
pub record IsCleared (geo : Geo) (places old words : List ℕ) : Type 0 where
  pub length_is : length words ≡ length old
  pub head : (at : ℕ) → at < 4 → word_at words at ≡ 0
  pub books : (place offset : ℕ) → Contains places place → 0 < offset → offset < 4 + geo.chunks / 64 + 2 * geo.chunks
      → word_at words (tier_at geo place + offset) ≡ 0
  pub chunks : SameChunks geo places old words
  pub links : (number : ℕ) → number + 1 < length places
      → word_at words (tier_at geo (get_or places number 0)) ≡ word_at old (tier_at geo (get_or places number 0))
  pub last : word_at words (tier_at geo (get_or places (length places - 1) 0)) ≡ 0
  pub unlinked : (place : ℕ) → place < geo.tiers → (Contains places place → ⊥) → IsZero geo words place
