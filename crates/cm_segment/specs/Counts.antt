-- The counts of entries: that of a tier and that of the segment (own).
use Rattle.std.specs.Prelude.{ℕ, ◌≡◌, ◌+◌, ◌-◌, ◌%◌, ◌^◌, List, [], ◌∷◌}
use Rattle.cm_geo.specs.declared.geo.Geo.{Geo}
use Rattle.cm_geo.specs.Addresses.{tier_at}
use Rattle.cm_plain.specs.Slots.{word_at}
use Rattle.cm_words.specs.Stores.{WordStore, store_at}

-- a count that is raised, as words of 64 bits do it
abbrev pub one_more : ℕ → ℕ
one_more word = (word + 1) % 2 ^ 64

-- the store that raises a count
abbrev pub stores_to_raise : ℕ → List ℕ → List WordStore
stores_to_raise at words = store_at at (one_more (word_at words at)) ∷ []

-- a count that is lowered, in the same way
abbrev pub one_less : ℕ → ℕ
one_less word = (word + (2 ^ 64 - 1)) % 2 ^ 64

-- the store that lowers a count
abbrev pub stores_to_lower : ℕ → List ℕ → List WordStore
stores_to_lower at words = store_at at (one_less (word_at words at)) ∷ []

-- the address of a count to which an entry at a place belongs
pub data IsCountAt (geo : Geo) (place at : ℕ) : Type 0 where
  of_tier : at ≡ tier_at geo place + 1 → IsCountAt geo place at
  of_segment : at ≡ 2 → IsCountAt geo place at
