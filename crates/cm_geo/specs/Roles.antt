-- What each word of a segment is for (own).
use Rattle.std.specs.Prelude.{ℕ, ◌≡◌, ◌+◌, ◌*◌, ◌/◌, ◌<◌}
use Rattle.cm_geo.specs.declared.geo.Geo.{Geo}
use Rattle.cm_geo.specs.declared.limits.TheConstants.{WORD_BITS}
use Rattle.cm_geo.specs.Addresses.{words_in_segment, tier_at, bits_at, slot_at, chunk_at}

-- a head word of the segment; or at a tier's place a head word, a word of bits, a slot, or a word of a chunk
pub data Role : Type 0 where
  segment_head : ℕ → Role
  tier_head : ℕ → ℕ → Role
  bits : ℕ → ℕ → Role
  slot : ℕ → ℕ → Role
  chunk : ℕ → ℕ → ℕ → Role

-- the numbers of a role are within this geometry
abbrev pub IsRole : Geo → Role → Type 0
IsRole geo (segment_head word) = word < 4
IsRole geo (tier_head place word) = (place < geo.tiers) × (word < 4)
IsRole geo (bits place word) = (place < geo.tiers) × (word < geo.chunks / WORD_BITS)
IsRole geo (slot place number) = (place < geo.tiers) × (number < 2 * geo.chunks)
IsRole geo (chunk place number word) = (place < geo.tiers) × (number < geo.chunks) × (word < geo.chunk_words)

-- the word that has a role
abbrev pub address : Geo → Role → ℕ
address geo (segment_head word) = word
address geo (tier_head place word) = tier_at geo place + word
address geo (bits place word) = bits_at geo place word
address geo (slot place number) = slot_at geo place number
address geo (chunk place number word) = chunk_at geo place number + word

-- the word of each role is a word of the segment
abbrev pub AreInRange : Geo → Type 0
AreInRange geo = (role : Role) → IsRole geo role → address geo role < words_in_segment geo

-- no word has two roles
abbrev pub AreApart : Geo → Type 0
AreApart geo = (a b : Role) → IsRole geo a → IsRole geo b → address geo a ≡ address geo b → a ≡ b

-- a word has a role
abbrev pub HasRole : Geo → ℕ → Type 0
HasRole geo at = (role : Role) × (IsRole geo role) × (address geo role ≡ at)

-- each word of the segment has a role
abbrev pub AreAll : Geo → Type 0
AreAll geo = (at : ℕ) → at < words_in_segment geo → HasRole geo at
