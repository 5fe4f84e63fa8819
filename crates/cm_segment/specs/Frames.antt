-- What stores leave of a list of words (own). A word of a tier is given by the tier's place and the word's offset there.
use Rattle.std.specs.Prelude.{List, length, ℕ, ◌*◌, ◌+◌, ◌/◌, ◌<◌, ◌↔◌, ◌≡◌, ◌≤◌}
use Rattle.cm_geo.specs.declared.geo.Geo.{Geo}
use Rattle.cm_geo.specs.Addresses.{tier_at, words_in_tier}
use Rattle.cm_plain.specs.Slots.{word_at}
use Rattle.cm_plain.specs.Lawful.{HasBit}

-- a list differs from another one at most at the first three words of the segment and at such words of tiers
pub record DiffersAt (geo : Geo) (such : ℕ → ℕ → Type 0) (start words : List ℕ) : Type 0 where
  pub length_is : length words ≡ length start
  pub fourth : word_at words 3 ≡ word_at start 3
  pub others : (place offset : ℕ) → offset < words_in_tier geo → (such place offset → ⊥)
      → word_at words (tier_at geo place + offset) ≡ word_at start (tier_at geo place + offset)

-- the word of a tier's count
abbrev pub IsCountWord : ℕ → Type 0
IsCountWord offset = offset ≡ 1

-- a word of bits
pub record IsBitWord (geo : Geo) (offset : ℕ) : Type 0 where
  pub from : 4 ≤ offset
  pub to : offset < 4 + geo.chunks / 64

-- a word of the bits of the tier at a place
abbrev pub IsBitOfTier : Geo → ℕ → ℕ → ℕ → Type 0
IsBitOfTier geo tier place offset = (place ≡ tier) × IsBitWord geo offset

-- the word of a slot
abbrev pub IsSlotWord : Geo → ℕ → ℕ → Type 0
IsSlotWord geo slot offset = offset ≡ 4 + geo.chunks / 64 + slot

-- the offset of a chunk's first word
abbrev pub chunk_offset : Geo → ℕ → ℕ
chunk_offset geo chunk = 4 + geo.chunks / 64 + 2 * geo.chunks + chunk * geo.chunk_words

-- a word of so many chunks from one on
pub record IsChunkWord (geo : Geo) (chunk chunks offset : ℕ) : Type 0 where
  pub from : chunk_offset geo chunk ≤ offset
  pub to : offset < chunk_offset geo (chunk + chunks)

-- the bits are those of the start
abbrev pub HasSameBits : Geo → List ℕ → List ℕ → Type 0
HasSameBits geo start words = (place chunk : ℕ) → chunk < geo.chunks → (HasBit geo words place chunk ↔ HasBit geo start place chunk)
