-- Where the words of a segment stand, counted from its first word (own).
use Rattle.std.specs.Prelude.{ℕ, ◌+◌, ◌*◌, ◌/◌}
use Rattle.cm_geo.specs.declared.geo.Geo.{Geo}
use Rattle.cm_geo.specs.declared.limits.TheConstants.{WORD_BITS}
use Rattle.cm_geo.specs.Layout.{tier_words, segment_words}

-- the words of one tier
unfoldable pub words_in_tier : Geo → ℕ
words_in_tier geo = tier_words geo.chunks geo.chunk_words

-- the words of one segment
unfoldable pub words_in_segment : Geo → ℕ
words_in_segment geo = segment_words geo.tiers geo.chunks geo.chunk_words

-- the words of the whole map
abbrev pub words_in_map : Geo → ℕ
words_in_map geo = geo.segments * words_in_segment geo

-- the first word of the tier at a place
unfoldable pub tier_at : Geo → ℕ → ℕ
tier_at geo place = 4 + place * words_in_tier geo

-- a word of bits: the bits of the chunks in their order, WORD_BITS a word
unfoldable pub bits_at : Geo → ℕ → ℕ → ℕ
bits_at geo place word = tier_at geo place + 4 + word

-- a slot's word
unfoldable pub slot_at : Geo → ℕ → ℕ → ℕ
slot_at geo place slot = tier_at geo place + 4 + geo.chunks / WORD_BITS + slot

-- the first word of a chunk
unfoldable pub chunk_at : Geo → ℕ → ℕ → ℕ
chunk_at geo place chunk = tier_at geo place + 4 + geo.chunks / WORD_BITS + 2 * geo.chunks + chunk * geo.chunk_words
