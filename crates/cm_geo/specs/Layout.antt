-- Where the words of a segment stand (own).
use Rattle.std.specs.Prelude.{ℕ, ◌+◌, ◌*◌, ◌/◌}
use Rattle.cm_geo.specs.declared.limits.TheConstants.{WORD_BITS}

-- the words of one tier: a head of four words, a bit for each chunk, two slots for each chunk, and the chunks
abbrev pub tier_words : ℕ → ℕ → ℕ
tier_words chunks chunk_words = 4 + chunks / WORD_BITS + 2 * chunks + chunks * chunk_words

-- the words of one segment: a head of four words, and its tiers
abbrev pub segment_words : ℕ → ℕ → ℕ → ℕ
segment_words tiers chunks chunk_words = 4 + tiers * tier_words chunks chunk_words
