-- At which words the laws on the bits and the counts are broken (own).
use Rattle.std.specs.Prelude.{ℕ, ◌+◌, ◌*◌, ◌/◌, ◌%◌, ◌==◌, not, Bool, List, [], ◌∷◌, length, map, filter, flat_map, sum_by, is_some, if◌then◌else◌}
use Rattle.std.specs.List.{list_any, range_with_len}
use Rattle.std.specs.Int.{bit_at}
use Rattle.cm_geo.specs.declared.geo.Geo.{Geo}
use Rattle.cm_geo.specs.declared.limits.TheConstants.{WORD_BITS}
use Rattle.cm_geo.specs.Addresses.{bits_at, tier_at}
use Rattle.cm_plain.specs.Slots.{slot_in, word_at}
use Rattle.cm_check.specs.Places.{chain_in, linked_places}
use Rattle.cm_check.specs.SlotEntries.{entry_in, has_chunk}

-- the bit of a chunk is set
abbrev pub has_bit : Geo → List ℕ → ℕ → ℕ → Bool
has_bit geo words place chunk = bit_at (word_at words (bits_at geo place (chunk / WORD_BITS))) (chunk % WORD_BITS) == 1

-- a chunk lies in the run of the entry of one of the first so many slots of the tier at a place
unfoldable pub is_taken : Geo → List ℕ → ℕ → ℕ → ℕ → Bool
is_taken geo words place count chunk = list_any (λ number. has_chunk geo chunk (entry_in geo words place number)) (range_with_len 0 count)

-- a chunk's bit is clear where a run has the chunk, or set where none has
unfoldable pub is_bit_wrong : Geo → List ℕ → ℕ → ℕ → Bool
is_bit_wrong geo words place chunk = if is_taken geo words place (2 * geo.chunks) chunk then not (has_bit geo words place chunk) else has_bit geo words place chunk

-- a word of bits has such a bit
unfoldable pub are_bits_wrong : Geo → List ℕ → ℕ → ℕ → Bool
are_bits_wrong geo words place word = list_any (is_bit_wrong geo words place) (range_with_len (WORD_BITS * word) WORD_BITS)

abbrev pub bits_in : Geo → List ℕ → ℕ → List ℕ
bits_in geo words place = map (bits_at geo place) (filter (are_bits_wrong geo words place) (range_with_len 0 (geo.chunks / WORD_BITS)))

unfoldable pub bits_broken : Geo → List ℕ → List ℕ
bits_broken geo words = flat_map (bits_in geo words) (linked_places geo words)

-- how many of the first so many slots of the tier at a place aren't empty
unfoldable pub occupied_among : Geo → List ℕ → ℕ → ℕ → ℕ
occupied_among geo words place count = length (filter (λ number. is_some (slot_in geo words place number)) (range_with_len 0 count))

-- the count of a tier is another number than that of its slots that aren't empty
abbrev pub tier_count_in : Geo → List ℕ → ℕ → List ℕ
tier_count_in geo words place = filter (λ at. not (word_at words at == occupied_among geo words place (2 * geo.chunks))) ((tier_at geo place + 1) ∷ [])

unfoldable pub tier_count_broken : Geo → List ℕ → List ℕ
tier_count_broken geo words = flat_map (tier_count_in geo words) (linked_places geo words)

-- the counts of some tiers together
abbrev pub counts_of : Geo → List ℕ → List ℕ → ℕ
counts_of geo words places = sum_by (λ place. word_at words (tier_at geo place + 1)) places

-- the count of the segment is another number than those of its tiers together
unfoldable pub segment_count_broken : Geo → List ℕ → List ℕ
segment_count_broken geo words = filter (λ at. not (word_at words at == counts_of geo words (chain_in geo words))) (2 ∷ [])
