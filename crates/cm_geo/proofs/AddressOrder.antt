-- Where the words of a segment stand to one another: the order of their ranges, and that they are in range.
use Rattle.std.proofs.Common.{ℕ, ◌+◌, ◌*◌, ◌/◌, ◌^◌, ◌<◌, ◌≤◌, arith}
use Rattle.std.proofs.lemmas.Nat.{mul-le}
use Rattle.cm_geo.proofs.Ranges.{segments_range, map_limit}
use Rattle.cm_geo.specs.declared.geo.Geo.{Geo}
use Rattle.cm_geo.specs.Layout.{tier_words}
use Rattle.cm_geo.specs.Addresses.{words_in_tier, words_in_segment, words_in_map, tier_at, bits_at, slot_at, chunk_at}

-- ---- the order of ranges

-- rows in order: the later row begins where the earlier one has ended
pub rows_in_order : (n width a b : ℕ) → a + n ≤ b → a * width + n * width ≤ b * width
rows_in_order n width a b in_order = omega (arith, mul-le (a + n) width b width in_order (omega arith))

-- the segments of a map in order
pub segment_within : (geo : Geo) (segment : ℕ) → segment < geo.segments → segment * words_in_segment geo + words_in_segment geo ≤ words_in_map geo
segment_within geo segment below = omega (arith, rows_in_order 1 (words_in_segment geo) segment geo.segments (omega arith))

-- a segment has at most 2^22 words
pub segment_limit : (geo : Geo) → words_in_segment geo ≤ 2 ^ 22
segment_limit geo = omega (arith, segments_range geo, map_limit geo, segment_within geo 0 (omega (arith, segments_range geo)))

-- a segment begins with its head
pub segment_head_within : (geo : Geo) → 4 ≤ words_in_segment geo
unfolding words_in_segment
segment_head_within geo = omega arith

-- the tiers stand behind the segment's head
pub tier_behind_head : (geo : Geo) (place : ℕ) → 4 ≤ tier_at geo place
unfolding tier_at
tier_behind_head geo place = omega arith

-- the tier at a later place begins where the earlier one has ended
pub tiers_in_order : (geo : Geo) (p q : ℕ) → p < q → tier_at geo p + words_in_tier geo ≤ tier_at geo q
unfolding tier_at
tiers_in_order geo p q before = omega (arith, rows_in_order 1 (words_in_tier geo) p q (omega arith))

-- a tier ends within its segment
pub tier_within : (geo : Geo) (place : ℕ) → place < geo.tiers → tier_at geo place + words_in_tier geo ≤ words_in_segment geo
unfolding tier_at words_in_tier words_in_segment
tier_within geo place below = omega (arith, rows_in_order 1 (tier_words geo.chunks geo.chunk_words) place geo.tiers (omega arith))

-- a tier's head ends where its bits begin
pub bits_behind_head : (geo : Geo) (place word : ℕ) → tier_at geo place + 4 ≤ bits_at geo place word
unfolding bits_at
bits_behind_head geo place word = omega arith

-- a tier's slots stand behind its head
pub slots_behind_head : (geo : Geo) (place slot : ℕ) → tier_at geo place + 4 ≤ slot_at geo place slot
unfolding slot_at
slots_behind_head geo place slot = omega arith

-- a tier's chunks stand behind its head
pub chunks_behind_head : (geo : Geo) (place chunk : ℕ) → tier_at geo place + 4 ≤ chunk_at geo place chunk
unfolding chunk_at
chunks_behind_head geo place chunk = omega arith

-- the bits end where the slots begin
pub slots_behind_bits : (geo : Geo) (place word slot : ℕ) → word < geo.chunks / 64 → bits_at geo place word < slot_at geo place slot
unfolding bits_at slot_at
slots_behind_bits geo place word slot below = omega arith

-- the slots end where the chunks begin
pub chunks_behind_slots : (geo : Geo) (place slot chunk : ℕ) → slot < 2 * geo.chunks → slot_at geo place slot < chunk_at geo place chunk
unfolding slot_at chunk_at
chunks_behind_slots geo place slot chunk below = omega arith

-- a later run of chunks begins where the earlier one has ended
pub runs_in_order : (geo : Geo) (place chunk chunks later : ℕ) → chunk + chunks ≤ later → chunk_at geo place chunk + chunks * geo.chunk_words ≤ chunk_at geo place later
unfolding chunk_at
runs_in_order geo place chunk chunks later in_order = omega (arith, rows_in_order chunks geo.chunk_words chunk later in_order)

-- a run of chunks ends within its tier
pub run_within : (geo : Geo) (place chunk chunks : ℕ) → chunk + chunks ≤ geo.chunks → chunk_at geo place chunk + chunks * geo.chunk_words ≤ tier_at geo place + words_in_tier geo
unfolding chunk_at words_in_tier
run_within geo place chunk chunks below = omega (arith, rows_in_order chunks geo.chunk_words chunk geo.chunks below)

-- ---- in range

-- the head words of a tier are words of the segment
pub tier_head_in_range : (geo : Geo) (place word : ℕ) → place < geo.tiers → word < 4 → tier_at geo place + word < words_in_segment geo
unfolding words_in_tier
tier_head_in_range geo place word place_below below = omega (arith, tier_within geo place place_below)

-- a word of bits is a word of its tier
pub bits_within : (geo : Geo) (place word : ℕ) → word < geo.chunks / 64 → bits_at geo place word < tier_at geo place + words_in_tier geo
unfolding bits_at words_in_tier
bits_within geo place word below = omega arith

-- a slot is a word of its tier
pub slot_within : (geo : Geo) (place slot : ℕ) → slot < 2 * geo.chunks → slot_at geo place slot < tier_at geo place + words_in_tier geo
unfolding slot_at words_in_tier
slot_within geo place slot below = omega arith

-- a word of bits is a word of the segment
pub bits_in_range : (geo : Geo) (place word : ℕ) → place < geo.tiers → word < geo.chunks / 64 → bits_at geo place word < words_in_segment geo
bits_in_range geo place word place_below below = omega (arith, tier_within geo place place_below, bits_within geo place word below)

-- a slot is a word of the segment
pub slot_in_range : (geo : Geo) (place slot : ℕ) → place < geo.tiers → slot < 2 * geo.chunks → slot_at geo place slot < words_in_segment geo
slot_in_range geo place slot place_below below = omega (arith, tier_within geo place place_below, slot_within geo place slot below)

-- the words of a run of chunks are words of the segment
pub run_in_range : (geo : Geo) (place chunk chunks : ℕ) → place < geo.tiers → chunk + chunks ≤ geo.chunks → chunk_at geo place chunk + chunks * geo.chunk_words ≤ words_in_segment geo
run_in_range geo place chunk chunks place_below below = omega (arith, tier_within geo place place_below, run_within geo place chunk chunks below)

-- the words of a chunk are words of the segment
pub chunk_in_range : (geo : Geo) (place chunk : ℕ) → place < geo.tiers → chunk < geo.chunks → chunk_at geo place chunk + geo.chunk_words ≤ words_in_segment geo
chunk_in_range geo place chunk place_below below = omega (arith, run_in_range geo place chunk 1 place_below (omega arith))

-- that the addresses of a tier's words fit
pub ruleset tier_fits = (tier_within, segment_limit)

-- that the addresses of a chunk's words fit
pub ruleset chunk_fits = (chunk_in_range, segment_limit)
