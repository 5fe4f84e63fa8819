-- What the limits of a geometry say of its numbers.
use Rattle.std.proofs.Common.{◌≡◌, ◌*◌, ◌/◌, ◌%◌, ◌^◌, ◌≤◌, arith}
use Rattle.std.proofs.lemmas.Grind.{common_steps}
use Rattle.cm_geo.specs.declared.geo.Geo.{Geo}
use Rattle.cm_geo.specs.Addresses.{words_in_segment, words_in_map}

-- there are 1 to 64 segments
pub segments_range : (geo : Geo) → (1 ≤ geo.segments) × (geo.segments ≤ 64)
segments_range geo = grind (arith, common_steps, geo.segments_fit)

-- there are 1 to 8 tiers
pub tiers_range : (geo : Geo) → (1 ≤ geo.tiers) × (geo.tiers ≤ 8)
tiers_range geo = grind (arith, common_steps, geo.tiers_fit)

-- there are 64 to 4096 chunks
pub chunks_range : (geo : Geo) → (64 ≤ geo.chunks) × (geo.chunks ≤ 4096)
chunks_range geo = grind (arith, common_steps, geo.chunks_fit)

-- the chunks fill their words of bits
pub chunks_whole : (geo : Geo) → (geo.chunks % 64 ≡ 0) × (64 * (geo.chunks / 64) ≡ geo.chunks)
chunks_whole geo = grind (arith, common_steps, geo.chunks_fit)

-- a chunk has 4 to 16 words
pub chunk_words_range : (geo : Geo) → (4 ≤ geo.chunk_words) × (geo.chunk_words ≤ 16)
chunk_words_range geo = grind (arith, common_steps, geo.chunk_words_fit)

-- the map has at most 2^22 words
pub map_limit : (geo : Geo) → words_in_map geo ≤ 2 ^ 22
unfolding words_in_segment
map_limit geo = geo.words_fit
