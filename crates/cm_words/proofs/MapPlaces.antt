-- Where a segment's words stand in the map.
use Rattle.std.proofs.Common.{◌≡◌, ℕ, ◌+◌, ◌*◌, ◌<◌, ◌≤◌, ◌^◌, List, slice_set, arith, refl}
use Rattle.std.proofs.lemmas.List.{drop-set-lt, take-set-le}
use Rattle.cm_geo.specs.declared.geo.Geo.{Geo}
use Rattle.cm_geo.specs.Addresses.{words_in_map, words_in_segment}
use Rattle.cm_geo.proofs.Ranges.{map_limit}
use Rattle.cm_words.specs.Maps.{MapWords, rest_of, words_before}

row_inside : (s t n : ℕ) → s < t → s * n + n ≤ t * n
row_inside s t n h = grind arith

-- a segment's words are words of the map, which has at most 2^22
pub segment_inside : (geo : Geo) (segment : ℕ) → segment < geo.segments → (words_before geo segment + words_in_segment geo ≤ words_in_map geo) × (words_in_map geo ≤ 2 ^ 22)
segment_inside geo segment h = (row_inside segment geo.segments (words_in_segment geo) h, map_limit geo)

-- and so is each of them
pub place_inside : (geo : Geo) (segment start at : ℕ) → segment < geo.segments → start ≡ words_before geo segment → at < words_in_segment geo → (start + at < words_in_map geo) × (words_in_map geo ≤ 2 ^ 22)
place_inside geo segment start at h e inside = let s = segment_inside geo segment h in (omega (arith, s.0, e), s.1)

-- a segment has a change number
pub number_inside : (geo : Geo) → 1 < words_in_segment geo
unfolding words_in_segment
number_inside geo = omega arith

-- a store in a segment leaves the rest of the map
pub rest_stored : (map : MapWords) (segment start at word : ℕ) → start ≡ words_before map.geo segment → at < words_in_segment map.geo
    → rest_of (record { geo = map.geo; words = slice_set map.words (start + at) word }) segment ≡ rest_of map segment
rest_stored map segment start at word e inside =
    rw (
      take-set-le (words_before map.geo segment) map.words (start + at) word (omega (arith, e)),
      drop-set-lt (words_before map.geo segment + words_in_segment map.geo) map.words (start + at) word (omega (arith, e, inside)),
    ) refl
