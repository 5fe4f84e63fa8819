-- The words of a whole map (own).
use Rattle.std.specs.Prelude.{ℕ, ◌≡◌, ◌+◌, ◌*◌, ◌++◌, List, length, take, drop, slice_index}
use Rattle.std.specs.List.{refill}
use Rattle.cm_geo.specs.declared.geo.Geo.{Geo}
use Rattle.cm_geo.specs.Addresses.{words_in_map, words_in_segment}

-- a geometry, and the words of its map, segment after segment
pub record MapWords : Type 0 where
  pub geo : Geo
  pub words : List ℕ

-- there are as many words as the map has
abbrev pub IsWhole : MapWords → Type 0
IsWhole map = length map.words ≡ words_in_map map.geo

-- how many words stand before a segment
abbrev pub words_before : Geo → ℕ → ℕ
words_before geo segment = segment * words_in_segment geo

-- the words of a segment
abbrev pub segment_in : MapWords → ℕ → List ℕ
segment_in map segment = take (words_in_segment map.geo) (drop (words_before map.geo segment) map.words)

-- a list with others written over it, from an index on; it stays as long
abbrev pub written_over : List ℕ → ℕ → List ℕ → List ℕ
written_over words from others = refill (length words) words (take from words ++ (others ++ drop (length others) (drop from words)))

-- the map with these words written over those of a segment
abbrev pub with_segment : MapWords → ℕ → List ℕ → MapWords
with_segment map segment words = record { geo = map.geo; words = written_over map.words (words_before map.geo segment) words }

-- the words of a map without those of a segment
pub record Rest : Type 0 where
  pub geo : Geo
  pub before : List ℕ
  pub later : List ℕ

abbrev pub rest_of : MapWords → ℕ → Rest
rest_of map segment = record {
  geo = map.geo;
  before = take (words_before map.geo segment) map.words;
  later = drop (words_before map.geo segment + words_in_segment map.geo) map.words;
}

-- a segment's change number
abbrev pub number_word : MapWords → ℕ → ℕ
number_word map segment = slice_index map.words (words_before map.geo segment + 1)
