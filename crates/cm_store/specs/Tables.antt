-- The tables of a store (own).
use Rattle.std.specs.Prelude.{ℕ, ◌≡◌, ◌-◌, List, length, map, slice_get, Some}
use Rattle.std.specs.List.{range_with_len}
use Rattle.cm_geo.specs.declared.geo.Geo.{Geo}
use Rattle.cm_plain.specs.FoundChains.{chain_of}
use Rattle.cm_words.specs.Maps.{MapWords, segment_in}
use Rattle.cm_lock.specs.declared.view.Key.{Key}
use Rattle.cm_lock.specs.declared.table.SegTable.{SegTable}
use Rattle.cm_lock.specs.Tables.{key_of}

-- there is a table for each segment, in order
pub record AreTables (geo : Geo) (tables : List SegTable) : Type 0 where
  pub many : length tables ≡ geo.segments
  pub geos : (segment : ℕ) (table : SegTable) → slice_get tables segment ≡ Some table → (key_of table).geo ≡ geo
  pub segments : (segment : ℕ) (table : SegTable) → slice_get tables segment ≡ Some table → (key_of table).segment ≡ segment

-- what is fixed of the tables over a map's words, segment after segment
abbrev pub key_in : MapWords → ℕ → Key
key_in map_words segment = record { geo = map_words.geo; segment = segment; first = segment_in map_words segment }

abbrev pub keys_of : MapWords → List Key
keys_of map_words = map (key_in map_words) (range_with_len 0 map_words.geo.segments)

-- how many tiers each segment has beyond its first one
abbrev pub linked_in : MapWords → ℕ → ℕ
linked_in map_words segment = length (chain_of map_words.geo (segment_in map_words segment)).places - 1

abbrev pub linked_of : MapWords → List ℕ
linked_of map_words = map (linked_in map_words) (range_with_len 0 map_words.geo.segments)
