-- What a lawful map holds (own).
use Rattle.std.specs.Prelude.{ℕ, ◌≡◌, ◌*◌, ◌<◌, List, map, flat_map}
use Rattle.std.specs.List.{filter_map, range_with_len}
use Rattle.std.specs.Option.{option_map}
use Rattle.cm_geo.specs.declared.geo.Geo.{Geo}
use Rattle.cm_plain.specs.declared.receipt.MapLine.{MapLine}
use Rattle.cm_plain.specs.declared.reply.Pair.{Pair}
use Rattle.cm_plain.specs.States.{Lists, State, pair_of}
use Rattle.cm_plain.specs.Lawful.{Lawful}
use Rattle.cm_words.specs.Maps.{MapWords, segment_in}
use Rattle.cm_check.specs.SlotEntries.{entry_in}

-- a pair as a line of the map
abbrev pub line_of : ℕ → Pair → MapLine
line_of segment pair = record { segment = segment; key = pair.key; value = pair.value }

-- the lines are those of the pairs of the state that a segment's words represent, in byte order of the keys
pub record ListsSegment (geo : Geo) (segment : ℕ) (words : List ℕ) (lines : List MapLine) : Type 0 where
  pub pairs : List Pair
  pub lines_are : lines ≡ map (line_of segment) pairs
  pub listed : (number : ℕ) (state : State) → Lawful geo segment words number state → Lists state pairs

-- the lines of a map are those of its segments, one after the other
pub record ListsMap (words : MapWords) (lines : List MapLine) : Type 0 where
  pub parts : ℕ → List MapLine
  pub lines_are : lines ≡ flat_map parts (range_with_len 0 words.geo.segments)
  pub listed : (segment : ℕ) → segment < words.geo.segments → ListsSegment words.geo segment (segment_in words segment) (parts segment)

-- the line of a slot's entry
abbrev pub lines_in : Geo → ℕ → List ℕ → ℕ → ℕ → List MapLine
lines_in geo segment words count place =
    filter_map (λ number. option_map (λ placed. line_of segment (pair_of placed)) (entry_in geo words place number)) (range_with_len 0 count)

-- the lines of all chained tiers' slots, in order of chain and slot
abbrev pub slot_lines : Geo → ℕ → List ℕ → List ℕ → List MapLine
slot_lines geo segment words places = flat_map (lines_in geo segment words (2 * geo.chunks)) places
