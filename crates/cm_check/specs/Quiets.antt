-- A segment of words that nobody changes (own).
use Rattle.std.specs.Prelude.{ℕ, ◌≡◌, ◌<◌, List, Option, Some, None, false}
use Rattle.cm_geo.specs.declared.geo.Geo.{Geo}
use Rattle.cm_plain.specs.Slots.{Slot, chunk_of_half}
use Rattle.cm_words.specs.declared.fixed.FixedMem.{FixedMem}
use Rattle.cm_words.specs.Fixed.{fixed_seen}
use Rattle.cm_words.specs.Calls.{IsReadable}
use Rattle.cm_words.specs.Maps.{segment_in}
use Rattle.cm_lookup.specs.declared.hit.SlotParts.{SlotParts}
use Rattle.cm_check.specs.declared.quiet.Quiet.{Quiet}

-- its geometry
abbrev pub geo_of : Quiet → Geo
geo_of quiet = quiet.words.now.geo

-- its words
unfoldable pub words_of : Quiet → List ℕ
words_of quiet = segment_in quiet.words.now quiet.segment

-- a memory over it, which can't die
pub record IsReader (quiet : Quiet) (m : FixedMem) : Type 0 where
  pub readable : IsReadable (fixed_seen m) (geo_of quiet)
  pub alive : (fixed_seen m).meter.fuse.can_die ≡ false
  pub words_are : m.words.now ≡ quiet.words.now
  pub segment_is : m.segment ≡ quiet.segment

-- the chunk of a tier
pub record IsChunk (geo : Geo) (place chunk : ℕ) : Type 0 where
  pub place_low : place < geo.tiers
  pub chunk_low : chunk < geo.chunks

-- the halves of a slot's word as a slot
abbrev pub slot_seen : Option SlotParts → Option Slot
slot_seen None = None
slot_seen (Some parts) = Some (record { fingerprint = parts.fingerprint; chunk = chunk_of_half parts.low })
