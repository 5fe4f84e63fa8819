-- What becomes of a slot that isn't empty (own): its entry is kept, or it is dropped for the first cause that applies.
use Rattle.std.specs.Prelude.{ℕ, ◌==◌, not, List, nat_le, Option, Some, None, if◌then◌else◌}
use Rattle.std.specs.List.{list_any}
use Rattle.std.specs.Str.{bytes_eq}
use Rattle.cm_geo.specs.declared.geo.Geo.{Geo}
use Rattle.cm_geo.specs.Hash.{fingerprint_in, hash, segment_of_key}
use Rattle.cm_plain.specs.declared.placed.Placed.{Placed}
use Rattle.cm_plain.specs.States.{chunks_of}
use Rattle.cm_plain.specs.Rooms.{meets}
use Rattle.cm_plain.specs.Changes.{entry_at}
use Rattle.cm_plain.specs.Readings.{Reading, entry, reading_at, wrong_checksum, wrong_padding, wrong_lengths}
use Rattle.cm_recover.specs.declared.cause.Cause.{Cause}
use Rattle.cm_recover.specs.declared.cause.Cause.TheVariants as cause
use Rattle.cm_recover.specs.OccupiedSlots.{OccupiedSlot}

-- what becomes of a slot
pub data Judgement : Type 0 where
  is_dropped : Cause → Judgement
  is_kept : Placed → Judgement

-- of one with this entry, beside those that were kept before: none has its key, and no run meets its run
abbrev pub judgement_beside : Geo → List Placed → Placed → Judgement
judgement_beside geo kept placed =
    if list_any (λ other. bytes_eq other.key placed.key) kept then is_dropped cause.Duplicate
    else (if list_any (meets geo placed.place placed.chunk (chunks_of geo placed)) kept then is_dropped cause.Overlap
    else is_kept placed)

-- of one with this fingerprint that points to an entry: its key is of this segment, and has this fingerprint
abbrev pub judgement_on_entry : Geo → ℕ → List Placed → ℕ → Placed → Judgement
judgement_on_entry geo segment kept fingerprint placed =
    if not (segment_of_key geo placed.key == segment) then is_dropped cause.Segment
    else (if not (fingerprint_in geo (hash placed.key) == fingerprint) then is_dropped cause.Fingerprint
    else judgement_beside geo kept placed)

-- of one that points to this place and chunk, by what is read there
abbrev pub judgement_on_reading : Geo → ℕ → List Placed → ℕ → ℕ → ℕ → Reading → Judgement
judgement_on_reading geo segment kept fingerprint place chunk wrong_lengths = is_dropped cause.Lengths
judgement_on_reading geo segment kept fingerprint place chunk wrong_checksum = is_dropped cause.Checksum
judgement_on_reading geo segment kept fingerprint place chunk wrong_padding = is_dropped cause.Padding
judgement_on_reading geo segment kept fingerprint place chunk (entry pair) =
    judgement_on_entry geo segment kept fingerprint (entry_at pair.key pair.value place chunk)

-- of one in the tier at a place, by the chunk that it points to
abbrev pub judgement_in_tier : Geo → ℕ → List ℕ → List Placed → ℕ → ℕ → Option ℕ → Judgement
judgement_in_tier geo segment words kept fingerprint place None = is_dropped cause.Range
judgement_in_tier geo segment words kept fingerprint place (Some chunk) =
    if nat_le geo.chunks chunk then is_dropped cause.Range
    else judgement_on_reading geo segment kept fingerprint place chunk (reading_at geo words place chunk)

-- of one of a segment, where the allowance covers the tiers at these places
abbrev pub judgement : Geo → ℕ → List ℕ → List ℕ → List Placed → OccupiedSlot → Judgement
judgement geo segment words allowed kept at =
    if not (list_any (λ place. place == at.place) allowed) then is_dropped cause.Allowance
    else judgement_in_tier geo segment words kept at.slot.fingerprint at.place at.slot.chunk
