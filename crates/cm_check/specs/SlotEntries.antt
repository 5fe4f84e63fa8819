-- The entries to which the slots of a segment point (own), whatever stands in its words.
use Rattle.std.specs.Prelude.{ℕ, ◌+◌, ◌&&◌, Bool, false, List, nat_le, nat_lt, Option, Some, None}
use Rattle.std.specs.Str.{bytes_eq}
use Rattle.cm_geo.specs.declared.geo.Geo.{Geo}
use Rattle.cm_plain.specs.declared.placed.Placed.{Placed}
use Rattle.cm_plain.specs.States.{chunks_of}
use Rattle.cm_plain.specs.Rooms.{meets}
use Rattle.cm_plain.specs.Changes.{entry_at}
use Rattle.cm_plain.specs.Slots.{Slot, slot_in}
use Rattle.cm_plain.specs.Readings.{Reading, entry, reading_at, wrong_checksum, wrong_lengths, wrong_padding}

-- what is read at a chunk, as an entry in its place
abbrev pub entry_read : ℕ → ℕ → Reading → Option Placed
entry_read place chunk wrong_lengths = None
entry_read place chunk wrong_checksum = None
entry_read place chunk wrong_padding = None
entry_read place chunk (entry pair) = Some (entry_at pair.key pair.value place chunk)

-- the entry at the chunk to which a slot points, if it points to one and an entry stands there
abbrev pub entry_pointed : Geo → List ℕ → ℕ → Option ℕ → Option Placed
entry_pointed geo words place None = None
entry_pointed geo words place (Some chunk) = entry_read place chunk (reading_at geo words place chunk)

-- the entry of a slot that isn't empty
abbrev pub entry_of_slot : Geo → List ℕ → ℕ → Option Slot → Option Placed
entry_of_slot geo words place None = None
entry_of_slot geo words place (Some slot) = entry_pointed geo words place slot.chunk

-- the entry of the slot of this number in the tier at a place
unfoldable pub entry_in : Geo → List ℕ → ℕ → ℕ → Option Placed
entry_in geo words place number = entry_of_slot geo words place (slot_in geo words place number)

-- an entry has this key
abbrev pub has_key : List ℕ → Option Placed → Bool
has_key key None = false
has_key key (Some placed) = bytes_eq placed.key key

-- a chunk lies in an entry's run
abbrev pub has_chunk : Geo → ℕ → Option Placed → Bool
has_chunk geo chunk None = false
has_chunk geo chunk (Some placed) = nat_le placed.chunk chunk && nat_lt chunk (placed.chunk + chunks_of geo placed)

-- the runs of two entries of a tier meet
abbrev pub run_meets : Geo → Option Placed → Option Placed → Bool
run_meets geo None other = false
run_meets geo (Some placed) None = false
run_meets geo (Some placed) (Some other) = meets geo placed.place placed.chunk (chunks_of geo placed) other
