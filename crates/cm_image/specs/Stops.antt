-- Why an image was not read or not written (own).
use Rattle.std.specs.Prelude.{◌≡◌, ◌<◌, ℕ, List, length, take, Option, Some, None, option_map}
use Rattle.cm_image.specs.declared.refused.ImageRefused.{ImageRefused}
use Rattle.cm_image.specs.declared.image.ImageOfStop.{ImageOfStop}
use Rattle.cm_image.specs.declared.image.ImageOfStop.TheVariants as of_stop
use Rattle.cm_image.specs.declared.stored.ImageStop.{ImageStop}
use Rattle.cm_image.specs.declared.stored.ImageStop.TheVariants as stop
use Rattle.cm_image.specs.declared.stored.ImageWriteStop.{ImageWriteStop}
use Rattle.cm_image.specs.declared.stored.ImageWriteStop.TheVariants as write_stop
use Rattle.cm_image.specs.Faults.{Rose}
use Rattle.cm_geo.specs.declared.geo.Geo.{Geo}
use Rattle.cm_words.specs.Maps.{MapWords}
use Rattle.cm_image.specs.Images.{header_bytes, image_bytes}
use Rattle.cm_image.specs.Refusals.{refusal_of}

-- bytes are refused for the first cause that applies; want of memory is free
abbrev pub StopsImage : List ℕ → ImageOfStop → Type 0
StopsImage bytes (of_stop.Refused why) = refusal_of bytes ≡ Some why
StopsImage bytes of_stop.NoMemory = Unit {0}

-- these bytes are there, and are refused so
abbrev pub HoldsRefused : Option (List ℕ) → ImageRefused → Type 0
HoldsRefused None why = ⊥
HoldsRefused (Some bytes) why = refusal_of bytes ≡ Some why

-- where files are told, a missing file isn't there, and a refused one holds refused bytes; a fault comes only where the
-- count of faults rose
abbrev pub StopsRead : Type 0 → Option (List ℕ) → ℕ → ℕ → ImageStop → Type 0
StopsRead tells file before now stop.Missing = tells → file ≡ None
StopsRead tells file before now (stop.Refused why) = tells → HoldsRefused file why
StopsRead tells file before now stop.Fault = Rose before now
StopsRead tells file before now stop.NoMemory = Unit {0}

-- a fault only where the count rose; where memory was wanting, nothing was written
abbrev pub StopsWrite : {V : Type 0} → V → V → ℕ → ℕ → ImageWriteStop → Type 0
StopsWrite old new before now write_stop.Fault = Rose before now
StopsWrite old new before now write_stop.NoMemory = new ≡ old

-- bytes were wanted behind the end of those that there are, or a call failed
abbrev pub StopsPiece : Type 0 → List ℕ → ℕ → ℕ → ℕ → ImageStop → Type 0
StopsPiece tells bytes wanted before now stop.Missing = ⊥
StopsPiece tells bytes wanted before now (stop.Refused why) = tells → length bytes < wanted
StopsPiece tells bytes wanted before now stop.Fault = Rose before now
StopsPiece tells bytes wanted before now stop.NoMemory = Unit {0}

-- the file begins with a geometry's header
abbrev pub BeginsImage : Option (List ℕ) → Geo → Type 0
BeginsImage None geo = Unit {0}
BeginsImage (Some bytes) geo = take 64 bytes ≡ header_bytes geo

-- a file of this length is refused, or a call failed
abbrev pub StopsGeo : Type 0 → Option (List ℕ) → ℕ → ℕ → ℕ → ImageStop → Type 0
StopsGeo tells file size before now stop.Missing = ⊥
StopsGeo tells file size before now (stop.Refused why) = tells → option_map length file ≡ Some size → HoldsRefused file why
StopsGeo tells file size before now stop.Fault = Rose before now
StopsGeo tells file size before now stop.NoMemory = Unit {0}

-- the image of this map is there
abbrev pub HoldsImage : Option (List ℕ) → MapWords → Type 0
HoldsImage None map = ⊥
HoldsImage (Some bytes) map = (refusal_of bytes ≡ None) × (bytes ≡ image_bytes map)

-- a fault or want of memory, which say nothing of the file
abbrev pub IsFaultOrNoMemory : ImageStop → Type 0
IsFaultOrNoMemory stop.Missing = ⊥
IsFaultOrNoMemory (stop.Refused why) = ⊥
IsFaultOrNoMemory stop.Fault = Unit {0}
IsFaultOrNoMemory stop.NoMemory = Unit {0}
