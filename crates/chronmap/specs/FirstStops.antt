-- Why a run did not begin (own).
use Rattle.std.specs.Prelude.{◌≡◌, Some}
use Rattle.cm_geo.specs.declared.geo.Geo.{Geo}
use Rattle.cm_command.specs.declared.command.Origin.{Origin}
use Rattle.cm_command.specs.declared.command.Origin.TheVariants as origin
use Rattle.cm_command.specs.declared.numbers.Numbers.{Numbers}
use Rattle.cm_script.specs.Scripts.{too_long, refused}
use Rattle.chronmap.specs.declared.stop.Stop.{Stop}
use Rattle.chronmap.specs.declared.stop.Stop.TheVariants as stop
use Rattle.chronmap.specs.FileStops.{StopsReading}
use Rattle.chronmap.specs.Refusals.{RefusesInput}
use Rattle.chronmap.specs.Runs.{refusal_of}
use Rattle.chronmap.specs.Streams.{StreamView, CountsFault}
use Rattle.chronmap.specs.Vaults.{KeepsFiles, SameVault, VaultView}

-- the numbers are no geometry; want of memory is free
abbrev pub StopsEmpty : Numbers → Stop → Type 0
StopsEmpty n stop.NoMemory = Unit {0}
StopsEmpty n (stop.Geometry why) = refusal_of n ≡ Some why
StopsEmpty n _ = ⊥

-- there was no map to begin with
abbrev pub StopsFirst : Origin → VaultView → VaultView → Stop → Type 0
StopsFirst (origin.Numbers n) old new why = StopsEmpty n why
StopsFirst (origin.Image name) old new why = StopsReading name old new why

-- numbers need no vault, and to read an image changes no file
abbrev pub LeavesFirst : Origin → VaultView → VaultView → Type 0
LeavesFirst (origin.Numbers n) old new = SameVault old new
LeavesFirst (origin.Image name) old new = KeepsFiles old new

-- there was no script: a fault was counted, or the input is none
abbrev pub StopsScript : Geo → StreamView → StreamView → Stop → Type 0
StopsScript geo old new stop.NoMemory = Unit {0}
StopsScript geo old new stop.TooLong = RefusesInput geo too_long old new
StopsScript geo old new (stop.Refused line why) = RefusesInput geo (refused line why) old new
StopsScript geo old new stop.ReadFault = CountsFault old new
StopsScript geo old new _ = ⊥
