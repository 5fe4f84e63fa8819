-- Why a map was not read from a file or not saved (own).
use Rattle.std.specs.Prelude.{ℕ, List, Option, Some, None}
use Rattle.chronmap.specs.declared.stop.Stop.{Stop}
use Rattle.chronmap.specs.declared.stop.Stop.TheVariants as stop
use Rattle.chronmap.specs.Refusals.{IsBroken, IsMissing, IsNoImage}
use Rattle.chronmap.specs.Vaults.{CountsVaultFault, KeepsFiles, KeepsOthers, VaultView}

-- the file is missing, no image, or one of a map that isn't lawful, or a fault was counted; want of memory is free
abbrev pub StopsReading : List ℕ → VaultView → VaultView → Stop → Type 0
StopsReading name old new stop.NoMemory = Unit {0}
StopsReading name old new stop.Missing = IsMissing name old
StopsReading name old new (stop.NotImage why) = IsNoImage name why old
StopsReading name old new (stop.Broken broken) = IsBroken name broken old
StopsReading name old new stop.VaultFault = CountsVaultFault old new
StopsReading name old new _ = ⊥

-- a fault was counted, and no other file was changed; where memory was wanting, none was
abbrev pub StopsSaving : List ℕ → VaultView → VaultView → Stop → Type 0
StopsSaving name old new stop.NoMemory = KeepsFiles old new
StopsSaving name old new stop.VaultFault = CountsVaultFault old new × KeepsOthers name old new
StopsSaving name old new _ = ⊥

-- a stop that is none of a broken law
abbrev pub AsksNoLaw : Stop → Type 0
AsksNoLaw (stop.Broken broken) = ⊥
AsksNoLaw _ = Unit {0}

-- of the map that a run ends with, where there is a name for it
abbrev pub StopsSavingLast : Option (List ℕ) → VaultView → VaultView → Stop → Type 0
StopsSavingLast None old new why = ⊥
StopsSavingLast (Some name) old new why = StopsSaving name old new why

-- a map was not recovered: it was not read, or not saved, and where memory was wanting no file was changed
abbrev pub StopsRecovering : List ℕ → List ℕ → VaultView → VaultView → Stop → Type 0
StopsRecovering name later_name old new stop.NoMemory = KeepsFiles old new
StopsRecovering name later_name old new stop.Missing = IsMissing name old × KeepsFiles old new
StopsRecovering name later_name old new (stop.NotImage why) = IsNoImage name why old × KeepsFiles old new
StopsRecovering name later_name old new stop.VaultFault = CountsVaultFault old new × KeepsOthers later_name old new
StopsRecovering name later_name old new _ = ⊥
