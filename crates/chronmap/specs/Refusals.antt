-- Why a command is not done, with the status and the text of each refusal (own).
use Rattle.std.specs.Prelude.{◌≡◌, ℕ, List, Some, None, Err}
use Rattle.cm_geo.specs.declared.geo.Geo.{Geo}
use Rattle.cm_geo.specs.declared.refused.GeoRefused.{GeoRefused}
use Rattle.cm_words.specs.Maps.{MapWords}
use Rattle.cm_check.specs.LawOrder.{first_broken}
use Rattle.cm_check.specs.declared.law.Broken.{Broken}
use Rattle.cm_image.specs.declared.refused.ImageRefused.{ImageRefused}
use Rattle.cm_image.specs.Stops.{HoldsRefused}
use Rattle.cm_command.specs.declared.command.Command.{Command}
use Rattle.cm_command.specs.declared.command.Command.TheVariants as command
use Rattle.cm_command.specs.declared.command.Origin.{Origin}
use Rattle.cm_command.specs.declared.command.Origin.TheVariants as origin
use Rattle.cm_script.specs.Scripts.{Refusal, too_long, refused, script_of}
use Rattle.chronmap.specs.declared.source.TheConstants.{MOST_TAKEN}
use Rattle.chronmap.specs.declared.stop.Stop.{Stop}
use Rattle.chronmap.specs.declared.stop.Stop.TheVariants as stop
use Rattle.chronmap.specs.Lent.{Lent}
use Rattle.chronmap.specs.Runs.{BeginsWith, refusal_of}
use Rattle.chronmap.specs.Streams.{StreamView, ReadsUpTo, CountsFault}
use Rattle.chronmap.specs.Taken.{WantsLawful, image_read, image_written}
use Rattle.chronmap.specs.Vaults.{CountsVaultFault, Holds, KeepsAllBut, KeepsFiles, VaultView}

-- the input was read, and is no script for this geometry, for this reason
pub record RefusesInput (geo : Geo) (why : Refusal) (old new : StreamView) : Type 0 where
  pub input : List ℕ
  pub reads : ReadsUpTo MOST_TAKEN old new input
  pub refuses : script_of geo input ≡ Err why

-- a run was to begin with a map, and its input is no script for that map's geometry
pub record RefusesScriptOf (from : Origin) (why : Refusal) (old new : Lent) : Type 0 where
  pub first : MapWords
  pub begins : BeginsWith from old.vault first
  pub input : RefusesInput first.geo why old.source new.source

abbrev pub RefusesScript : Command → Refusal → Lent → Lent → Type 0
RefusesScript (command.Run from save kills) why old new = RefusesScriptOf from why old new
RefusesScript _ why old new = ⊥

-- a run was to begin with numbers that are no geometry, for this reason
abbrev pub RefusesNumbers : Command → GeoRefused → Type 0
RefusesNumbers (command.Run (origin.Numbers n) save kills) why = refusal_of n ≡ Some why
RefusesNumbers _ why = ⊥

-- there is no file of this name
abbrev pub IsMissing : List ℕ → VaultView → Type 0
IsMissing name vault = vault.tells → vault.files name ≡ None

-- the file of this name is no image, for this reason
abbrev pub IsNoImage : List ℕ → ImageRefused → VaultView → Type 0
IsNoImage name why vault = vault.tells → HoldsRefused (vault.files name) why

-- it holds the image of a map of which this law is the first broken one
pub record IsBroken (name : List ℕ) (broken : Broken) (vault : VaultView) : Type 0 where
  pub map : MapWords
  pub holds : Holds vault name map
  pub first : first_broken map ≡ Some broken

-- a cause by the name of the image that is read
abbrev pub OfRead : Command → (List ℕ → Type 0) → Type 0
OfRead it cause = (name : List ℕ) × (image_read it ≡ Some name) × cause name

-- the cause of a refused file
abbrev pub CausesImage : Command → VaultView → Stop → Type 0
CausesImage it vault stop.Missing = OfRead it (λ name. IsMissing name vault)
CausesImage it vault (stop.NotImage why) = OfRead it (λ name. IsNoImage name why vault)
CausesImage it vault (stop.Broken broken) = WantsLawful it × OfRead it (λ name. IsBroken name broken vault)
CausesImage it vault _ = ⊥

-- numbers to begin with, if there are any, are a geometry
abbrev pub HasGeometry : Command → Type 0
HasGeometry (command.Run (origin.Numbers n) save kills) = refusal_of n ≡ None
HasGeometry _ = Unit {0}

-- a run had a map to begin with
abbrev pub HasBegun : Command → VaultView → Type 0
HasBegun (command.Run from save kills) vault = (first : MapWords) × BeginsWith from vault first
HasBegun _ vault = ⊥

-- the cause of each stop of a command; want of memory is free
abbrev pub CausesStop : Command → Lent → Lent → Stop → Type 0
CausesStop it old new stop.NoMemory = Unit {0}
CausesStop it old new stop.Usage = ⊥
CausesStop it old new (stop.Geometry why) = RefusesNumbers it why
CausesStop it old new stop.Missing = CausesImage it old.vault stop.Missing
CausesStop it old new (stop.NotImage why) = CausesImage it old.vault (stop.NotImage why)
CausesStop it old new (stop.Broken broken) = CausesImage it old.vault (stop.Broken broken)
CausesStop it old new stop.TooLong = RefusesScript it too_long old new
CausesStop it old new (stop.Refused line cause) = RefusesScript it (refused line cause) old new
CausesStop it old new stop.ReadFault = HasBegun it old.vault × CountsFault old.source new.source
CausesStop it old new stop.VaultFault = HasGeometry it × CountsVaultFault old.vault new.vault

-- after a fault of the vault the file that was to be written may be another; in all else no file was changed
abbrev pub KeepsAfter : Stop → Command → VaultView → VaultView → Type 0
KeepsAfter stop.VaultFault it old new = KeepsAllBut (image_written it) old new
KeepsAfter _ it old new = KeepsFiles old new

-- a command stopped, for a cause
pub record Stops (it : Command) (old new : Lent) (why : Stop) : Type 0 where
  pub cause : CausesStop it old new why
  pub keeps : KeepsAfter why it old.vault new.vault
