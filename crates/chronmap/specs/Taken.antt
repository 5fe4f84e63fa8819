-- Which commands are taken, and what each of them reads and writes (own).
use Rattle.std.specs.Prelude.{◌≡◌, ℕ, List, [], Option, Some, None}
use Rattle.cm_command.specs.Grammar.{AsksFor}
use Rattle.cm_command.specs.declared.command.Command.{Command}
use Rattle.cm_command.specs.declared.command.Command.TheVariants as command
use Rattle.cm_command.specs.declared.command.Origin.TheVariants as origin
use Rattle.chronmap.specs.Lent.{Lent}
use Rattle.chronmap.specs.Streams.{StreamView}
use Rattle.chronmap.specs.Vaults.{SameVault, VaultView}

-- all commands, but no run with a kill
abbrev pub IsTaken : Command → Type 0
IsTaken (command.Run from save kills) = kills ≡ []
IsTaken _ = Unit {0}

-- those that run nothing
abbrev pub IsOffline : Command → Type 0
IsOffline (command.Run from save kills) = ⊥
IsOffline (command.Make records seed) = ⊥
IsOffline _ = Unit {0}

-- the words ask for no command that is taken
abbrev pub AsksForNoneOf : (Command → Type 0) → List (List ℕ) → Type 0
AsksForNoneOf takes words = (it : Command) → AsksFor words it → takes it → ⊥

-- the name of the image that a command reads
abbrev pub image_read : Command → Option (List ℕ)
image_read (command.Run (origin.Numbers n) save kills) = None
image_read (command.Run (origin.Image name) save kills) = Some name
image_read (command.Make records seed) = None
image_read (command.Check name) = Some name
image_read (command.Print name) = Some name
image_read (command.Recover name new) = Some name

-- the name of the image that it writes
abbrev pub image_written : Command → Option (List ℕ)
image_written (command.Run from save kills) = save
image_written (command.Recover name new) = Some new
image_written _ = None

-- any words may be recovered; every other command wants a lawful map
abbrev pub WantsLawful : Command → Type 0
WantsLawful (command.Recover name new) = ⊥
WantsLawful _ = Unit {0}

-- only a run reads a script
abbrev pub LeavesSource : Command → StreamView → StreamView → Type 0
LeavesSource (command.Run from save kills) old new = Unit {0}
LeavesSource _ old new = new ≡ old

-- no vault is called where no file is named
abbrev pub LeavesVault : Command → VaultView → VaultView → Type 0
LeavesVault (command.Run (origin.Numbers n) None kills) old new = SameVault old new
LeavesVault (command.Make records seed) old new = SameVault old new
LeavesVault _ old new = Unit {0}

-- what a command has no use for is left as it was
pub record Leaves (it : Command) (old new : Lent) : Type 0 where
  pub source : LeavesSource it old.source new.source
  pub vault : LeavesVault it old.vault new.vault

-- nothing was touched
pub record Untouched (old new : Lent) : Type 0 where
  pub source : new.source ≡ old.source
  pub vault : SameVault old.vault new.vault
  pub gates : new.gates ≡ old.gates
