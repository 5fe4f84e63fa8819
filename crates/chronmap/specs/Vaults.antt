-- What contracts see of a vault, and what a command does to its files (own).
use Rattle.std.specs.Prelude.{◌≡◌, ◌≤◌, ℕ, List, Option, Some, None}
use Rattle.cm_words.specs.Maps.{MapWords}
use Rattle.cm_image.specs.Faults.{Rose}
use Rattle.cm_image.specs.Files.{Files, SameBut, SameFiles}
use Rattle.cm_image.specs.Images.{image_bytes}
use Rattle.cm_image.specs.Stops.{HoldsImage}

-- whether its files are told, the files, and how many of its calls failed
pub record VaultView : Type 1 where
  pub tells : Type 0
  pub files : Files
  pub faults : ℕ

-- by what a type of vaults tells
abbrev pub vault_seen : {V : Type 0} → (V → Type 0) → (V → Files) → (V → ℕ) → V → VaultView
vault_seen tells files faults vault = record { tells = tells vault; files = files vault; faults = faults vault }

-- a fault was counted
abbrev pub CountsVaultFault : VaultView → VaultView → Type 0
CountsVaultFault old new = Rose old.faults new.faults

-- it was not called
pub record SameVault (old new : VaultView) : Type 0 where
  pub tells : old.tells → new.tells
  pub files : new.files ≡ old.files
  pub faults : new.faults ≡ old.faults

-- no file was changed
pub record KeepsFiles (old new : VaultView) : Type 0 where
  pub tells : old.tells → new.tells
  pub files : old.tells → SameFiles old.files new.files
  pub faults : old.faults ≤ new.faults

-- no file but this one was changed
pub record KeepsOthers (name : List ℕ) (old new : VaultView) : Type 0 where
  pub tells : old.tells → new.tells
  pub files : old.tells → SameBut name old.files new.files
  pub faults : old.faults ≤ new.faults

-- no file but the one that is to be written, if there is one
abbrev pub KeepsAllBut : Option (List ℕ) → VaultView → VaultView → Type 0
KeepsAllBut None old new = KeepsFiles old new
KeepsAllBut (Some name) old new = KeepsOthers name old new

-- the file holds the image of this map, and no other file was changed
pub record Saves (name : List ℕ) (map : MapWords) (old new : VaultView) : Type 0 where
  pub others : KeepsOthers name old new
  pub written : old.tells → new.files name ≡ Some (image_bytes map)

-- the map was saved, if there is a name for it
abbrev pub IsSaved : Option (List ℕ) → MapWords → VaultView → VaultView → Type 0
IsSaved None map old new = KeepsFiles old new
IsSaved (Some name) map old new = Saves name map old new

-- the file holds the image of this map
abbrev pub Holds : VaultView → List ℕ → MapWords → Type 0
Holds vault name map = vault.tells → HoldsImage (vault.files name) map
