-- Why a run stopped, and what it left and saved, from what the calls below it did.
use Rattle.std.specs.Prelude.{◌≡◌, ℕ, List, [], Option, Some, None}
use Rattle.std.proofs.Common.{◌∙◌, refl, subst, sym}
use Rattle.cm_geo.specs.declared.geo.Geo.{Geo}
use Rattle.cm_geo.specs.Geometry.{IsGeoOf}
use Rattle.cm_words.specs.Maps.{MapWords}
use Rattle.cm_command.specs.declared.command.Command.TheVariants as command
use Rattle.cm_command.specs.declared.command.Origin.{Origin}
use Rattle.cm_command.specs.declared.command.Origin.TheVariants as origin
use Rattle.cm_command.specs.declared.numbers.Numbers.{Numbers}
use Rattle.chronmap.specs.declared.stop.Stop.{Stop}
use Rattle.chronmap.specs.declared.stop.Stop.TheVariants as stop
use Rattle.chronmap.specs.FileStops.{StopsReading, StopsSaving, StopsSavingLast}
use Rattle.chronmap.specs.FirstStops.{LeavesFirst, StopsEmpty, StopsFirst, StopsScript}
use Rattle.chronmap.specs.Lent.{Lent}
use Rattle.chronmap.specs.Refusals.{HasGeometry, Stops}
use Rattle.chronmap.specs.Runs.{BeginsWith, IsEmptyMapOf, empty_map, refusal_of}
use Rattle.chronmap.specs.Taken.{Leaves, LeavesVault}
use Rattle.chronmap.specs.Vaults.{IsSaved, KeepsAllBut, KeepsFiles, SameVault, VaultView}
use Rattle.chronmap.proofs.StopCauses.{counts-behind, keeps-others, keeps-same, keeps-then-others, keeps-two}

-- ---- what stays

pub same-itself : (v : VaultView) → SameVault v v
same-itself v = record { tells = λ t. t; files = refl; faults = refl }

same-two : (one two three : VaultView) → SameVault one two → SameVault two three → SameVault one three
same-two one two three a b = record { tells = λ t. b.tells (a.tells t); files = b.files ∙ a.files; faults = b.faults ∙ a.faults }

-- the map that a run begins with is had without a change of a file
pub keeps-first : (from : Origin) (old new : VaultView) → LeavesFirst from old new → KeepsFiles old new
keeps-first (origin.Numbers n) old new same = keeps-same old new same
keeps-first (origin.Image image) old new keeps = keeps

keeps-all-but : (save : Option (List ℕ)) (old new : VaultView) → KeepsFiles old new → KeepsAllBut save old new
keeps-all-but None old new keeps = keeps
keeps-all-but (Some name) old new keeps = keeps-others name old new keeps

leaves-vault : (from : Origin) (save : Option (List ℕ)) (one two three : VaultView) → LeavesFirst from one two → (save ≡ None → SameVault two three)
    → LeavesVault (command.Run from save []) one three
leaves-vault (origin.Numbers n) None one two three first later = same-two one two three first (later refl)
leaves-vault (origin.Numbers n) (Some name) one two three first later = tt
leaves-vault (origin.Image image) None one two three first later = tt
leaves-vault (origin.Image image) (Some name) one two three first later = tt

-- the vault is left by a run that was to save nothing, where the calls after its first map left it
pub leaves-run : (from : Origin) (save : Option (List ℕ)) (old new : Lent) (begun : VaultView) → LeavesFirst from old.vault begun
    → (save ≡ None → SameVault begun new.vault) → Leaves (command.Run from save []) old new
leaves-run from save old new begun first later = record { source = tt; vault = leaves-vault from save old.vault begun new.vault first later }

-- what was saved behind calls that changed no file is what was saved since before them
pub saved-behind : (save : Option (List ℕ)) (map : MapWords) (one two three : VaultView) → KeepsFiles one two → IsSaved save map two three
    → IsSaved save map one three
saved-behind None map one two three keeps saved = keeps-two one two three keeps saved
saved-behind (Some name) map one two three keeps saved = record {
  others = keeps-then-others name one two three keeps saved.others;
  written = λ t. saved.written (keeps.tells t);
}

-- the words of a new map are those of the map of its numbers in which nothing was written
pub empty-is : (n : Numbers) (geo : Geo) (map : MapWords) → refusal_of n ≡ None → IsGeoOf geo n.segments n.tiers n.chunks n.chunk_words n.extra
    → map ≡ empty_map geo → IsEmptyMapOf n map
empty-is n geo map accepted is e = subst (IsEmptyMapOf n) (sym e) (record { accepted = accepted; geo_is = is; empty = refl })

-- ---- why it stopped

-- numbers that a run began with are a geometry
has-geometry : (from : Origin) (save : Option (List ℕ)) (vault : VaultView) (first : MapWords) → BeginsWith from vault first
    → HasGeometry (command.Run from save [])
has-geometry (origin.Numbers n) save vault first begins = begins.accepted
has-geometry (origin.Image image) save vault first begins = tt

-- for want of memory, before a file was written
pub no-memory : (from : Origin) (save : Option (List ℕ)) (old new : Lent) → LeavesFirst from old.vault new.vault
    → Stops (command.Run from save []) old new stop.NoMemory
no-memory from save old new leaves = record { cause = tt; keeps = keeps-first from old.vault new.vault leaves }

no-empty : (n : Numbers) (save : Option (List ℕ)) (old new : Lent) (why : Stop) → KeepsFiles old.vault new.vault → StopsEmpty n why
    → Stops (command.Run (origin.Numbers n) save []) old new why
no-empty n save old new stop.NoMemory keeps s = record { cause = tt; keeps = keeps }
no-empty n save old new stop.Usage keeps s = absurd s
no-empty n save old new (stop.Geometry w) keeps s = record { cause = s; keeps = keeps }
no-empty n save old new stop.Missing keeps s = absurd s
no-empty n save old new (stop.NotImage w) keeps s = absurd s
no-empty n save old new (stop.Broken b) keeps s = absurd s
no-empty n save old new stop.TooLong keeps s = absurd s
no-empty n save old new (stop.Refused line w) keeps s = absurd s
no-empty n save old new stop.ReadFault keeps s = absurd s
no-empty n save old new stop.VaultFault keeps s = absurd s

no-image : (image : List ℕ) (save : Option (List ℕ)) (old new : Lent) (why : Stop) → KeepsFiles old.vault new.vault
    → StopsReading image old.vault new.vault why → Stops (command.Run (origin.Image image) save []) old new why
no-image image save old new stop.NoMemory keeps s = record { cause = tt; keeps = keeps }
no-image image save old new stop.Usage keeps s = absurd s
no-image image save old new (stop.Geometry w) keeps s = absurd s
no-image image save old new stop.Missing keeps s = record { cause = (image, refl, s); keeps = keeps }
no-image image save old new (stop.NotImage w) keeps s = record { cause = (image, refl, s); keeps = keeps }
no-image image save old new (stop.Broken b) keeps s = record { cause = (tt, (image, refl, s)); keeps = keeps }
no-image image save old new stop.TooLong keeps s = absurd s
no-image image save old new (stop.Refused line w) keeps s = absurd s
no-image image save old new stop.ReadFault keeps s = absurd s
no-image image save old new stop.VaultFault keeps s = record { cause = (tt, s); keeps = keeps-all-but save old.vault new.vault keeps }

-- there was no map to begin with
pub no-first : (from : Origin) (save : Option (List ℕ)) (old new : Lent) (why : Stop) → LeavesFirst from old.vault new.vault
    → StopsFirst from old.vault new.vault why → Stops (command.Run from save []) old new why
no-first (origin.Numbers n) save old new why leaves s = no-empty n save old new why (keeps-same old.vault new.vault leaves) s
no-first (origin.Image image) save old new why leaves s = no-image image save old new why leaves s

-- the input was not read, or is no script for the first map
pub no-input-script : (from : Origin) (save : Option (List ℕ)) (old new : Lent) (first : MapWords) (why : Stop) → BeginsWith from old.vault first
    → LeavesFirst from old.vault new.vault → StopsScript first.geo old.source new.source why → Stops (command.Run from save []) old new why
no-input-script from save old new first stop.NoMemory begins leaves s = no-memory from save old new leaves
no-input-script from save old new first stop.Usage begins leaves s = absurd s
no-input-script from save old new first (stop.Geometry w) begins leaves s = absurd s
no-input-script from save old new first stop.Missing begins leaves s = absurd s
no-input-script from save old new first (stop.NotImage w) begins leaves s = absurd s
no-input-script from save old new first (stop.Broken b) begins leaves s = absurd s
no-input-script from save old new first stop.TooLong begins leaves s = record {
  cause = record { first = first; begins = begins; input = s };
  keeps = keeps-first from old.vault new.vault leaves;
}
no-input-script from save old new first (stop.Refused line w) begins leaves s = record {
  cause = record { first = first; begins = begins; input = s };
  keeps = keeps-first from old.vault new.vault leaves;
}
no-input-script from save old new first stop.ReadFault begins leaves s = record {
  cause = ((first, begins), s);
  keeps = keeps-first from old.vault new.vault leaves;
}
no-input-script from save old new first stop.VaultFault begins leaves s = absurd s

no-save : (from : Origin) (name : List ℕ) (old new : Lent) (begun : VaultView) (first : MapWords) (why : Stop) → BeginsWith from old.vault first
    → KeepsFiles old.vault begun → StopsSaving name begun new.vault why → Stops (command.Run from (Some name) []) old new why
no-save from name old new begun first stop.NoMemory begins keeps s = record { cause = tt; keeps = keeps-two old.vault begun new.vault keeps s }
no-save from name old new begun first stop.Usage begins keeps s = absurd s
no-save from name old new begun first (stop.Geometry w) begins keeps s = absurd s
no-save from name old new begun first stop.Missing begins keeps s = absurd s
no-save from name old new begun first (stop.NotImage w) begins keeps s = absurd s
no-save from name old new begun first (stop.Broken b) begins keeps s = absurd s
no-save from name old new begun first stop.TooLong begins keeps s = absurd s
no-save from name old new begun first (stop.Refused line w) begins keeps s = absurd s
no-save from name old new begun first stop.ReadFault begins keeps s = absurd s
no-save from name old new begun first stop.VaultFault begins keeps s = record {
  cause = (has-geometry from (Some name) old.vault first begins, counts-behind old.vault begun new.vault keeps s.0);
  keeps = keeps-then-others name old.vault begun new.vault keeps s.1;
}

-- the last map was not saved
pub no-save-last : (from : Origin) (save : Option (List ℕ)) (old new : Lent) (begun : VaultView) (first : MapWords) (why : Stop)
    → BeginsWith from old.vault first → LeavesFirst from old.vault begun → StopsSavingLast save begun new.vault why
    → Stops (command.Run from save []) old new why
no-save-last from None old new begun first why begins leaves s = absurd s
no-save-last from (Some name) old new begun first why begins leaves s =
    no-save from name old new begun first why begins (keeps-first from old.vault begun leaves) s
