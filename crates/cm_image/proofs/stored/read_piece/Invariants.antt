use Rattle.std.proofs.Common.{◌≤◌, ◌-◌, length}
use Rattle.cm_image.specs.Files.{SameFiles, bytes_from}
use Rattle.cm_image.proofs.Reading.{IsPrefix}
use Rattle.cm_image.proofs.stored.read_piece.Given as goal

abbrev pub invariant-loop-at : goal.invariant-loop-at
invariant-loop-at g l = record {
  within : l.at ≤ length l.piece;
  rises : g.V.Vault.faults l.fn.vault ≤ g.V.Vault.faults l.vault;
  tells : g.V.Vault.tells l.fn.vault → g.V.Vault.tells l.vault;
  same : g.V.Vault.tells l.fn.vault → SameFiles (g.V.Vault.files l.fn.vault) (g.V.Vault.files l.vault);
  prefix : g.V.Vault.tells l.fn.vault → IsPrefix (bytes_from (g.V.Vault.files l.fn.vault l.name) l.from) l.at l.piece;
}

abbrev pub decreases-loop-at : goal.decreases-loop-at
decreases-loop-at g l = length l.initial.piece - l.at
