use Rattle.std.proofs.Common.{◌≡◌, ◌≤◌, ◌-◌, ◌*◌, take, vec_len}
use Rattle.cm_image.specs.Files.{SameFiles, bytes_from}
use Rattle.cm_image.specs.Images.{word_bytes}
use Rattle.cm_image.proofs.stored.read_words.Given as goal

abbrev pub invariant-loop-piece : goal.invariant-loop-piece
invariant-loop-piece g l = record {
  within : vec_len l.words ≤ l.count;
  rises : g.V.Vault.faults l.fn.vault ≤ g.V.Vault.faults l.vault;
  tells : g.V.Vault.tells l.fn.vault → g.V.Vault.tells l.vault;
  same : g.V.Vault.tells l.fn.vault → SameFiles (g.V.Vault.files l.fn.vault) (g.V.Vault.files l.vault);
  words : g.V.Vault.tells l.fn.vault → word_bytes l.words.items ≡ take (8 * vec_len l.words) (bytes_from (g.V.Vault.files l.fn.vault l.name) 64);
}

abbrev pub decreases-loop-piece : goal.decreases-loop-piece
decreases-loop-piece g l = l.count - vec_len l.words
