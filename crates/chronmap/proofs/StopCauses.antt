-- Why a command stopped, from why the calls below it did.
use Rattle.std.specs.Prelude.{ℕ, List}
use Rattle.std.proofs.Common.{◌∙◌, arith, refl}
use Rattle.chronmap.specs.Vaults.{CountsVaultFault, KeepsFiles, KeepsOthers, SameVault, VaultView}

-- ---- what stays

pub keeps-itself : (v : VaultView) → KeepsFiles v v
keeps-itself v = record { tells = λ t. t; files = λ t name. refl; faults = omega arith }

pub keeps-same : (old new : VaultView) → SameVault old new → KeepsFiles old new
keeps-same old new same = record {
  tells = same.tells;
  files = λ t name. rw same.files refl;
  faults = rw same.faults (omega arith);
}

pub keeps-two : (one two three : VaultView) → KeepsFiles one two → KeepsFiles two three → KeepsFiles one three
keeps-two one two three a b = record {
  tells = λ t. b.tells (a.tells t);
  files = λ t name. b.files (a.tells t) name ∙ a.files t name;
  faults = let x = a.faults in let y = b.faults in omega (arith, x, y);
}

-- what keeps all files keeps all others
pub keeps-others : (name : List ℕ) (old new : VaultView) → KeepsFiles old new → KeepsOthers name old new
keeps-others name old new keeps = record { tells = keeps.tells; files = λ t other _. keeps.files t other; faults = keeps.faults }

pub keeps-then-others : (name : List ℕ) (one two three : VaultView) → KeepsFiles one two → KeepsOthers name two three → KeepsOthers name one three
keeps-then-others name one two three a b = record {
  tells = λ t. b.tells (a.tells t);
  files = λ t other different. b.files (a.tells t) other different ∙ a.files t other;
  faults = let x = a.faults in let y = b.faults in omega (arith, x, y);
}

-- a fault behind calls that kept the count is one from before them
pub counts-behind : (one two three : VaultView) → KeepsFiles one two → CountsVaultFault two three → CountsVaultFault one three
counts-behind one two three a b = let x = a.faults in omega (arith, x, b)
