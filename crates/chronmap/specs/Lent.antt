-- What is lent to a command beside its sink (own).
use Rattle.cm_run.specs.Gates.{MakerSeen}
use Rattle.chronmap.specs.Streams.{StreamView}
use Rattle.chronmap.specs.Vaults.{VaultView}

-- the source of a script, the files, and the maker of gates
pub record Lent : Type 1 where
  pub source : StreamView
  pub vault : VaultView
  pub gates : MakerSeen

abbrev pub lent : StreamView → VaultView → MakerSeen → Lent
lent source vault gates = record { source = source; vault = vault; gates = gates }
