use Rattle.cm_laws.proofs.Owing.{starts_owing}
use Rattle.cm_laws.proofs.laws.starts_owe_nothing.Goals as goal

pub returns : goal.returns
returns c = starts_owing
