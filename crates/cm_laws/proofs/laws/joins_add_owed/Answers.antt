use Rattle.cm_laws.proofs.Owing.{joins_owing}
use Rattle.cm_laws.proofs.laws.joins_add_owed.Goals as goal

pub returns : goal.returns
returns c = joins_owing
