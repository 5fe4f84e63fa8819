use Rattle.cm_laws.proofs.Owing.{joins_found}
use Rattle.cm_laws.proofs.laws.joins_keep_found.Goals as goal

pub returns : goal.returns
returns c = joins_found
