use Rattle.cm_laws.proofs.Owing.{spent_near}
use Rattle.cm_laws.proofs.laws.spent_is_near.Goals as goal

pub returns : goal.returns
returns c = spent_near
