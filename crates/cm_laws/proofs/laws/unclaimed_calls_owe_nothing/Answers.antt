use Rattle.cm_laws.proofs.Owing.{unclaimed_owing}
use Rattle.cm_laws.proofs.laws.unclaimed_calls_owe_nothing.Goals as goal

pub returns : goal.returns
returns c = unclaimed_owing
