use Rattle.cm_laws.proofs.Owing.{splits_owing}
use Rattle.cm_laws.proofs.laws.splits_owe_nothing.Goals as goal

pub returns : goal.returns
returns c = splits_owing
