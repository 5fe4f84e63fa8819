use Rattle.cm_laws.proofs.Balancing.{splits_balance}
use Rattle.cm_laws.proofs.laws.splits_keep_balance.Goals as goal

pub returns : goal.returns
returns c = splits_balance
