use Rattle.cm_laws.proofs.Balancing.{joins_balance}
use Rattle.cm_laws.proofs.laws.joins_keep_balance.Goals as goal

pub returns : goal.returns
returns c = joins_balance
