use Rattle.cm_laws.proofs.Balancing.{lists_balance}
use Rattle.cm_laws.proofs.laws.lists_keep_balance.Goals as goal

pub returns : goal.returns
returns c = lists_balance
