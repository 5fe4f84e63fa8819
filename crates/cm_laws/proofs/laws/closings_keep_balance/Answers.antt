use Rattle.cm_laws.proofs.Balancing.{closing_balance}
use Rattle.cm_laws.proofs.laws.closings_keep_balance.Goals as goal

pub returns : goal.returns
returns c = closing_balance
