use Rattle.cm_laws.proofs.Balancing.{opening_balance}
use Rattle.cm_laws.proofs.laws.openings_keep_balance.Goals as goal

pub returns : goal.returns
returns c = opening_balance
