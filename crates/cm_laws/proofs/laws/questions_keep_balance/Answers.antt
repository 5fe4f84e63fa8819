use Rattle.cm_laws.proofs.Balancing.{questions_balance}
use Rattle.cm_laws.proofs.laws.questions_keep_balance.Goals as goal

pub returns : goal.returns
returns c = questions_balance
