use Rattle.cm_history.proofs.Finishing.{ends_legal}
use Rattle.cm_history.proofs.laws.calls_end_legal.Goals as goal

pub returns : goal.returns
returns c = ends_legal
