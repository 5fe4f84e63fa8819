use Rattle.cm_history.proofs.Finishing.{ends_lawful}
use Rattle.cm_history.proofs.laws.calls_end_lawful.Goals as goal

pub returns : goal.returns
returns c = ends_lawful
