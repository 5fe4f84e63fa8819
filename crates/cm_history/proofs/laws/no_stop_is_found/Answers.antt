use Rattle.cm_history.proofs.Finishing.{no_stop}
use Rattle.cm_history.proofs.laws.no_stop_is_found.Goals as goal

pub returns : goal.returns
returns c = no_stop
