use Rattle.cm_laws.proofs.StopLevels.{unclaimed_left}
use Rattle.cm_laws.proofs.laws.unclaimed_calls_keep_stops.Goals as goal

pub returns : goal.returns
returns c = unclaimed_left
