use Rattle.cm_laws.proofs.StopLevels.{joins_left}
use Rattle.cm_laws.proofs.laws.joins_keep_stops.Goals as goal

pub returns : goal.returns
returns c = joins_left
