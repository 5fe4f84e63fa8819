use Rattle.cm_laws.proofs.StopLevels.{splits_left}
use Rattle.cm_laws.proofs.laws.splits_keep_stops.Goals as goal

pub returns : goal.returns
returns c = splits_left
