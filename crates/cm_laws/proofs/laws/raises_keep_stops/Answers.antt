use Rattle.cm_laws.proofs.StopLevels.{raises_left}
use Rattle.cm_laws.proofs.laws.raises_keep_stops.Goals as goal

pub returns : goal.returns
returns c = raises_left
