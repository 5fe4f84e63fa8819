use Rattle.cm_laws.proofs.StopLevels.{stops_stand}
use Rattle.cm_laws.proofs.laws.stops_stand_for_levels.Goals as goal

pub returns : goal.returns
returns c = stops_stand
