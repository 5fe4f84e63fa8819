use Rattle.cm_laws.proofs.StopLevels.{looks_left}
use Rattle.cm_laws.proofs.laws.looks_keep_stops.Goals as goal

pub returns : goal.returns
returns c = looks_left
