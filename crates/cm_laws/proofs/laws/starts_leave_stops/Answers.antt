use Rattle.cm_laws.proofs.StopLevels.{starts_left}
use Rattle.cm_laws.proofs.laws.starts_leave_stops.Goals as goal

pub returns : goal.returns
returns c = starts_left
