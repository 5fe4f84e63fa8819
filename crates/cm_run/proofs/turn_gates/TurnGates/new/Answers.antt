use Rattle.cm_run.proofs.GateArrays.{none_counted_alive}
use Rattle.cm_run.proofs.turn_gates.TurnGates.new.Goals as goal

pub returns : goal.returns
returns c = none_counted_alive
