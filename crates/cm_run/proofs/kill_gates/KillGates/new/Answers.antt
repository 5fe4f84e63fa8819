use Rattle.cm_run.proofs.GateArrays.{none_counted}
use Rattle.cm_run.proofs.kill_gates.KillGates.new.Goals as goal

pub returns : goal.returns
returns c = none_counted
