-- Gates of which none was made yet.
use Rattle.std.proofs.Common.{arith}
use Rattle.cm_run.specs.Gates.{MakerSeen}
use Rattle.cm_run.specs.GateCounts.{IsNew}
use Rattle.cm_run.specs.RunGates.{IsCountable}

-- one gate more can be counted for each caller, and one death more
pub new_countable : (m : MakerSeen) → IsNew m → IsCountable m
new_countable m new = λ caller below. rw (new caller) (omega arith, omega arith)
