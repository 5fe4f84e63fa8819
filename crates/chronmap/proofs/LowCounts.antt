-- Counts of gates that are low.
use Rattle.std.proofs.Common.{arith}
use Rattle.cm_run.specs.GateCounts.{IsNew}
use Rattle.cm_run.specs.Gates.{MakerSeen}
use Rattle.cm_run.specs.RunGates.{IsCountable}
use Rattle.chronmap.specs.GateCounts.{CountsAreLow}

-- one gate and one death more can be counted
pub low_countable : (m : MakerSeen) → CountsAreLow m → IsCountable m
low_countable m low = λ caller below. let counts = low caller below in (omega (arith, counts.0), omega (arith, counts.1))

-- before the first gate
pub new_low : (m : MakerSeen) → IsNew m → CountsAreLow m
new_low m new = λ caller below. rw (new caller) (omega arith, omega arith)
