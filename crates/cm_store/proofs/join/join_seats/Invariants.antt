use Rattle.cm_store.proofs.Joining.{JoinsFrom}
use Rattle.cm_store.proofs.join.join_seats.Given as goal

abbrev pub invariant-loop-seat : goal.invariant-loop-seat
invariant-loop-seat l = JoinsFrom l.tables l.fn.roots.items l.fn.seats.items l.roots.items l.seats.items

abbrev pub decreases-loop-seat : goal.decreases-loop-seat
decreases-loop-seat l = goal.left-loop-seat l
