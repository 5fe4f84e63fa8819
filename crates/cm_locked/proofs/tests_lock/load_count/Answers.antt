use Rattle.cm_locked.proofs.SeatTrials.{count_inside}
use Rattle.cm_locked.proofs.tests_lock.load_count.Goals as goal

pub load-requires-clause-in_range : goal.load-requires-clause-in_range
load-requires-clause-in_range g c = count_inside c.hold-hold.result.table.now.table.shared.key.geo
