use Rattle.cm_plain.specs.Plans.{plan_change}
use Rattle.cm_lock.proofs.table.SegTable.store_begin.Given as goal

abbrev pub ghosts-store_begin_as : goal.ghosts-store_begin_as
ghosts-store_begin_as a = record { change = plan_change a._plan.now }
