use Rattle.std.proofs.Common.{◌≡◌}
use Rattle.cm_lock.specs.Tables.{IsOf, view_of}
use Rattle.cm_locked.specs.SeatTrials.{IsIdle}
use Rattle.cm_locked.proofs.tests_lock.work.Given as goal

abbrev pub invariant-loop-number : goal.invariant-loop-number
invariant-loop-number l = record {
  its : IsOf l.seat l.table;
  number : (view_of l.seat).own.number ≡ (view_of l.initial.seat).own.number;
  idle : IsIdle (view_of l.seat);
}
