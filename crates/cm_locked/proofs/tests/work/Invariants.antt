use Rattle.std.proofs.Common.{◌≡◌}
use Rattle.cm_lock.specs.Tables.{IsOf, level_of, view_of}
use Rattle.cm_locked.specs.SeatTrials.{IsIdle}
use Rattle.cm_lock.specs.declared.view.Level.TheVariants.{Free}
use Rattle.cm_locked.proofs.tests.work.Given as goal

abbrev pub invariant-loop-number : goal.invariant-loop-number
invariant-loop-number l = record {
  its : IsOf l.seat l.shared.table;
  number : (view_of l.seat).own.number ≡ (view_of l.initial.seat).own.number;
  level : level_of l.seat ≡ Free;
  idle : IsIdle (view_of l.seat);
}
