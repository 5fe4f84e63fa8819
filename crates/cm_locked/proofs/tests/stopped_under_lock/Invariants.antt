use Rattle.std.proofs.Common.{◌≡◌}
use Rattle.cm_lock.specs.Tables.{level_of}
use Rattle.cm_locked.specs.SeatTrials.{IsReady}
use Rattle.cm_lock.specs.declared.view.Level.TheVariants.{Free}
use Rattle.cm_locked.proofs.tests.stopped_under_lock.Given as goal

abbrev pub invariant-loop : goal.invariant-loop
invariant-loop l = record {
  zero : IsReady 0 l.shared.table l.zero;
  level : level_of l.zero ≡ Free;
}
