use Rattle.cm_locked.specs.SeatTrials.{IsNumbered, IsReady, IsRootOfFour}
use Rattle.cm_locked.proofs.tests_lock.dead_writer_excludes_all.Given as goal

abbrev pub invariant-loop-what : goal.invariant-loop-what
invariant-loop-what g l = record {
  root : IsRootOfFour l.table l.root;
  zero : IsNumbered 0 l.table l.zero;
  one : IsReady 1 l.table l.one;
  two : IsReady 2 l.table l.two;
  three : IsReady 3 l.table l.three;
}
