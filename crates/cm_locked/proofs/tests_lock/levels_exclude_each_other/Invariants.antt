use Rattle.cm_locked.specs.SeatTrials.{IsReady, IsRootOfFour}
use Rattle.cm_locked.proofs.tests_lock.levels_exclude_each_other.Given as goal

abbrev pub invariant-loop-who : goal.invariant-loop-who
invariant-loop-who g l = record {
  root : IsRootOfFour l.table l.root;
  zero : IsReady 0 l.table l.zero;
  one : IsReady 1 l.table l.one;
  two : IsReady 2 l.table l.two;
  three : IsReady 3 l.table l.three;
}
