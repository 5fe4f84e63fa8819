-- The rounds so far failed.
use Rattle.std.proofs.Common.{◌≡◌, length}
use Rattle.cm_words.specs.Meters.{Survives}
use Rattle.cm_lock.specs.Rule.{seat_meter}
use Rattle.cm_lock.specs.Tables.{IsOf, view_of}
use Rattle.cm_turn.specs.Rounds.{FailsRounds}
use Rattle.cm_turn.proofs.rounds.get_in_rounds.Given as goal

abbrev pub invariant-loop : goal.invariant-loop
invariant-loop g l = record {
  its : IsOf l.seat l.ground.table.now;
  failed : FailsRounds l.counter (view_of l.initial.seat) (view_of l.seat);
  lives : Survives (seat_meter (g.F.Fuse.fused l.initial.fuse) (view_of l.initial.seat)) (seat_meter (g.F.Fuse.fused l.fuse) (view_of l.seat));
  long : length l.out ≡ length l.initial.out;
}
