use Rattle.cm_words.specs.Meters.{Survives}
use Rattle.cm_lock.specs.Rule.{seat_meter}
use Rattle.cm_lock.specs.Tables.{IsOf, view_of}
use Rattle.cm_lock.proofs.Tries.{IsTrying}
use Rattle.cm_lock.proofs.table.SegTable.take.Given as goal

abbrev pub invariant-loop-i : goal.invariant-loop-i
invariant-loop-i g l = record {
  its : IsOf l.seat l.self;
  trying : IsTrying g.L.Take.from g.L.Take.to l.i l.last (view_of l.initial.seat) (view_of l.seat);
  survives : Survives (seat_meter (g.F.Fuse.fused l.initial.fuse) (view_of l.initial.seat)) (seat_meter (g.F.Fuse.fused l.fuse) (view_of l.seat));
}
