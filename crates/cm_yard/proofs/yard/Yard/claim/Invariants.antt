use Rattle.cm_words.specs.Meters.{Survives}
use Rattle.cm_yard.specs.Claims.{FindsOwned, seat_meter}
use Rattle.cm_yard.specs.Yards.{IsOf, view_of}
use Rattle.cm_yard.proofs.yard.Yard.claim.Given as goal

abbrev pub invariant-loop-index : goal.invariant-loop-index
invariant-loop-index g l = record {
  its : IsOf l.seat l.self;
  finds : FindsOwned (view_of l.initial.seat) (view_of l.seat) l.index;
  survives : Survives (seat_meter (g.F.Fuse.fused l.initial.fuse) (view_of l.initial.seat)) (seat_meter (g.F.Fuse.fused l.fuse) (view_of l.seat));
}
