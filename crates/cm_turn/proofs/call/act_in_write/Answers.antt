use Rattle.cm_lock.specs.Tables.{view_of}
use Rattle.cm_yard.specs.Yards.{view_of as yard_view_of}
use Rattle.cm_turn.proofs.Endings.{nothing_by_take, owing_then}
use Rattle.cm_turn.proofs.call.act_in_write.Goals as goal

pub returns-in-Err-clause-leaves : goal.returns-in-Err-clause-leaves
returns-in-Err-clause-leaves g c =
    owing_then (view_of c.args.seat.now) (view_of c.write.new.seat) (nothing_by_take _ _ _ _ _ c.in_ok-write.ensures.takes) c.args.ground.now.segment
    (g.O.Operation.op c.args.operation.now) (view_of c.work_in_write.new.seat) (yard_view_of c.args.claims.now) (yard_view_of c.work_in_write.new.claims) c.in-Err.ensures.dead
