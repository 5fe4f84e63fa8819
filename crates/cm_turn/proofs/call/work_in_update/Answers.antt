use Rattle.cm_lock.specs.Tables.{view_of}
use Rattle.cm_yard.specs.Yards.{view_of as yard_view_of}
use Rattle.cm_turn.proofs.Endings.{nothing_by_look, owing_asked, owing_released}
use Rattle.cm_turn.proofs.call.work_in_update.Goals as goal

pub returns-in-Err-Died-clause-leaves : goal.returns-in-Err-Died-clause-leaves
returns-in-Err-Died-clause-leaves g c =
    owing_asked c.args.ground.now.segment (g.O.Operation.op c.args.operation.now) _ (view_of c.args.seat.now) (view_of c.decide_held.new.seat) (view_of c.settle_from_update.new.seat)
    (yard_view_of c.args.claims.now) (yard_view_of c.settle_from_update.new.claims) (nothing_by_look _ _ c.in-Ok.ensures.looks) c.ask.ensures
    (rw c.in-Err-Died.field-0-is at c.in-Err-Died.ensures.settles)

pub returns-in-Err-release-clause-leaves : goal.returns-in-Err-release-clause-leaves
returns-in-Err-release-clause-leaves g c =
    owing_released c.args.ground.now.segment c.args.ground.now.geo.now.extra (g.O.Operation.op c.args.operation.now) _ _ (view_of c.args.seat.now)
    (view_of c.decide_held.new.seat) (view_of c.settle_from_update.new.seat) (view_of c.release.new.seat) (yard_view_of c.args.claims.now) (yard_view_of c.settle_from_update.new.claims) _
    (nothing_by_look _ _ c.in-Ok.ensures.looks) c.ask.ensures c.in-Ok-settle_from_update.ensures.settles c.in-Err-release.ensures.releases.dead
