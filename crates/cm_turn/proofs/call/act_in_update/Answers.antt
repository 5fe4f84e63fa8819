use Rattle.std.proofs.Common.{inr}
use Rattle.cm_lock.specs.Tables.{view_of}
use Rattle.cm_lock.specs.declared.view.Level.TheVariants.{Update, Write}
use Rattle.cm_yard.specs.Yards.{view_of as yard_view_of}
use Rattle.cm_turn.specs.Calls.{IsRefused, IsRefusedChange}
use Rattle.cm_turn.specs.Records.{IsIdle}
use Rattle.cm_turn.proofs.Endings.{leaves_then, nothing_by_take}
use Rattle.cm_turn.proofs.call.act_in_update.Goals as goal

pub returns-clause-leaves : goal.returns-clause-leaves
returns-clause-leaves g c =
    leaves_then (view_of c.args.seat.now) (view_of c.update.new.seat) (nothing_by_take _ _ _ _ _ c.in_ok-update.ensures.takes) IsIdle (IsRefused Update Write c.args.tries)
    (IsRefusedChange c.args.tries) c.args.ground.now.segment c.args.ground.now.geo.now.extra (g.O.Operation.op c.args.operation.now) c.work_in_update.new.out
    (view_of c.work_in_update.new.seat) (yard_view_of c.args.claims.now) (yard_view_of c.work_in_update.new.claims) c.work_in_update.result (λ looks last refused. inr refused)
    c.work_in_update.ensures.leaves
