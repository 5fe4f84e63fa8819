use Rattle.std.proofs.Common.{rules}
use Rattle.cm_lock.specs.Tables.{view_of}
use Rattle.cm_yard.specs.Yards.{view_of as yard_view_of}
use Rattle.cm_turn.proofs.Endings.{nothing_by_look, owing_asked, owing_released}
use Rattle.cm_turn.proofs.call.work_in_write.Goals as goal

pub returns-in_err-settled-clause-dead : goal.returns-in_err-settled-clause-dead
returns-in_err-settled-clause-dead g c =
    let h = owing_asked c.args.ground.now.segment (g.O.Operation.op c.args.operation.now) _ (view_of c.args.seat.now) (view_of c.decide_held.new.seat) (view_of c.settle.new.seat)
    (yard_view_of c.args.claims.now) (yard_view_of c.settle.new.claims) (nothing_by_look _ _ c.in_ok-verdict.ensures.looks) c.ask.ensures c.in_err-settled.ensures.dead in
    search (rules, h)

pub returns-in_err-release-clause-dead : goal.returns-in_err-release-clause-dead
returns-in_err-release-clause-dead g c =
    let h = owing_released c.args.ground.now.segment c.args.ground.now.geo.now.extra (g.O.Operation.op c.args.operation.now) _ _ (view_of c.args.seat.now)
    (view_of c.decide_held.new.seat) (view_of c.settle.new.seat) (view_of c.release.new.seat) (yard_view_of c.args.claims.now) (yard_view_of c.settle.new.claims) _
    (nothing_by_look _ _ c.in_ok-verdict.ensures.looks) c.ask.ensures c.in_ok-settled.ensures.settles c.in_err-release.ensures.releases.dead in
    search (rules, h)
