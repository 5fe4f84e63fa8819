use Rattle.std.proofs.Common.{rules}
use Rattle.cm_lock.specs.Tables.{view_of}
use Rattle.cm_yard.specs.Yards.{view_of as yard_view_of}
use Rattle.cm_turn.proofs.Endings.{nothing_by_look, owing_released}
use Rattle.cm_turn.proofs.SweepSteps.{unsettled_leaves}
use Rattle.cm_turn.proofs.sweeping.take_found.Goals as goal

pub returns-in_err-settled-clause-leaves : goal.returns-in_err-settled-clause-leaves
returns-in_err-settled-clause-leaves g c =
    let h = unsettled_leaves c.args.tries c.args.ground.now.segment c.args.ground.now.geo.now.extra _ _ c.decide_held.new.out (view_of c.args.seat.now) (view_of c.decide_held.new.seat)
    (view_of c.settle_from_update.new.seat) (yard_view_of c.args.claims.now) (yard_view_of c.settle_from_update.new.claims) c.in_err-settled.field-0.0 c.in-Ok.ensures.looks
    c.requires.holds c.ask-ask.ensures c.in_err-settled.ensures.settles in
    search (rules, h)

pub returns-in-Err-back_to_update-clause-leaves : goal.returns-in-Err-back_to_update-clause-leaves
returns-in-Err-back_to_update-clause-leaves g c =
    owing_released c.args.ground.now.segment c.args.ground.now.geo.now.extra _ _ _ (view_of c.args.seat.now)
    (view_of c.decide_held.new.seat) (view_of c.settle_from_update.new.seat) (view_of c.back_to_update.new.seat) (yard_view_of c.args.claims.now)
    (yard_view_of c.settle_from_update.new.claims) _ (nothing_by_look _ _ c.in-Ok.ensures.looks) c.ask-ask.ensures c.in_ok-settled.ensures.settles
    c.in-Err-back_to_update.ensures.dead
