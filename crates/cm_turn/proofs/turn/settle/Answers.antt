use Rattle.std.proofs.Common.{rules}
use Rattle.cm_plain.specs.Plans.{op_of_ask}
use Rattle.cm_lock.specs.Rule.{known_of}
use Rattle.cm_lock.specs.Tables.{key_of, view_of}
use Rattle.cm_yard.specs.Yards.{view_of as yard_view_of}
use Rattle.cm_turn.proofs.Settling.{dies_made, settles_made}
use Rattle.cm_turn.proofs.turn.settle.Goals as goal

pub returns-in_err-number-2-clause-dead : goal.returns-in_err-number-2-clause-dead
returns-in_err-number-2-clause-dead g c =
    let ready = rw c.in-Changes.is at c.requires.decides in
    let h = dies_made c.args.ground.now.segment c.args.ground.now.geo.now.extra (op_of_ask c.args.ask) (view_of c.args.seat.now) (view_of c.make_held.new.seat)
    (yard_view_of c.args.claims.now) (yard_view_of c.grant.new.claims) c.in-Changes.plan ready.changes.may.op_is (rw c.in-Changes.is at c.requires.level) c.in_err-number-2.ensures.dead
    (rw c.if-not-branch.false at c.in_ok-grant.ensures.grants) in
    search (rules, h)

pub returns-clause-settles : goal.returns-clause-settles
returns-clause-settles g c =
    let ready = rw c.in-Changes.is at c.requires.decides in
    settles_made (known_of (key_of c.args.ground.now.table.now) (view_of c.args.seat.now).own) c.args.ground.now.geo.now c.args.ground.now.segment
    c.args.ground.now.geo.now.extra (op_of_ask c.args.ask) c.args.out.now (view_of c.args.seat.now) (view_of c.make_held.new.seat)
    (yard_view_of c.args.claims.now) (yard_view_of c.grant.new.claims) c.in_ok-number-2.number c.in-Changes.answer c.in-Changes.plan
    (rw c.in-Changes.is at c.requires.level) ready.changes c.in_ok-number-2.ensures.makes (rw c.if-not-branch.false at c.in_ok-grant.ensures.grants)
