use Rattle.cm_plain.specs.Plans.{op_of_ask}
use Rattle.cm_turn.proofs.Holding.{may_held, number_held}
use Rattle.cm_turn.proofs.turn.make_held.Goals as goal

pub make-requires-clause-number : goal.make-requires-clause-number
make-requires-clause-number g c =
    number_held g.F.Fuse.fused c.hold-hold.result c.args.table.now c.args.seat.now c.hold-hold.ensures.table c.hold-hold.ensures.seat c.requires.number

pub make-requires-clause-may : goal.make-requires-clause-may
make-requires-clause-may g c =
    may_held g.F.Fuse.fused c.hold-hold.result c.args.table.now c.args.seat.now c.args.geo.now (op_of_ask c.args.plan.now.ask) c.args.plan.now
    c.hold-hold.ensures.table c.hold-hold.ensures.seat c.requires.may
