use Rattle.cm_plain.specs.declared.op.Op.TheVariants as op
use Rattle.cm_lock.specs.Tables.{view_of}
use Rattle.cm_turn.proofs.Endings.{nothing_by_take, reading_then}
use Rattle.cm_turn.proofs.list_call.list_in_read.Goals as goal

pub returns-in-Err-clause-leaves : goal.returns-in-Err-clause-leaves
returns-in-Err-clause-leaves g c =
    reading_then (view_of c.args.seat.now) (view_of c.read.new.seat) (nothing_by_take _ _ _ _ _ c.in_ok-read.ensures.takes) (op.List c.args.call.now.segment)
    (view_of c.work_in_read.new.seat) c.in-Err.ensures.dead
