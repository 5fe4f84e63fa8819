use Rattle.std.proofs.Common.{rules}
use Rattle.cm_lock.proofs.HeldEvents.{lock_inside}
use Rattle.cm_lock.proofs.Numbering.{live_number}
use Rattle.cm_lock.proofs.SeatEvents.{tells_counts}
use Rattle.cm_lock.proofs.table.SegTable.tell_counts.Goals as goal

pub load-requires : goal.load-requires
load-requires c =
    let key = c.args.self.now.table.shared.key in
    (search rules, lock_inside key.geo _ c.args.self.now.wide, tells_counts key _ _ c.args.seat.now.me (live_number c.args.seat.now.me.0.own.number c.requires.live))
