use Rattle.std.proofs.Common.{rules}
use Rattle.cm_lock.proofs.HeldEvents.{lock_inside}
use Rattle.cm_lock.proofs.SeatEvents.{numbers}
use Rattle.cm_lock.proofs.table.SegTable.number_as.Goals as goal

pub load-requires : goal.load-requires
load-requires g c =
    let key = c.args.self.now.table.shared.key in
    (search rules, lock_inside key.geo _ c.args.self.now.wide, numbers key _ _ c.args.seat.now.me g.B.PicksNumber.number c.requires.root c.requires.none_due c.requires.never)
