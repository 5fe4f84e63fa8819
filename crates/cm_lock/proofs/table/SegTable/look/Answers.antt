use Rattle.std.proofs.Common.{true, false, rules}
use Rattle.cm_lock.proofs.HeldEvents.{lock_inside}
use Rattle.cm_lock.proofs.LevelEvents.{looks}
use Rattle.cm_lock.proofs.Numbering.{live_number}
use Rattle.cm_lock.proofs.table.SegTable.look.Goals as goal

pub load-requires : goal.load-requires
load-requires c =
    let key = c.args.self.now.table.shared.key in
    (search rules, lock_inside key.geo _ c.args.self.now.wide, looks key _ _ c.args.seat.now.me (live_number c.args.seat.now.me.0.own.number c.requires.live) true)

pub load-requires-else-is_first : goal.load-requires-else-is_first
load-requires-else-is_first c =
    let key = c.args.self.now.table.shared.key in
    (search rules, lock_inside key.geo _ c.args.self.now.wide, looks key _ _ c.args.seat.now.me (live_number c.args.seat.now.me.0.own.number c.requires.live) false)
