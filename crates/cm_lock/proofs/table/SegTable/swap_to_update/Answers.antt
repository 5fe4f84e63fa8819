use Rattle.std.proofs.Common.{rules}
use Rattle.cm_lock.proofs.HeldEvents.{lock_inside}
use Rattle.cm_lock.proofs.LevelEvents.{lowers}
use Rattle.cm_lock.proofs.Numbering.{live_number}
use Rattle.cm_lock.proofs.table.SegTable.swap_to_update.Goals as goal

pub swap-requires : goal.swap-requires
swap-requires c =
    let key = c.args.self.now.table.shared.key in
    (search rules, lock_inside key.geo _ c.args.self.now.wide, lowers key _ _ c.args.seat.now.me (live_number c.args.seat.now.me.0.own.number c.requires.live) c.requires.level c.requires.idle)
