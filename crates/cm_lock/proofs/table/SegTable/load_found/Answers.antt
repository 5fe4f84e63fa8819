use Rattle.std.proofs.Common.{rules}
use Rattle.cm_lock.proofs.Numbering.{live_number}
use Rattle.cm_lock.proofs.RoundEvents.{peeks}
use Rattle.cm_lock.proofs.table.SegTable.load_found.Goals as goal

pub load-requires : goal.load-requires
load-requires c =
    let key = c.args.self.now.table.shared.key in
    (search rules, search rules, peeks key _ _ c.args.seat.now.me (live_number c.args.seat.now.me.0.own.number c.requires.live) _ c.requires.inner c.requires.open)
