use Rattle.std.proofs.Common.{rules}
use Rattle.cm_lock.proofs.HeldEvents.{lock_inside}
use Rattle.cm_lock.proofs.LevelEvents.{takes}
use Rattle.cm_lock.proofs.Numbering.{live_number}
use Rattle.cm_lock.proofs.table.SegTable.exchange.Goals as goal

pub compare_exchange-requires : goal.compare_exchange-requires
compare_exchange-requires g c =
    let key = c.args.self.now.table.shared.key in
    (search rules, lock_inside key.geo _ c.args.self.now.wide, takes key _ _ c.args.seat.now.me (live_number c.args.seat.now.me.0.own.number c.requires.live) g.L.Take.from g.L.Take.to c.args.word c.args.next c.requires.closed c.requires.level c.requires.permits c.requires.next)
