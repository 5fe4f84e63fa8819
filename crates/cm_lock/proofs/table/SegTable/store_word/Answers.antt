use Rattle.std.proofs.Common.{rules}
use Rattle.cm_lock.proofs.HeldEvents.{stores}
use Rattle.cm_lock.proofs.Numbering.{live_number}
use Rattle.cm_lock.proofs.table.SegTable.store_word.Goals as goal

pub swap-requires : goal.swap-requires
swap-requires c =
    (search rules, search rules, stores _ _ _ c.args.seat.now.me (live_number c.args.seat.now.me.0.own.number c.requires.live) c.requires.level _ _ c.requires.inner c.requires.in_range c.ranges.word.fits c.requires.allowed)
