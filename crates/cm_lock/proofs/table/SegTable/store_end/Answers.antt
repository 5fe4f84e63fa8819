use Rattle.std.proofs.Common.{rules}
use Rattle.cm_words.proofs.MapPlaces.{number_inside}
use Rattle.cm_lock.proofs.HeldEvents.{ends}
use Rattle.cm_lock.proofs.Numbering.{live_number}
use Rattle.cm_lock.proofs.table.SegTable.store_end.Goals as goal

pub store-requires : goal.store-requires
store-requires c =
    let key = c.args.self.now.table.shared.key in
    (search rules, rw c.args.self.now.wide (number_inside key.geo), ends _ _ _ c.args.seat.now.me (live_number c.args.seat.now.me.0.own.number c.requires.live) c.requires.level _ c.requires.under_way c.requires.next c.requires.done)
