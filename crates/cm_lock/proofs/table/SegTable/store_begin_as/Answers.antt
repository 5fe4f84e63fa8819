use Rattle.std.proofs.Common.{rules}
use Rattle.cm_words.proofs.MapPlaces.{number_inside}
use Rattle.cm_lock.proofs.HeldEvents.{begins}
use Rattle.cm_lock.proofs.Numbering.{live_number}
use Rattle.cm_lock.proofs.table.SegTable.store_begin_as.Goals as goal

pub store-requires : goal.store-requires
store-requires g c =
    let key = c.args.self.now.table.shared.key in
    (search rules, rw c.args.self.now.wide (number_inside key.geo), begins _ _ _ c.args.seat.now.me (live_number c.args.seat.now.me.0.own.number c.requires.live) c.requires.level g.B.PicksChange.change _ c.requires.idle c.requires.next c.requires.number c.requires.planned)
