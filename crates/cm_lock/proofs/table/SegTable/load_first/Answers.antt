use Rattle.std.proofs.Common.{rules}
use Rattle.cm_words.proofs.MapPlaces.{number_inside}
use Rattle.cm_lock.proofs.Numbering.{live_number}
use Rattle.cm_lock.proofs.RoundEvents.{opens}
use Rattle.cm_lock.proofs.table.SegTable.load_first.Goals as goal

pub load-requires : goal.load-requires
load-requires c =
    let key = c.args.self.now.table.shared.key in
    (search rules, rw c.args.self.now.wide (number_inside key.geo), opens key _ _ c.args.seat.now.me (live_number c.args.seat.now.me.0.own.number c.requires.live) c.requires.level)
