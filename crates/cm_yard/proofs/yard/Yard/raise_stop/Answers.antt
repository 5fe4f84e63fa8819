use Rattle.std.proofs.Common.{arith, rules}
use Rattle.cm_yard.proofs.Numbering.{live_number}
use Rattle.cm_yard.proofs.Stopping.{raising}
use Rattle.cm_yard.proofs.yard.Yard.raise_stop.Goals as goal

pub store-requires : goal.store-requires
store-requires c =
    let seat = c.args.seat.now in (
      search rules,
      omega (arith, c.args.self.now.wide, c.requires.segment),
      raising c.args.self.now.table.shared.key _ _ seat.seat.me (live_number seat.seat.me.0.number seat.live) c.args.segment c.requires.segment c.args.number c.requires.above c.requires.within_limit,
    )
