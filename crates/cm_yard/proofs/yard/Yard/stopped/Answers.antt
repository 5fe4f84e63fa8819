use Rattle.std.proofs.Common.{arith, rules}
use Rattle.cm_yard.proofs.Numbering.{live_number}
use Rattle.cm_yard.proofs.Stopping.{finding}
use Rattle.cm_yard.proofs.yard.Yard.stopped.Goals as goal

pub load-requires : goal.load-requires
load-requires c =
    let seat = c.args.seat.now in (
      search rules,
      omega (arith, c.args.self.now.wide, c.requires.segment),
      finding c.args.self.now.table.shared.key _ _ seat.seat.me (live_number seat.seat.me.0.number seat.live) c.args.segment c.requires.segment,
    )
