use Rattle.std.proofs.Common.{arith, rules}
use Rattle.cm_yard.proofs.Claiming.{exchanges}
use Rattle.cm_yard.proofs.Numbering.{live_number}
use Rattle.cm_yard.proofs.yard.Yard.exchange_as.Goals as goal

pub compare_exchange-requires : goal.compare_exchange-requires
compare_exchange-requires g c =
    let me = c.args.seat.now.me in (
      search rules,
      omega (arith, c.args.self.now.wide, c.requires.index, c.requires.place),
      rw c.from.ensures (exchanges c.args.self.now.table.shared.key _ _ me (live_number me.0.number c.requires.live) g.B.Says.says c.args.segment c.requires.index c.requires.segment c.args.place c.requires.place),
    )
