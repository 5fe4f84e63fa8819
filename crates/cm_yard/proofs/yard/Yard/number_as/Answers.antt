use Rattle.std.proofs.Common.{◌<◌, ℕ, rules, subst, sym}
use Rattle.cm_yard.proofs.Counting.{some_words}
use Rattle.cm_yard.proofs.Seating.{numbering}
use Rattle.cm_yard.proofs.yard.Yard.number_as.Goals as goal

pub load-requires : goal.load-requires
load-requires g c =
    let key = c.args.self.now.table.shared.key in
    (search rules, subst (λ (n : ℕ). 0 < n) (sym c.args.self.now.wide) (some_words key.geo), numbering key _ _ c.args.seat.now.me g.B.Says.says c.requires.root c.requires.none_due c.requires.never)
