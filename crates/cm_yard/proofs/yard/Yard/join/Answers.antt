use Rattle.std.proofs.Common.{◌<◌, ℕ, rules, subst, sym}
use Rattle.cm_yard.proofs.Counting.{some_words}
use Rattle.cm_yard.proofs.Seating.{joins}
use Rattle.cm_yard.proofs.yard.Yard.join.Goals as goal

pub join_seat-requires : goal.join_seat-requires
join_seat-requires c =
    let key = c.args.self.now.table.shared.key in
    (search rules, search rules, search rules, subst (λ (n : ℕ). 0 < n) (sym c.args.self.now.wide) (some_words key.geo), joins key _ _ _ _ c.requires.root c.args.from.live)
