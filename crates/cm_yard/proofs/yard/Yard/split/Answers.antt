use Rattle.std.proofs.Common.{◌∙◌, ◌<◌, ℕ, ap, rules, subst, sym}
use Rattle.cm_yard.specs.declared.view.View.{View}
use Rattle.cm_yard.proofs.Counting.{some_words}
use Rattle.cm_yard.proofs.Seating.{splits}
use Rattle.cm_yard.proofs.yard.Yard.split.Goals as goal

pub split_seat-requires : goal.split_seat-requires
split_seat-requires c =
    let key = c.args.self.now.table.shared.key in
    let e = c.number_as.ensures.view in (
      search rules,
      subst (λ (n : ℕ). 0 < n) (sym c.args.self.now.wide) (some_words key.geo),
      splits key _ _ c.args.number (ap (λ (v : View). v.number) e ∙ c.requires.root) (ap (λ (v : View). v.due) e) c.requires.small,
    )
