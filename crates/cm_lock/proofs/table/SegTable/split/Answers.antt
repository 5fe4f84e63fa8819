use Rattle.std.proofs.Common.{◌∙◌, ap, rules}
use Rattle.cm_lock.specs.declared.view.View.{View}
use Rattle.cm_lock.proofs.HeldEvents.{lock_inside}
use Rattle.cm_lock.proofs.SeatEvents.{splits}
use Rattle.cm_lock.proofs.table.SegTable.split.Goals as goal

pub split_seat-seat-requires : goal.split_seat-seat-requires
split_seat-seat-requires c =
    let key = c.args.self.now.table.shared.key in
    let e = c.number_as.ensures.view in (
      search rules,
      lock_inside key.geo _ c.args.self.now.wide,
      splits key _ _ c.args.number (ap (λ (v : View). v.own.number) e ∙ c.requires.root) (ap (λ (v : View). v.due) e) c.requires.small,
    )
