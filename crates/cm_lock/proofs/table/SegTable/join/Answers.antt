use Rattle.std.proofs.Common.{◌≤◌, rules, subst, sym}
use Rattle.cm_lock.specs.declared.view.View.{View}
use Rattle.cm_lock.proofs.HeldEvents.{lock_inside}
use Rattle.cm_lock.proofs.SeatEvents.{joins}
use Rattle.cm_lock.proofs.table.SegTable.join.Goals as goal

pub join_seat-requires : goal.join_seat-requires
join_seat-requires c =
    let key = c.args.self.now.table.shared.key in
    (search rules, search rules, search rules, lock_inside key.geo _ c.args.self.now.wide, joins key _ _ _ _ c.requires.root (subst (λ (v : View). v.own.number ≤ 64) (sym c.tell_counts.ensures.view) c.args.from.live))
