use Rattle.std.proofs.Common.{◌+◌, ap, sym, ◌∙◌}
use Rattle.cm_plain.specs.Plans.{plan_change}
use Rattle.cm_lock.specs.declared.view.View.{View}
use Rattle.cm_lock.proofs.NumberCopies.{copies_begin, note_of}
use Rattle.cm_lock.proofs.table.SegSeat.begin.Goals as goal

pub invariant_of-self : goal.invariant_of-self
invariant_of-self c =
    let m = c.args.self.now in
    let e = c.store_begin.ensures in
    record {
      tied = ap (λ (v : View). v.own.level) e.view ∙ m.tied;
      live = rw e.view m.live;
      bare = e.bare ∙ m.bare;
      none_due = ap (λ (v : View). v.due) e.view ∙ m.none_due;
      starts = λ round is_open. m.starts round (sym (ap (λ (v : View). v.round) e.view) ∙ is_open);
      copies = copies_begin m.seat.me.0 c.store_begin.new.seat.me.0 (plan_change c.args.plan.now) (m.number + 1) e.odd e.view;
    }

pub store_begin-requires-clause-next : goal.store_begin-requires-clause-next
store_begin-requires-clause-next c = let m = c.args.self.now in note_of m.seat.me.0.own m.number m.copies c.requires.number.noted

pub returns-clause-noted : goal.returns-clause-noted
returns-clause-noted c =
    let m = c.args.self.now in
    let n = note_of m.seat.me.0.own m.number m.copies c.requires.number.noted in
    (n.0, n.1, m.copies.is n.0 n.1)
