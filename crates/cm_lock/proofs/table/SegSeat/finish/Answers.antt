use Rattle.std.proofs.Common.{ap, sym, ◌∙◌}
use Rattle.cm_lock.specs.declared.view.View.{View}
use Rattle.cm_lock.proofs.HeldEvents.{plan_of}
use Rattle.cm_lock.proofs.NumberCopies.{copies_finish, note_of}
use Rattle.cm_lock.proofs.table.SegSeat.finish.Goals as goal

pub store_end-requires-clause-next : goal.store_end-requires-clause-next
store_end-requires-clause-next c = let m = c.args.self.now in note_of m.seat.me.0.own m.number m.copies (m.copies.noted c.requires.under_way)

pub invariant_of-self : goal.invariant_of-self
invariant_of-self c =
    let m = c.args.self.now in
    let p = plan_of m.seat.me.0.own.plan c.requires.under_way in
    let e = c.store_end.ensures.ended.view p.0 p.1 in
    record {
      tied = ap (λ (v : View). v.own.level) e ∙ m.tied;
      live = rw e m.live;
      bare = c.store_end.ensures.bare ∙ m.bare;
      none_due = ap (λ (v : View). v.due) e ∙ m.none_due;
      starts = λ round is_open. m.starts round (sym (ap (λ (v : View). v.round) e) ∙ is_open);
      copies = copies_finish m.seat.me.0 c.store_end.new.seat.me.0 p.0 m.number (m.copies.odd c.requires.under_way).1 e;
    }

pub returns-clause-view : goal.returns-clause-view
returns-clause-view c =
    let p = plan_of c.args.self.now.seat.me.0.own.plan c.requires.under_way in
    (p.0, p.1, c.store_end.ensures.ended.view p.0 p.1)

pub returns-clause-noted : goal.returns-clause-noted
returns-clause-noted c =
    let m = c.args.self.now in
    let n = note_of m.seat.me.0.own m.number m.copies (m.copies.noted c.requires.under_way) in
    (n.0, n.1, m.copies.is n.0 n.1)
