use Rattle.std.proofs.Common.{ℕ, ap, sym, ◌∙◌, subst}
use Rattle.cm_lock.specs.declared.view.View.{View}
use Rattle.cm_lock.specs.Steps.{IsHeldWord}
use Rattle.cm_lock.specs.Views.{after_load}
use Rattle.cm_lock.proofs.NumberCopies.{copies_else, copies_load}
use Rattle.cm_lock.proofs.table.SegSeat.load.Goals as goal

pub invariant_of-self : goal.invariant_of-self
invariant_of-self c =
    let m = c.args.self.now in
    let e = c.load_word-word.ensures in
    let at_one = c.if-at-eq1.true in
    let view = e.view ∙ ap (λ (a : ℕ). after_load m.seat.me.0 a c.load_word-word.result) at_one in
    let word = subst (λ (a : ℕ). IsHeldWord m.seat.me.0 a c.load_word-word.result) at_one e.word in
    record {
      tied = ap (λ (v : View). v.own.level) e.view ∙ m.tied;
      live = rw e.view m.live;
      bare = e.bare ∙ m.bare;
      none_due = ap (λ (v : View). v.due) e.view ∙ m.none_due;
      starts = λ round is_open. m.starts round (sym (ap (λ (v : View). v.round) e.view) ∙ is_open);
      copies = copies_load m.seat.me.0 c.load_word-word.new.seat.me.0 c.load_word-word.result m.number view word m.copies;
    }

pub invariant_of-self-else-at-eq1 : goal.invariant_of-self-else-at-eq1
invariant_of-self-else-at-eq1 c =
    let m = c.args.self.now in
    let e = c.load_word-word.ensures in
    record {
      tied = ap (λ (v : View). v.own.level) e.view ∙ m.tied;
      live = rw e.view m.live;
      bare = e.bare ∙ m.bare;
      none_due = ap (λ (v : View). v.due) e.view ∙ m.none_due;
      starts = λ round is_open. m.starts round (sym (ap (λ (v : View). v.round) e.view) ∙ is_open);
      copies = copies_else m.seat.me.0 c.load_word-word.new.seat.me.0 c.args.at c.load_word-word.result c.load_word-word.result m.number c.if-at-eq1.false (ap (λ (v : View). v.own.plan) e.view) (ap (λ (v : View). v.own.notes) e.view) m.copies;
    }
