use Rattle.std.proofs.Common.{◌≢◌, ap, sym, ◌∙◌, arith}
use Rattle.cm_lock.specs.declared.view.View.{View}
use Rattle.cm_lock.proofs.NumberCopies.{copies_else}
use Rattle.cm_lock.proofs.table.SegSeat.store.Goals as goal

pub invariant_of-self : goal.invariant_of-self
invariant_of-self c =
    let m = c.args.self.now in
    let e = c.store_word.ensures in
    let apart : c.args.at ≢ 1 = omega (arith, c.requires.inner) in
    record {
      tied = ap (λ (v : View). v.own.level) e.view ∙ m.tied;
      live = rw e.view m.live;
      bare = e.bare ∙ m.bare;
      none_due = ap (λ (v : View). v.due) e.view ∙ m.none_due;
      starts = λ round is_open. m.starts round (sym (ap (λ (v : View). v.round) e.view) ∙ is_open);
      copies = copies_else m.seat.me.0 c.store_word.new.seat.me.0 c.args.at c.store_word.result c.args.word m.number apart (ap (λ (v : View). v.own.plan) e.view) (ap (λ (v : View). v.own.notes) e.view) m.copies;
    }
