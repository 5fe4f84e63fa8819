use Rattle.std.proofs.Common.{◌∙◌, ap, sym, subst}
use Rattle.cm_lock.specs.declared.view.View.{View}
use Rattle.cm_lock.specs.Numbers.{CopiesNumber}
use Rattle.cm_lock.specs.Views.{with_level}
use Rattle.cm_lock.proofs.NumberCopies.{copies_level}
use Rattle.cm_lock.proofs.Tries.{try_forbidden}
use Rattle.cm_lock.proofs.table.SegTable.one_try.Goals as goal

pub returns-in_default-clause-tries : goal.returns-in_default-clause-tries
returns-in_default-clause-tries g c = try_forbidden g.L.Take.from g.L.Take.to c.args.is_first c.args.seat.now.seat.me.0 c.look-word.new.seat.me.0 c.look-word.result c.look-word.ensures.view c.in_default.ensures

pub invariant_of-seat-2 : goal.invariant_of-seat-2
invariant_of-seat-2 g c =
    let m = c.args.seat.now in
    let look = c.look-word.ensures in
    let view = c.exchange-found.ensures.taken c.if-found-word.false ∙ ap (with_level g.L.Take.to) look.view in
    record {
      tied = ap (λ (v : View). v.own.level) view ∙ sym c.level-seat.ensures;
      live = rw view m.live;
      bare = c.exchange-found.ensures.bare ∙ (look.bare ∙ m.bare);
      none_due = ap (λ (v : View). v.due) view ∙ m.none_due;
      starts = λ round is_open. m.starts round (sym (ap (λ (v : View). v.round) view) ∙ is_open);
      copies = subst (λ (v : View). CopiesNumber v.own m.number) (sym view) (copies_level m.seat.me.0.own g.L.Take.to m.number m.copies);
    }
