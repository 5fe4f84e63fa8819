use Rattle.std.proofs.Common.{◌≢◌, ◌≤◌, ◌∙◌, ap, sym, subst, refl}
use Rattle.cm_plain.specs.Plans.{op_of_ask}
use Rattle.cm_plain.specs.Replies.{reply_of_heard}
use Rattle.cm_words.specs.declared.fuse.EventKind.TheVariants.{Load}
use Rattle.cm_lock.specs.declared.view.HeldLevel.{HeldLevel}
use Rattle.cm_lock.specs.declared.view.View.{View}
use Rattle.cm_lock.specs.Numbers.{CopiesNumber}
use Rattle.cm_lock.proofs.BesideWriter.{no_plan}
use Rattle.cm_lock.proofs.FuseEvents.{load_stores, one_made}
use Rattle.cm_lock.proofs.RoundEvents.{round_ended, round_of}
use Rattle.cm_lock.proofs.table.SegTable.close_round.Goals as goal

pub invariant_of-seat : goal.invariant_of-seat
invariant_of-seat g c =
    let m = c.args.seat.now in
    let e = c.load_last-word.ensures in
    let o = round_of m.seat.me.0.round c.requires.open in
    let left = round_ended m.seat.me.0 c.load_last-word.new.seat.me.0 o.0.first c.load_last-word.result (op_of_ask c.args.ask) (reply_of_heard c.args.heard) (λ is. (e.same o.0 o.1 is).0) (e.other o.0 o.1) in
    record {
      tied = ap (λ (h : HeldLevel). h.level) left.0 ∙ m.tied;
      live = subst (λ (h : HeldLevel). h.number ≤ 64) (sym left.0) m.live;
      bare = e.bare ∙ m.bare;
      none_due = left.1 ∙ m.none_due;
      copies = subst (λ (h : HeldLevel). CopiesNumber h m.number) (sym left.0) m.copies;
      starts = λ round is_open. absurd (no_plan round (sym left.2 ∙ is_open));
    }

pub returns-then-word-seat-clause-closes : goal.returns-then-word-seat-clause-closes
returns-then-word-seat-clause-closes g c =
    let m = c.args.seat.now in
    let e = c.load_last-word.ensures in
    let o = round_of m.seat.me.0.round c.requires.open in
    let is = c.if-word-seat.true ∙ sym (m.starts o.0 o.1) in
    let same = e.same o.0 o.1 is in
    one_made Load _ _ _ _ _ _ c.in_ok-ask_fuse.ensures (ap (λ (v : View). v.events) same.0) (load_stores _ _ (ap (λ (v : View). v.stores) same.0))
    (record { round = o.0; open_is = o.1; word = c.load_last-word.result; closes = (is, refl, same.0, same.1); seen = e.seen })

pub returns-else-word-seat-clause-closes : goal.returns-else-word-seat-clause-closes
returns-else-word-seat-clause-closes g c =
    let m = c.args.seat.now in
    let e = c.load_last-word.ensures in
    let o = round_of m.seat.me.0.round c.requires.open in
    let other : c.load_last-word.result ≢ o.0.first = λ is. c.if-word-seat.false (is ∙ m.starts o.0 o.1) in
    let view = e.other o.0 o.1 other in
    one_made Load _ _ _ _ _ _ c.in_ok-ask_fuse.ensures (ap (λ (v : View). v.events) view) (load_stores _ _ (ap (λ (v : View). v.stores) view))
    (record { round = o.0; open_is = o.1; word = c.load_last-word.result; closes = (other, view); seen = e.seen })
