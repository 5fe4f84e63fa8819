use Rattle.std.proofs.Common.{sym, subst, IfOk, Result, Ok, Err}
use Rattle.cm_lock.specs.Tables.{Closes}
use Rattle.cm_lock.proofs.SeatEvents.{closes}
use Rattle.cm_lock.proofs.table.SegTable.close.Goals as goal

if_ok : {A E : Type 0} (P Q : A → Type 0) (r : Result A E) → ((a : A) → P a → Q a) → IfOk r P → IfOk r Q
if_ok P Q (Ok a) f h = f a h
if_ok P Q (Err e) f h = h

pub returns : goal.returns
returns c =
    let key = c.args.self.table.shared.key in
    let ended = closes key c.args.root.seat.id c.args.root.seat.me.0 _ _ c.requires.root c.requires.joined c.close_with-closed.ensures.values.2 in
    if_ok _ _ c.copied_words-words.result (λ w e. subst (Closes key c.args.root.seat.me.0) (sym e) ended) c.copied_words-words.ensures
