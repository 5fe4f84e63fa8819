use Rattle.std.proofs.Common.{ℕ, refl, sym, ap, ◌∙◌, arith}
use Rattle.cm_plain.specs.declared.reply.Reply.TheVariants.{Count}
use Rattle.cm_locked.proofs.SeatTrials.{count_is}
use Rattle.cm_locked.proofs.tests_lock.count.Goals as goal

pub tell-requires-clause-right : goal.tell-requires-clause-right
tell-requires-clause-right g c words state fits rests =
    let key = c.args.table.now.table.shared.key in
    let same = c.in-Ok.ensures.1 ∙ (sym (c.in_ok-word.ensures.count.here (λ _. omega arith) words fits) ∙ count_is key.geo key.segment words state rests) in
    (refl, ap (λ (n : ℕ). Count n) same)
