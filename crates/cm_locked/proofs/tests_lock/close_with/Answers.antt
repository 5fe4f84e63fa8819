use Rattle.std.proofs.Common.{ℕ, refl, sym, ap, ◌∙◌}
use Rattle.cm_plain.specs.declared.reply.Reply.TheVariants.{Count}
use Rattle.cm_locked.proofs.SeatTrials.{one_found}
use Rattle.cm_locked.proofs.tests_lock.close_with.Goals as goal

pub close_round-requires-clause-right : goal.close_round-requires-clause-right
close_round-requires-clause-right g c round open_is words state are found represents =
    let opened = c.requires.found in
    let has = one_found 2 c.args.entries opened.first round words (sym open_is ∙ opened.round) found in
    (refl, ap (λ (n : ℕ). Count n) (sym has ∙ represents.count))
