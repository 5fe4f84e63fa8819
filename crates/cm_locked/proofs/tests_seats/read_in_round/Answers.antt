use Rattle.std.proofs.Common.{ℕ, refl, sym, ap, ◌∙◌}
use Rattle.cm_plain.specs.declared.reply.Reply.TheVariants.{Count}
use Rattle.cm_locked.proofs.FoundWords.{newest_found}
use Rattle.cm_locked.proofs.tests_seats.read_in_round.Goals as goal

pub close_round-requires-clause-right : goal.close_round-requires-clause-right
close_round-requires-clause-right g c round open_is words state are found represents =
    let opened = c.in_ok-first.ensures.found in
    let has = newest_found 2 c.in_ok-first.word _ opened.first round words (sym open_is ∙ opened.round) found in
    (refl, ap (λ (n : ℕ). Count n) (c.in-Ok.ensures.1 ∙ (sym has ∙ represents.count)))
