use Rattle.std.proofs.Common.{refl, ◌∙◌}
use Rattle.cm_plain.specs.declared.op.Op.TheVariants.{Get}
use Rattle.cm_plain.specs.Replies.{reply_of_heard}
use Rattle.cm_lock.specs.Tables.{key_of, view_of}
use Rattle.cm_turn.proofs.FoundRounds.{answers_round}
use Rattle.cm_turn.proofs.rounds.get_in_round.Goals as goal

pub close_round-requires-clause-right : goal.close_round-requires-clause-right
close_round-requires-clause-right g c = λ round begun words state are found represents.
    (refl, c.heard.ensures ∙ (c.in_ok-answer.ensures.right.right round begun words state are found represents).1)

pub returns-in-Some-clause-ends : goal.returns-in-Some-clause-ends
returns-in-Some-clause-ends g c =
    answers_round (key_of c.args.ground.now.table.now) (Get c.args.key.now) c.find_in_round.new.out (view_of c.args.seat.now) (view_of c.open_round.new.seat) (view_of c.find_in_round.new.seat)
    (view_of c.close_round.new.seat) c.in_ok-open_round.field-0 c.in_ok-answer.answer c.in-Some.number (reply_of_heard c.heard.result)
    c.requires.idle c.if-not-branch.false c.in_ok-open_round.ensures.opens.done c.in_ok-answer.ensures.peeks c.in_ok-answer.ensures.right c.heard.ensures
    (rw c.in-Some.is at c.in_ok-number.ensures.closes.done)
