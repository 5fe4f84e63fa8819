use Rattle.cm_plain.specs.Plans.{op_of_ask}
use Rattle.cm_lock.specs.Tables.{view_of}
use Rattle.cm_turn.specs.Answers.{reply_in}
use Rattle.cm_turn.proofs.Endings.{nothing_by_look, on_error, reading_released}
use Rattle.cm_turn.proofs.call.work_in_read.Goals as goal

pub returns-in_err-release-clause-dead : goal.returns-in_err-release-clause-dead
returns-in_err-release-clause-dead g c =
    let h = reading_released (g.Q.Question.op c.args.question.now) (op_of_ask c.ask.result) c.in_ok-number.number (reply_in c.in_ok-answer.answer c.answer_held.new.out)
    (view_of c.args.seat.now) (view_of c.answer_held.new.seat) (view_of c.tell_held.new.seat) (view_of c.release.new.seat)
    (nothing_by_look _ _ c.in_ok-answer.ensures.looks) c.ask.ensures c.in_ok-answer.ensures.answers.stays c.in_ok-answer.ensures.looks.idle c.in_ok-number.ensures.enters.done
    c.in_err-release.ensures.releases.dead in
    on_error c.from_residual-in_err-release.result h
