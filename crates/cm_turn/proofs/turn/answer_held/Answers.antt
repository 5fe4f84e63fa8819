use Rattle.std.proofs.Common.{rules, ◌∙◌}
use Rattle.cm_turn.proofs.Holding.{answered_held}
use Rattle.cm_turn.proofs.turn.answer_held.Goals as goal

pub returns-clause-answers : goal.returns-clause-answers
returns-clause-answers g c =
    let h = answered_held g.F.Fuse.fused c.answer.new.mem c.args.table.now (g.Q.Question.op c.args.question.now) c.answer.new.out c.answer.result
    (c.answer.ensures.loads.rest.loan.table ∙ c.hold-hold.ensures.table) c.answer.ensures.answers in
    search (rules, h)
