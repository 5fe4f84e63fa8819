use Rattle.std.proofs.Common.{◌∙◌, arith}
use Rattle.cm_geo.proofs.AddressOrder.{segment_head_within}
use Rattle.cm_turn.proofs.EntryNumbers.{count_stays, told_as}
use Rattle.cm_turn.proofs.questions.CountQuestion.answer.Goals as goal

pub load-requires-clause-in_range : goal.load-requires-clause-in_range
load-requires-clause-in_range g c = omega (arith, segment_head_within (g.M.Mem.seen c.args.mem.now).setting.geo)

pub returns-clause-answers : goal.returns-clause-answers
returns-clause-answers g c =
    count_stays (g.M.Mem.seen c.load.new.self) c.args.self.now.segment c.unwrap_or.result c.in_ok-entries.entries c.args._out.now c.in_ok-entries.ensures.word
    (λ fits. c.unwrap_or.ensures ∙ told_as c.try_from.result c.in_ok-entries.entries 4294967295 c.try_from.ensures fits)
