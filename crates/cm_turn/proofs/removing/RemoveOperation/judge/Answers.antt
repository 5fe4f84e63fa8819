use Rattle.std.proofs.Common.{refl}
use Rattle.cm_plain.specs.declared.op.Op.TheVariants.{Remove}
use Rattle.cm_turn.proofs.OtherAsks.{plan_changes}
use Rattle.cm_turn.proofs.removing.RemoveOperation.judge.Goals as goal

pub returns-clause-judges : goal.returns-clause-judges
returns-clause-judges g c =
    let asked = Remove c.args.self.now.key.now in
    plan_changes (g.M.Mem.seen c.take_away.new.mem) c.args.geo.now asked c.in-Some.plan c.answer_to.result c.args._out.now
    (rw c.ask.ensures at (rw c.in-Some.is at c.in_ok-plan.ensures.begins)) (c.answer_to.ensures asked _ c.args._out.now refl)
