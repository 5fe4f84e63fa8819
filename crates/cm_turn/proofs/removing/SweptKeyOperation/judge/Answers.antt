use Rattle.std.proofs.Common.{◌∙◌, ap}
use Rattle.cm_plain.specs.declared.op.Op.TheVariants.{Sweep}
use Rattle.cm_plain.specs.declared.reply.Reply.TheVariants as reply
use Rattle.cm_words.specs.Memory.{Setting}
use Rattle.cm_turn.proofs.OtherAsks.{plan_changes}
use Rattle.cm_turn.proofs.TakenEntries.{copied_key, sweep_ends, sweep_takes}
use Rattle.cm_turn.proofs.removing.SweptKeyOperation.judge.Goals as goal

pub take_away-requires-clause-takes : goal.take_away-requires-clause-takes
take_away-requires-clause-takes g c =
    rw c.ask.ensures (sweep_takes (g.M.Mem.seen c.args.mem.now) c.args.geo.now c.args.self.now.segment c.args.self.now.prefix.now c.args.self.now.key.now
    c.requires.ready.prefixed)

pub returns-in_default-clause-judges : goal.returns-in_default-clause-judges
returns-in_default-clause-judges g c =
    sweep_ends (g.M.Mem.seen c.args.mem.now) (g.M.Mem.seen c.take_away.new.mem) c.args.geo.now c.args.self.now.segment c.args.self.now.prefix.now
    c.args.self.now.key.now c.args.out.now c.in_ok-plan.ensures.loads.done
    (ap (λ (s : Setting). s.geo) c.in_ok-plan.ensures.loads.done.keeps.setting ∙ c.requires.readable.geo_is) c.requires.ready
    (c.in_ok-plan.ensures.absent c.in_default.is)

pub returns-clause-judges : goal.returns-clause-judges
returns-clause-judges g c =
    let asked = Sweep c.args.self.now.segment c.args.self.now.prefix.now in
    plan_changes (g.M.Mem.seen c.take_away.new.mem) c.args.geo.now asked c.in-Some.plan c.answer_to-answer.result _
    (rw c.ask.ensures at (rw c.in-Some.is at c.in_ok-plan.ensures.begins)) (c.answer_to-answer.ensures asked _ _
    (ap reply.Swept (copied_key c.copy_from_slice.new.self c.in-Some.plan.key.now _ c.copy_from_slice.ensures.after)))
