use Rattle.std.proofs.Common.{◌∙◌, ap, refl}
use Rattle.cm_plain.specs.declared.op.Op.TheVariants.{RemoveIf}
use Rattle.cm_words.specs.Effects.{Reads}
use Rattle.cm_words.specs.Memory.{Setting}
use Rattle.cm_words.proofs.CallSequences.{done_by, loads_then_err, loads_then_ok}
use Rattle.cm_turn.proofs.FoundValues.{remove_differs}
use Rattle.cm_turn.proofs.OtherAsks.{plan_changes}
use Rattle.cm_turn.proofs.TakenEntries.{remove_if_misses, remove_if_takes}
use Rattle.cm_turn.proofs.removing.RemoveIfOperation.judge.Goals as goal

pub returns-in-Differs-clause-judges : goal.returns-in-Differs-clause-judges
returns-in-Differs-clause-judges g c =
    remove_differs (g.M.Mem.seen c.compare.new.mem) c.args.geo.now c.args.self.now.key.now c.args.self.now.expected.now c.args._out.now
    (ap (λ (s : Setting). s.geo) c.in_ok-compare.ensures.loads.done.keeps.setting ∙ c.requires.readable.geo_is)
    (rw c.in-Differs.is at c.in_ok-compare.ensures.compares)

pub take_away-requires-clause-takes : goal.take_away-requires-clause-takes
take_away-requires-clause-takes g c =
    rw c.ask.ensures (remove_if_takes (g.M.Mem.seen c.compare.new.mem) c.args.geo.now c.args.self.now.key.now c.args.self.now.expected.now
    (rw c.in-Same.is at c.in_ok-compare.ensures.compares))

pub returns-in_err-plan-clause-loads : goal.returns-in_err-plan-clause-loads
returns-in_err-plan-clause-loads g c =
    loads_then_err g.M.Mem.seen g.M.Mem.same_rest _ c.compare.new.mem c.take_away.new.mem _ c.from_residual-in_err-plan.result
    c.from_residual-in_err-plan.ensures.0 (g.met.M.Mem.rest_transitive _ _ _)
    (done_by g.M.Mem.seen g.M.Mem.same_rest Reads Reads _ _ _ c.in_ok-compare.ensures.loads) c.in_err-plan.ensures.loads

pub returns-in_default-clause-loads : goal.returns-in_default-clause-loads
returns-in_default-clause-loads g c =
    loads_then_ok g.M.Mem.seen g.M.Mem.same_rest _ c.compare.new.mem c.take_away.new.mem _ _ (g.met.M.Mem.rest_transitive _ _ _)
    (done_by g.M.Mem.seen g.M.Mem.same_rest Reads Reads _ _ _ c.in_ok-compare.ensures.loads) c.in_ok-plan.ensures.loads

pub returns-in_default-clause-judges : goal.returns-in_default-clause-judges
returns-in_default-clause-judges g c =
    remove_if_misses (g.M.Mem.seen c.take_away.new.mem) c.args.geo.now c.args.self.now.key.now c.args.self.now.expected.now c.args._out.now
    (ap (λ (s : Setting). s.geo) c.in_ok-plan.ensures.loads.done.keeps.setting
    ∙ (ap (λ (s : Setting). s.geo) c.in_ok-compare.ensures.loads.done.keeps.setting ∙ c.requires.readable.geo_is))
    (c.in_ok-plan.ensures.absent c.in_default.is)

pub returns-clause-loads : goal.returns-clause-loads
returns-clause-loads g c =
    loads_then_ok g.M.Mem.seen g.M.Mem.same_rest _ c.compare.new.mem c.take_away.new.mem _ _ (g.met.M.Mem.rest_transitive _ _ _)
    (done_by g.M.Mem.seen g.M.Mem.same_rest Reads Reads _ _ _ c.in_ok-compare.ensures.loads) c.in_ok-plan.ensures.loads

pub returns-clause-judges : goal.returns-clause-judges
returns-clause-judges g c =
    let asked = RemoveIf c.args.self.now.key.now c.args.self.now.expected.now in
    plan_changes (g.M.Mem.seen c.take_away.new.mem) c.args.geo.now asked c.in-Some.plan c.answer_to.result c.args._out.now
    (rw c.ask.ensures at (rw c.in-Some.is at c.in_ok-plan.ensures.begins)) (c.answer_to.ensures asked _ c.args._out.now refl)
