use Rattle.std.proofs.Common.{arith}
use Rattle.cm_plain.specs.Plans.{plan_change}
use Rattle.cm_segment.specs.ReplacementStages.{IsExtended}
use Rattle.cm_segment.proofs.Phases.{advances_none}
use Rattle.cm_segment.proofs.ReplacementStages.{extend_advances, extend_none, may_extend}
use Rattle.cm_segment.proofs.replacing.extend.Goals as goal

pub returns-then-run-old : goal.returns-then-run-old
returns-then-run-old g c =
    advances_none g.M.Mem.seen g.M.Mem.same_rest c.args.geo.now (plan_change c.args.plan.now)
    (IsExtended c.args.geo.now (plan_change c.args.plan.now) c.args.old c.args.run) _ _ (g.met.M.Mem.rest_reflexive _)
    (extend_none c.requires.replacement (omega (arith, c.if-run-old.true)) c.requires.at)

pub set-requires-clause-allowed : goal.set-requires-clause-allowed
set-requires-clause-allowed g c = may_extend c.requires.replacement (omega (arith, c.if-run-old.false)) c.requires.at

pub returns : goal.returns
returns g c = extend_advances c.requires.replacement (omega (arith, c.if-run-old.false)) c.requires.at c.set.ensures.stores
