use Rattle.std.proofs.Common.{arith}
use Rattle.cm_plain.specs.Plans.{plan_change}
use Rattle.cm_segment.specs.ReplacementStages.{IsReplaced}
use Rattle.cm_segment.proofs.Phases.{advances_none}
use Rattle.cm_segment.proofs.ReplacementStages.{shrink_advances, shrink_none, may_shrink}
use Rattle.cm_segment.proofs.replacing.shrink.Goals as goal

pub returns-then-old-run : goal.returns-then-old-run
returns-then-old-run g c =
    advances_none g.M.Mem.seen g.M.Mem.same_rest c.args.geo.now (plan_change c.args.plan.now)
    (IsReplaced c.args.geo.now (plan_change c.args.plan.now) c.args.old c.args.run) _ _ (g.met.M.Mem.rest_reflexive _)
    (shrink_none c.requires.replacement (omega (arith, c.if-old-run.true)) c.requires.at)

pub clear-requires-clause-allowed : goal.clear-requires-clause-allowed
clear-requires-clause-allowed g c = may_shrink c.requires.replacement (omega (arith, c.if-old-run.false)) c.requires.at

pub returns : goal.returns
returns g c = shrink_advances c.requires.replacement (omega (arith, c.if-old-run.false)) c.requires.at c.clear.ensures.stores
