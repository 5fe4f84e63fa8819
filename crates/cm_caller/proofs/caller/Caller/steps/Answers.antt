use Rattle.std.proofs.Common.{◌+◌, ◌∙◌, Bool, refl, subst}
use Rattle.cm_caller.specs.Records.{GetsSo, RecordIs}
use Rattle.cm_caller.specs.Sweeping.{IsPart}
use Rattle.cm_caller.proofs.SweepRounds.{sweep_begins, sweep_goes}
use Rattle.cm_caller.proofs.caller.Caller.steps.Goals as goal

pub loop-part-init : goal.loop-part-init
loop-part-init g c = (sweep_begins g.F.Fuse.fused c.args.store.now c.args.script.now c.args.at c.args.self.now c.requires.stands c.requires.keeps c.requires.sweep, refl)

pub loop-part-preserved : goal.loop-part-preserved
loop-part-preserved g c = (
  sweep_goes g.F.Fuse.fused c.args.store.now c.args.script.now c.args.at c.args.self.now c.loop-part.self c.step.new.self c.loop-part.part c.loop-part.invariant.0 c.in_ok-swept.ensures.goes_on
      c.requires.inside
      (subst (λ (b : Bool). RecordIs c.args.script.now c.args.at
      (λ line. GetsSo c.args.store.now c.args.script.now (IsPart c.args.store.now.geo (c.args.at + 1, line) c.loop-part.part b) c.loop-part.self.receipts.items c.step.new.self))
      c.if-not-swept.false c.in_ok-swept.ensures.stepped),
  c.in_ok-swept.ensures.long ∙ c.loop-part.invariant.1,
)
