-- A chunk was taken, or is now.
use Rattle.std.proofs.Common.{◌<◌, arith, inr, sym, ◌∙◌}
use Rattle.cm_check.proofs.TakenBits.{adds_more, adds_none, chunk_met}
use Rattle.cm_check.proofs.runs.Taken.take.Goals as goal

pub loop-at-init : goal.loop-at-init
loop-at-init c = adds_none c.args.self.now.bits c.args.chunk

pub returns-then-word-bit-ne0 : goal.returns-then-word-bit-ne0
returns-then-word-bit-ne0 c =
    let below : c.loop-at.at < 4096 = omega (arith, c.loop-at-test.true, c.requires) in (
      c.loop-at.at,
      record { begun = c.loop-at.auto.at; not_ended = c.loop-at-test.true },
      sym (c.loop-at.invariant.others c.loop-at.at below (inr (omega arith))) ∙ chunk_met c.loop-at.self.bits c.loop-at.at c.if-word-bit-ne0.true,
    )

pub loop-at-preserved : goal.loop-at-preserved
loop-at-preserved c =
    let below : c.loop-at.at < 4096 = omega (arith, c.loop-at-test.true, c.requires) in
    adds_more c.args.self.now.bits c.loop-at.self.bits c.args.chunk c.loop-at.at c.loop-at.self.words c.loop-at.auto.at below c.loop-at.invariant c.if-word-bit-ne0.false
