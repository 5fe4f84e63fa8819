use Rattle.std.proofs.Common.{arith}
use Rattle.core.specs.Mem.Slots.{slots_items}
use Rattle.cm_yard.proofs.Claiming.{owners_none, owners_one}
use Rattle.cm_yard.proofs.Counting.{owned_step}
use Rattle.cm_yard.proofs.seats.count_owned.Goals as goal
use Rattle.cm_yard.proofs.seats.count_owned.Goals.{else-word-ne0, then-word-ne0}

pub loop-at-preserved : goal.loop-at-preserved
loop-at-preserved c =
    let i = c.loop-at.invariant in
    let step = owned_step (slots_items c.args.closed.now.words) c.loop-at.at c.word.result c.word.ensures in
    elim c.if-word-ne0.branch [
      | then-word-ne0 w ↦ (let one = owners_one c.word.result w.if-word-ne0.true in record { within = omega (arith, i.within, w.count-is); all = omega (arith, i.all, w.count-is) })
      | else-word-ne0 w ↦ (let none = owners_none c.word.result w.if-word-ne0.false in record { within = omega (arith, i.within, w.count-is); all = omega (arith, i.all, w.count-is) })
    ]
