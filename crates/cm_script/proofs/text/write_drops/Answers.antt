-- One more cause is looked at.
use Rattle.std.proofs.Common.{arith}
use Rattle.cm_script.specs.DroppedRows.{rows_of_drop}
use Rattle.cm_script.proofs.RowTexts.{text_of_rows-flat_more, text_of_rows-none}
use Rattle.cm_script.proofs.text.write_drops.Goals as goal

pub loop-dropped-init : goal.loop-dropped-init
loop-dropped-init c = record { setup = c.requires.setup; between = c.requires.between; text = text_of_rows-none _ }

pub loop-dropped-preserved : goal.loop-dropped-preserved
loop-dropped-preserved c =
    let done = c.in_ok-write_drop.ensures in
    record {
      setup = done.setup;
      between = done.between;
      text = text_of_rows-flat_more rows_of_drop c.drops_of-drops.result c.loop-dropped.dropped-index _ _ _ _
          (let many = c.drops_of-drops.auto in omega (arith, many, c.loop-dropped-test.true)) c.loop-dropped.invariant.text done.text;
    }
