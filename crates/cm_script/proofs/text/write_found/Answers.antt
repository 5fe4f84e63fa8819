-- One more segment is written.
use Rattle.cm_script.specs.Reports.{dropped_rows, drops_by_cause, found_fields, found_rows}
use Rattle.cm_script.proofs.RowTexts.{text_of_rows-cons, text_of_rows-flat_more, text_of_rows-none}
use Rattle.cm_script.proofs.text.write_found.Goals as goal

pub loop-seen-init : goal.loop-seen-init
loop-seen-init c = record { setup = c.requires.setup; between = c.requires.between; text = text_of_rows-none _ }

pub loop-seen-preserved : goal.loop-seen-preserved
loop-seen-preserved c =
    let done = c.in_ok-write_drops.ensures in
    record {
      setup = done.setup;
      between = done.between;
      text = text_of_rows-flat_more found_rows c.args.found.now c.loop-seen.seen-index _ _ _ _ c.loop-seen-test.true c.loop-seen.invariant.text
          (text_of_rows-cons _ _ _ _ _ c.in_ok-write_one.ensures.text done.text);
    }
