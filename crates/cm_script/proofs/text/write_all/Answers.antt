-- One more record is written.
use Rattle.std.proofs.Common.{sym}
use Rattle.std.proofs.lemmas.List.{append-nil}
use Rattle.cm_script.specs.Rows.{text_of_rows}
use Rattle.cm_script.proofs.RowTexts.{text_of_rows-more}
use Rattle.cm_script.proofs.text.write_all.Goals as goal

pub loop-item-init : goal.loop-item-init
unfolding text_of_rows
loop-item-init g c = record { setup = c.requires.setup; between = c.requires.between; text = sym (append-nil _) }

pub loop-item-preserved : goal.loop-item-preserved
loop-item-preserved g c =
    let done = c.in_ok-write_one.ensures in
    let more = text_of_rows-more g.T.Record.fields c.args.items.now c.loop-item.item-index c.item-item.result _ _ c.loop-item-test.true c.item-item.is c.loop-item.invariant.text in
    record { setup = done.setup; between = done.between; text = rw done.text more }
