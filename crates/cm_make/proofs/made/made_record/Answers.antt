-- The text is that of the one record.
use Rattle.std.proofs.Common.{◌∙◌, sym}
use Rattle.std.proofs.lemmas.Result.{IfOk-weaker}
use Rattle.cm_script.proofs.MappedErrors.{IfOk-map_err}
use Rattle.cm_script.proofs.RowTexts.{text_of_rows-one}
use Rattle.cm_make.specs.Made.{made_fields}
use Rattle.cm_make.proofs.made.made_record.Goals as goal

pub returns : goal.returns
returns c =
    let from = c.from_writer-writer.ensures in
    let bytes = rw (from.cfg, c.new.ensures, c.in_ok-row.ensures) at c.write_byte_record.ensures.bytes in
    let mapped = IfOk-map_err c.write_byte_record.result c.map_err.result (λ _. _) _ c.map_err.ensures.cases c.map_err.ensures.variant bytes in
    let written = rw c.in_ok-map_err.was at mapped in
    let line = simp (from.wtr, from.empty, c.new-2.ensures.items) at (written from.fields from.wrote (λ e. cc e)) in
    IfOk-map_err c.into_inner.result c.map_err-2.result _ _ c.map_err-2.ensures.cases c.map_err-2.ensures.variant
    (IfOk-weaker c.into_inner.result _ _ (λ text same. same ∙ line ∙ sym (text_of_rows-one (made_fields c.args.records c.args.report.now))) c.into_inner.ensures.ok)
