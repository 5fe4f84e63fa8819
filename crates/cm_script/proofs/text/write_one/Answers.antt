-- What csv writes for the row of a flexible writer is what the default writer writes for the fields.
use Rattle.std.proofs.lemmas.Result.{on_ok_weaker}
use Rattle.cm_script.proofs.MappedErrors.{IfOk-map_err}
use Rattle.cm_script.proofs.RowTexts.{row_text-flexible}
use Rattle.cm_script.proofs.text.write_one.Goals as goal

pub returns-clause-text : goal.returns-clause-text
returns-clause-text g c =
    let bytes = rw (c.requires.setup, row_text-flexible, c.in_ok-fill.ensures) at c.write_byte_record.ensures.bytes in
    IfOk-map_err c.write_byte_record.result c.map_err.result (λ _. _) _ c.map_err.ensures.cases c.map_err.ensures.variant
    (on_ok_weaker c.write_byte_record.result (λ written. written c.requires.between.0 c.requires.between.1 (λ e. cc e)) bytes)
