-- The text is that of the calls, then those of the ends, of what was found and of the final map, and then the record that ends a report.
use Rattle.std.proofs.Common.{◌∙◌, flat_map, map}
use Rattle.std.proofs.lemmas.Result.{IfOk-weaker}
use Rattle.cm_script.specs.Reports.{call_fields, caller_end_fields, end_fields, found_rows, map_fields}
use Rattle.cm_script.proofs.MappedErrors.{IfOk-map_err}
use Rattle.cm_script.proofs.RowTexts.{text_of_rows-parts}
use Rattle.cm_script.proofs.text.render.Goals as goal

pub returns : goal.returns
returns c =
    let from = c.from_writer-writer.ensures in
    let report = c.args.report.now in
    let calls = simp (from.wtr, from.empty, c.new-2.ensures.items, c.as_slice.ensures) at c.in_ok-write_all.ensures.text in
    let ends = simp c.as_slice-2.ensures at c.in_ok-write_all-2.ensures.text in
    let found = simp c.as_slice-3.ensures at c.in_ok-write_found.ensures.text in
    let pairs = simp c.as_slice-4.ensures at c.in_ok-write_all-3.ensures.text in
    let whole = text_of_rows-parts (map call_fields report.receipts) (map caller_end_fields report.ends) (flat_map found_rows report.found) (map map_fields report.map) (end_fields report) _ _ _ _ _
    calls ends found pairs c.in_ok-write_one.ensures.text in
    IfOk-map_err c.into_inner.result c.map_err.result _ _ c.map_err.ensures.cases c.map_err.ensures.variant
    (IfOk-weaker c.into_inner.result _ _ (λ text same. same ∙ whole) c.into_inner.ensures.ok)
