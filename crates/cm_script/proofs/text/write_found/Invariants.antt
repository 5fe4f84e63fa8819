-- The text of the segments so far has been written, and the writer stands between two records.
use Rattle.std.proofs.Common.{◌≡◌, Some, true, false, flat_map, take}
use Rattle.std.specs.Io.KnownBytes.{Appends}
use Rattle.csv.specs.Writing.{default_writer, fields_written, has_written, text_written, with_flexible, writer_setup}
use Rattle.cm_script.specs.Reports.{found_rows}
use Rattle.cm_script.specs.Rows.{text_of_rows}
use Rattle.cm_script.proofs.text.write_found.Given as goal

abbrev pub invariant-loop-seen : goal.invariant-loop-seen
invariant-loop-seen l = record {
  setup : writer_setup l.writer ≡ with_flexible default_writer true;
  between : (fields_written l.writer ≡ 0) × (has_written l.writer ≡ false);
  text : Appends (text_written (λ v. Some v.items) l.initial.writer) (text_written (λ v. Some v.items) l.writer) (text_of_rows (flat_map found_rows (take l.seen-index l.found)));
}
