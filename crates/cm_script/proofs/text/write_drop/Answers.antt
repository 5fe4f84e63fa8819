-- A cause that applied has one record, and another one none.
use Rattle.std.proofs.Common.{◌≡◌, ◌≢◌, ◌++◌, ◌∷◌, [], ℕ, List, ne_eqb}
use Rattle.std.proofs.lemmas.Result.{on_ok_weaker}
use Rattle.csv.specs.Writing.{default_writer, row_text}
use Rattle.cm_script.specs.declared.text.Dropped.{Dropped}
use Rattle.cm_script.specs.DroppedRows.{rows_of_drop}
use Rattle.cm_script.specs.Reports.{dropped_fields}
use Rattle.cm_script.specs.Rows.{text_of_rows}
use Rattle.cm_script.proofs.RowTexts.{text_of_rows-none, text_of_rows-one}
use Rattle.cm_script.proofs.text.write_drop.Goals as goal

none_written : (it : Dropped) (before : List ℕ) → it.count ≡ 0 → before ≡ before ++ text_of_rows (rows_of_drop it)
none_written it before none = rw none (text_of_rows-none before)

one_written : (it : Dropped) (before now : List ℕ) → it.count ≢ 0 → now ≡ before ++ row_text default_writer (dropped_fields it.segment (it.cause.now, it.count))
    → now ≡ before ++ text_of_rows (rows_of_drop it)
one_written it before now some one = rw (ne_eqb it.count 0 some, text_of_rows-one (dropped_fields it.segment (it.cause.now, it.count))) one

pub returns-then-dropped-eq0-clause-text : goal.returns-then-dropped-eq0-clause-text
returns-then-dropped-eq0-clause-text c = none_written c.args.dropped.now _ c.if-dropped-eq0.true

pub returns-clause-text : goal.returns-clause-text
returns-clause-text c = on_ok_weaker c.write_one.result (λ one. one_written c.args.dropped.now _ _ c.if-dropped-eq0.false one) c.write_one.ensures.text
