-- The records of what was dropped in a segment, as they are written (own).
use Rattle.std.specs.Prelude.{ℕ, List}
use Rattle.cm_script.specs.declared.text.Dropped.{Dropped}
use Rattle.cm_script.specs.Reports.{dropped_row}

-- one for a cause that applied, else none
abbrev pub rows_of_drop : Dropped → List (List (List ℕ))
rows_of_drop it = dropped_row it.segment (it.cause.now, it.count)
