-- The records of a text, and the text of records, as the kit's `csv` reads and writes them with its defaults: a leading byte order mark is
-- dropped, a line feed, a carriage return or both end a record, and an empty line is none.
use Rattle.std.specs.Prelude.{◌++◌, ◌∷◌, [], ℕ, List}
use Rattle.csv.specs.Reading.{default_config, records, strip_bom}
use Rattle.csv.specs.Writing.{default_writer, row_text}

-- every record of a text, each as the list of its fields
abbrev pub records_of : List ℕ → List (List (List ℕ))
records_of bytes = records default_config (strip_bom bytes)

-- the text of records, one after the other
unfoldable pub text_of_rows : List (List (List ℕ)) → List ℕ
text_of_rows [] = []
text_of_rows (row ∷ rows) = row_text default_writer row ++ text_of_rows rows
