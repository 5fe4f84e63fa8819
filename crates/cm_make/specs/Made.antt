-- The record that is printed of a generated script's run (own; the digest is FNV-1a, by Fowler, Noll and Vo).
use Rattle.std.specs.Prelude.{ℕ, ◌-◌, ◌/◌, ◌%◌, ◌^◌, ◌∷◌, [], Bool, true, false, List, length, map, codes, decimal, slice_index}
use Rattle.std.specs.List.{count_by, range_with_len}
use Rattle.cm_geo.specs.Hash.{hash}
use Rattle.cm_plain.specs.declared.receipt.Receipt.{Receipt}
use Rattle.cm_plain.specs.declared.reply.Reply.{Reply}
use Rattle.cm_plain.specs.declared.reply.Reply.TheVariants.{New, Replaced, Kept, Missing, Removed, Value}
use Rattle.cm_script.specs.declared.report.Report.{Report}
use Rattle.cm_script.specs.Reports.{map_text}
use Rattle.cm_script.specs.Rows.{text_of_rows}

-- which answers are counted, each kind by itself
abbrev pub is_new : Reply → Bool
is_new New = true
is_new _ = false

abbrev pub is_replaced : Reply → Bool
is_replaced Replaced = true
is_replaced _ = false

abbrev pub is_kept : Reply → Bool
is_kept (Kept value) = true
is_kept _ = false

abbrev pub is_missing : Reply → Bool
is_missing Missing = true
is_missing _ = false

abbrev pub is_removed : Reply → Bool
is_removed Removed = true
is_removed _ = false

abbrev pub is_value : Reply → Bool
is_value (Value value) = true
is_value _ = false

-- how many answers are of a kind
abbrev pub answers : (Reply → Bool) → List Receipt → ℕ
answers is_kind receipts = count_by (λ receipt. is_kind receipt.reply) receipts

-- the hexadecimal digit of a number below 16, in lower case
abbrev pub hex_digit : ℕ → ℕ
hex_digit number = slice_index (codes "0123456789abcdef") number

-- the sixteen hexadecimal digits of a number of 64 bits, the highest first
unfoldable pub hex_text : ℕ → List ℕ
hex_text number = map (λ place. hex_digit (number / 16 ^ (15 - place) % 16)) (range_with_len 0 16)

-- the digest of a report's map: the hash of the text of its records
abbrev pub digest_text : Report → List ℕ
digest_text report = hex_text (hash (map_text report.map))

-- the records of the script, the answers of each kind that is counted, the pairs of the map, and the map's digest
abbrev pub made_fields : ℕ → Report → List (List ℕ)
made_fields records report =
    codes "made" ∷ decimal records ∷ decimal (answers is_new report.receipts) ∷ decimal (answers is_replaced report.receipts)
    ∷ decimal (answers is_kept report.receipts) ∷ decimal (answers is_missing report.receipts) ∷ decimal (answers is_removed report.receipts)
    ∷ decimal (answers is_value report.receipts) ∷ decimal (length report.map) ∷ digest_text report ∷ []

-- the text of that record, one line
abbrev pub made_text : ℕ → Report → List ℕ
made_text records report = text_of_rows (made_fields records report ∷ [])
