-- The text of a report (own; CSV is the kit's).
use Rattle.std.specs.Prelude.{ℕ, ◌++◌, ◌/◌, ◌%◌, ◌^◌, ◌==◌, Bool, List, [], ◌∷◌, length, map, codes, decimal, flat_map, if◌then◌else◌}
use Rattle.cm_plain.specs.declared.reply.Pair.{Pair}
use Rattle.cm_plain.specs.declared.reply.Reply.{Reply}
use Rattle.cm_plain.specs.declared.reply.Reply.TheVariants.{New, Replaced, Kept, Missing, Differs, Removed, Value, FullChain, FullSpent, Worn, Count, Pairs, Swept, SweptAll}
use Rattle.cm_plain.specs.declared.receipt.Receipt.{Receipt}
use Rattle.cm_plain.specs.declared.receipt.MapLine.{MapLine}
use Rattle.cm_plain.specs.declared.found.Drops.{Drops}
use Rattle.cm_plain.specs.declared.found.SegFound.{SegFound}
use Rattle.cm_script.specs.declared.report.CallerEnd.{CallerEnd}
use Rattle.cm_script.specs.declared.report.How.{How}
use Rattle.cm_script.specs.declared.report.How.TheVariants as how
use Rattle.cm_script.specs.declared.report.Report.{Report}
use Rattle.cm_script.specs.Rows.{text_of_rows}

-- a pair's two fields
abbrev pub pair_fields : Pair → List (List ℕ)
pair_fields pair = pair.key ∷ pair.value ∷ []

-- the word of an answer, and its data
abbrev pub answer_fields : Reply → List (List ℕ)
answer_fields New = codes "new" ∷ []
answer_fields Replaced = codes "replaced" ∷ []
answer_fields (Kept value) = codes "kept" ∷ value ∷ []
answer_fields Missing = codes "missing" ∷ []
answer_fields Differs = codes "differs" ∷ []
answer_fields Removed = codes "removed" ∷ []
answer_fields (Value value) = codes "value" ∷ value ∷ []
answer_fields FullChain = codes "full-chain" ∷ []
answer_fields FullSpent = codes "full-spent" ∷ []
answer_fields Worn = codes "worn" ∷ []
answer_fields (Count count) = codes "count" ∷ decimal count ∷ []
answer_fields (Pairs pairs) = codes "pairs" ∷ flat_map pair_fields pairs
answer_fields (Swept key) = codes "swept" ∷ key ∷ []
answer_fields SweptAll = codes "swept-all" ∷ []

-- caller, line, part, segment and number of an answer, and the answer
abbrev pub call_fields : Receipt → List (List ℕ)
call_fields receipt =
    codes "call" ∷ decimal receipt.caller ∷ decimal receipt.line ∷ decimal receipt.part ∷ decimal receipt.segment ∷ decimal receipt.number
    ∷ answer_fields receipt.reply

-- how a caller ended, and at which of its records
abbrev pub how_word : How → List ℕ
how_word how.Stopped = codes "stopped"
how_word how.Dead = codes "dead"

abbrev pub caller_end_fields : CallerEnd → List (List ℕ)
caller_end_fields end = how_word end.how ∷ decimal end.caller ∷ decimal end.line ∷ []

-- yes or no
abbrev pub flag : Bool → List ℕ
flag so = decimal (if so then 1 else 0)

-- what was found in a segment: the entries that were kept, the levels in the lock word, whether a change was under way, and whether the chain was cut
abbrev pub found_fields : SegFound → List (List ℕ)
found_fields seen =
    codes "found" ∷ decimal seen.segment ∷ decimal seen.kept ∷ decimal (seen.lock % 2 ^ 30) ∷ decimal (seen.lock / 2 ^ 30 % 2) ∷ decimal (seen.lock / 2 ^ 31 % 2)
    ∷ flag seen.in_flight ∷ flag seen.cut ∷ []

-- the causes for which slots were dropped, and how many for each
abbrev pub drops_by_cause : Drops → List (List ℕ × ℕ)
drops_by_cause drops =
    (codes "range", drops.range) ∷ (codes "lengths", drops.lengths) ∷ (codes "checksum", drops.checksum) ∷ (codes "padding", drops.padding)
    ∷ (codes "segment", drops.segment) ∷ (codes "fingerprint", drops.fingerprint) ∷ (codes "duplicate", drops.duplicate) ∷ (codes "overlap", drops.overlap)
    ∷ (codes "allowance", drops.allowance) ∷ []

abbrev pub dropped_fields : ℕ → List ℕ × ℕ → List (List ℕ)
dropped_fields segment (cause, count) = codes "dropped" ∷ decimal segment ∷ cause ∷ decimal count ∷ []

-- one record for each cause that applied
abbrev pub dropped_row : ℕ → List ℕ × ℕ → List (List (List ℕ))
dropped_row segment drop = if drop.1 == 0 then [] else dropped_fields segment drop ∷ []

abbrev pub dropped_rows : ℕ → List (List ℕ × ℕ) → List (List (List ℕ))
dropped_rows segment drops = flat_map (dropped_row segment) drops

-- what was found in a segment, and what was dropped there
abbrev pub found_rows : SegFound → List (List (List ℕ))
found_rows seen = found_fields seen ∷ dropped_rows seen.segment (drops_by_cause seen.drops)

-- a pair of the final map, with its segment
abbrev pub map_fields : MapLine → List (List ℕ)
map_fields line = codes "map" ∷ decimal line.segment ∷ line.key ∷ line.value ∷ []

-- the text of the pairs of a map
abbrev pub map_text : List MapLine → List ℕ
map_text lines = text_of_rows (map map_fields lines)

-- the numbers of answers and of pairs, and the extra tiers
abbrev pub end_fields : Report → List (List ℕ)
end_fields report = codes "end" ∷ decimal (length report.receipts) ∷ decimal (length report.map) ∷ decimal report.extra ∷ []

abbrev pub rows_of : Report → List (List (List ℕ))
rows_of report =
    map call_fields report.receipts ++ map caller_end_fields report.ends ++ flat_map found_rows report.found ++ map map_fields report.map ++ end_fields report ∷ []

-- the text of a report: its records, one line each
abbrev pub text_of : Report → List ℕ
text_of report = text_of_rows (rows_of report)
