-- Which answers the callers of a script have (own): each a front of its records, in order, each record once.
use Rattle.std.specs.Prelude.{ℕ, ◌≡◌, ◌⊎◌, ◌+◌, ◌==◌, Bool, true, false, List, [], ◌∷◌, ◌++◌, length, filter, slice_get, Some, None, Option, zero, suc}
use Rattle.std.specs.List.{enumerate_from, filter_map}
use Rattle.std.specs.Option.{option_map}
use Rattle.cm_geo.specs.declared.geo.Geo.{Geo}
use Rattle.cm_plain.specs.declared.op.Op.{Op}
use Rattle.cm_plain.specs.declared.op.Op.TheVariants.{Sweep}
use Rattle.cm_plain.specs.declared.reply.Reply.{Reply}
use Rattle.cm_plain.specs.declared.reply.Reply.TheVariants.{Swept}
use Rattle.cm_plain.specs.declared.receipt.Receipt.{Receipt}
use Rattle.cm_plain.specs.Limits.{segment_of}
use Rattle.cm_script.specs.declared.line.Line.{Line}
use Rattle.cm_plain.specs.History.{Call}

-- a record of a script with its number
abbrev pub Numbered : Type 0
Numbered = ℕ × Line

-- the records of one caller
abbrev pub records_of_caller : List Line → ℕ → List Numbered
records_of_caller script caller = filter (λ asked. asked.1.caller == caller) (enumerate_from 1 script)

-- a receipt is of a record, with this part
pub record IsOf (geo : Geo) (asked : Numbered) (part : ℕ) (receipt : Receipt) : Type 0 where
  -- of its caller
  pub caller_is : receipt.caller ≡ asked.1.caller
  -- of its number
  pub line_is : receipt.line ≡ asked.0
  -- of this part
  pub part_is : receipt.part ≡ part
  -- of the segment of its operation
  pub segment_is : receipt.segment ≡ segment_of geo asked.1.op

abbrev pub is_sweep : Op → Bool
is_sweep (Sweep segment prefix) = true
is_sweep _ = false

abbrev pub is_swept : Reply → Bool
is_swept (Swept key) = true
is_swept _ = false

-- keys that a sweep took: parts from 1 on
pub record TakesKeys (geo : Geo) (asked : Numbered) (receipts : List Receipt) : Type 0 where
  -- the record is a sweep
  pub sweep : is_sweep asked.1.op ≡ true
  -- each receipt is the next part of it
  pub each : (i : ℕ) (receipt : Receipt) → slice_get receipts i ≡ Some receipt → IsOf geo asked (i + 1) receipt
  -- and took a key
  pub swept : (i : ℕ) (receipt : Receipt) → slice_get receipts i ≡ Some receipt → is_swept receipt.reply ≡ true

-- the answers to a sweep that came to its end: the keys that it took, and an answer that took none
pub record AnswersSweep (geo : Geo) (asked : Numbered) (receipts : List Receipt) : Type 0 where
  pub taken : List Receipt
  pub last : Receipt
  -- the last answer stands behind the keys
  pub receipts_are : receipts ≡ taken ++ last ∷ []
  -- the keys are the first parts
  pub keys : TakesKeys geo asked taken
  -- the last answer is the part behind them
  pub is_of : IsOf geo asked (length taken + 1) last
  -- it took no key
  pub ended : is_swept last.reply ≡ false

-- the answers to another record: one, with part 0
pub record AnswersOnce (geo : Geo) (asked : Numbered) (receipts : List Receipt) : Type 0 where
  pub receipt : Receipt
  -- there is one receipt
  pub alone : receipts ≡ receipt ∷ []
  -- it is of the record
  pub is_of : IsOf geo asked 0 receipt

abbrev pub AnswersBy : Bool → Geo → Numbered → List Receipt → Type 0
AnswersBy true geo asked receipts = AnswersSweep geo asked receipts
AnswersBy false geo asked receipts = AnswersOnce geo asked receipts

-- the answers to a record, whole
abbrev pub Answers : Geo → Numbered → List Receipt → Type 0
Answers geo asked receipts = AnswersBy (is_sweep asked.1.op) geo asked receipts

-- the receipts are those of these records, record after record
abbrev pub AnswersAll : Geo → List Numbered → List Receipt → Type 0
AnswersAll geo [] receipts = receipts ≡ []
AnswersAll geo (asked ∷ later) receipts =
    (own others : List Receipt) × (receipts ≡ own ++ others) × Answers geo asked own × AnswersAll geo later others

-- of records that aren't answered whole: no receipts, but for keys that the first of them, a sweep, took
abbrev pub AnswersPart : Geo → List Numbered → List Receipt → Type 0
AnswersPart geo [] receipts = receipts ≡ []
AnswersPart geo (asked ∷ later) receipts = (receipts ≡ []) ⊎ TakesKeys geo asked receipts

-- how far a caller came: the records that are answered whole and the others, with the receipts of the first and those of the others
pub record Front : Type 0 where
  pub done : List Numbered
  pub rest : List Numbered
  pub whole : List Receipt
  pub part : List Receipt

-- all receipts of a caller that came so far
abbrev pub own : Front → List Receipt
own front = front.whole ++ front.part

-- a caller with these records came so far
pub record AnswersFront (geo : Geo) (records : List Numbered) (front : Front) : Type 0 where
  -- the records that are answered whole stand before the others
  pub records_are : records ≡ front.done ++ front.rest
  -- each of them has its answers, in order
  pub answered : AnswersAll geo front.done front.whole
  -- of the others, the first may be a sweep on its way
  pub opened : AnswersPart geo front.rest front.part

-- the record with this number
abbrev pub line_at : List Line → ℕ → Option Line
line_at script zero = None
line_at script (suc before) = slice_get script before

-- a receipt with the operation of its record
abbrev pub call_at : List Line → Receipt → Option Call
call_at script receipt = option_map (λ line. record { op = line.op; receipt = receipt }) (line_at script receipt.line)

-- the calls of a segment, by caller, line and part
abbrev pub calls_in : List Line → List Receipt → ℕ → List Call
calls_in script receipts segment = filter_map (call_at script) (filter (λ receipt. receipt.segment == segment) receipts)
