-- How a caller answers and performs its records (own).
use Rattle.std.specs.Prelude.{ℕ, ◌≡◌, ◌+◌, ◌++◌, ◌∷◌, [], ◌==◌, false, true, drop, filter, is_some, slice_get, List, Option, Some, None, Result, Ok, Err}
use Rattle.std.specs.List.{enumerate_from}
use Rattle.cm_geo.specs.declared.geo.Geo.{Geo}
use Rattle.cm_plain.specs.declared.receipt.Receipt.{Receipt}
use Rattle.cm_plain.specs.declared.op.Op.{Op}
use Rattle.cm_plain.specs.declared.op.Op.TheVariants as op
use Rattle.cm_plain.specs.Limits.{KeepsLimits}
use Rattle.cm_words.specs.Fuses.{FuseSeen}
use Rattle.cm_store.specs.declared.pass.Pass.{Pass}
use Rattle.cm_store.specs.declared.store.Store.{Store}
use Rattle.cm_store.specs.Passes.{IsResting, claims_view}
use Rattle.cm_store.specs.Sweeps.{IsInSweep}
use Rattle.cm_script.specs.declared.line.Line.{Line}
use Rattle.cm_script.specs.declared.report.CallerEnd.{CallerEnd}
use Rattle.cm_script.specs.Answers.{Answers, AnswersAll, AnswersFront, AnswersPart, Front, Numbered, own, records_of_caller}
use Rattle.cm_script.specs.Ends.{EndsAt}
use Rattle.cm_history.specs.Endings.{HasFoundStop}
use Rattle.cm_caller.specs.declared.caller.Caller.{Caller}
use Rattle.cm_caller.specs.declared.caller.Halt.{Halt}
use Rattle.cm_caller.specs.declared.caller.Halt.TheVariants as halt
use Rattle.cm_caller.specs.Callers.{KeepsReceipts, end_of, is_starved}
use Rattle.cm_caller.specs.Tries.{Stands}

-- ---- one record

-- the record at an index, counted from 0, is so
abbrev pub RecordIs : List Line → ℕ → (Line → Type 0) → Type 0
RecordIs script at IsSo = (line : Line) → slice_get script at ≡ Some line → IsSo line

-- it is this caller's, and keeps the limits
pub record IsRecordOf (geo : Geo) (caller : ℕ) (line : Line) : Type 0 where
  pub caller_is : line.caller ≡ caller
  pub limits : KeepsLimits geo line.op

-- how a live pass rests within an operation: in a sweep, holding Update there, and else holding nothing
abbrev pub RestsIn : {F : Type 0} → Geo → Op → Pass F → Type 0
RestsIn geo (op.Sweep segment prefix) pass = IsInSweep geo segment prefix pass
RestsIn geo _ pass = IsResting pass

-- within that of the record at an index
abbrev pub RestsAt : {F : Type 0} → Geo → List Line → ℕ → Pass F → Type 0
RestsAt geo script at pass = RecordIs script at (λ line. RestsIn geo line.op pass)

-- a caller got these receipts behind those that it had, and its receipts are those of all calls of its pass
pub record Gets {F : Type 0} (store : Store) (script : List Line) (before more : List Receipt) (now : Caller F) : Type 0 where
  pub receipts_are : now.receipts.items ≡ before ++ more
  pub keeps : KeepsReceipts store script now.receipts.items now.pass

-- besides, those that it got are so
abbrev pub GetsSo : {F : Type 0} → Store → List Line → (List Receipt → Type 0) → List Receipt → Caller F → Type 0
GetsSo store script AreSo before now = (more : List Receipt) × Gets store script before more now × AreSo more

-- how a caller halts: it found a stop word raised, and got receipts that are so; or memory was missing. Nobody dies
abbrev pub Halts : {F : Type 0} → Store → List Line → (List Receipt → Type 0) → List Receipt → Caller F → Halt → Type 0
Halts store script AreSo before now halt.Stopped = HasFoundStop (claims_view now.pass) × GetsSo store script AreSo before now
Halts store script AreSo before now halt.NoMemory = Unit {0}
Halts store script AreSo before now halt.Dead = ⊥

-- what a caller got for a part of its work: these receipts, where it went on, and those, where it halted
abbrev pub Goes : {F T : Type 0} → Store → List Line → (T → List Receipt → Type 0) → (List Receipt → Type 0) → List Receipt → Caller F → Result T Halt → Type 0
Goes store script AreSo ArePart before now (Ok done) = GetsSo store script (AreSo done) before now
Goes store script AreSo ArePart before now (Err why) = Halts store script ArePart before now why

-- nothing
abbrev pub AreNone : List Receipt → Type 0
AreNone more = more ≡ []

-- the record at an index was answered whole, or, where the caller halted, a part of it
abbrev pub AnswersAt : {F : Type 0} → Store → List Line → ℕ → List Receipt → Caller F → Result (Unit {0}) Halt → Type 0
AnswersAt store script at before now result =
    RecordIs script at (λ line. Goes store script (λ done. Answers store.geo (at + 1, line)) (AnswersPart store.geo ((at + 1, line) ∷ [])) before now result)

-- nothing of a caller but its pass and its receipts is another, and the pass rests so
pub record GoesOn {F : Type 0} (fused : F → FuseSeen) (store : Store) (Rests : Pass F → Type 0) (old now : Caller F) : Type 0 where
  pub stands : Stands fused store Rests now.number now.pass
  pub number_is : now.number ≡ old.number
  pub halt_is : now.halt ≡ old.halt

-- ---- all records

-- the records of a caller from an index on, counted from 0
abbrev pub records_from : List Line → ℕ → ℕ → List Numbered
records_from script caller at = filter (λ asked. asked.1.caller == caller) (enumerate_from (at + 1) (drop at script))

-- receipts are the answers to all records of a caller before an index
pub record AnswersBefore (geo : Geo) (script : List Line) (caller at : ℕ) (receipts : List Receipt) : Type 0 where
  pub done : List Numbered
  pub records_are : records_of_caller script caller ≡ done ++ records_from script caller at
  pub answered : AnswersAll geo done receipts

-- receipts are those of a front of a caller's records, with this end
pub record HasFront (geo : Geo) (script : List Line) (caller : ℕ) (receipts : List Receipt) (end : Option CallerEnd) : Type 0 where
  pub front : Front
  pub own_is : receipts ≡ own front
  pub answered : AnswersFront geo (records_of_caller script caller) front
  pub ended : EndsAt caller front end

-- a caller that memory lasted for has the answers to a front of its records, and an end only where it found a stop word raised
pub record HasAnswered {F : Type 0} (store : Store) (script : List Line) (caller : Caller F) : Type 0 where
  pub keeps : KeepsReceipts store script caller.receipts.items caller.pass
  pub front : HasFront store.geo script caller.number caller.receipts.items (end_of caller.number caller.halt)
  pub stopped : is_some (end_of caller.number caller.halt) ≡ true → HasFoundStop (claims_view caller.pass)

-- a caller that has done nothing yet
pub record IsReady {F : Type 0} (fused : F → FuseSeen) (store : Store) (script : List Line) (caller : Caller F) : Type 0 where
  pub stands : Stands fused store IsResting caller.number caller.pass
  pub none : caller.receipts.items ≡ []
  pub going : caller.halt ≡ None
  pub keeps : KeepsReceipts store script [] caller.pass

-- a caller performed its records
pub record Performs {F : Type 0} (fused : F → FuseSeen) (store : Store) (script : List Line) (old now : Caller F) : Type 0 where
  pub stands : Stands fused store IsResting now.number now.pass
  pub number_is : now.number ≡ old.number
  pub answers : is_starved now.halt ≡ false → HasAnswered store script now
