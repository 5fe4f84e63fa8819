-- A caller between two of its calls (own).
use Rattle.std.specs.Prelude.{ℕ, ◌≡◌, ◌≢◌, Bool, true, false, List, Option, Some, None, Result, Ok, Err}
use Rattle.cm_plain.specs.declared.receipt.Receipt.{Receipt}
use Rattle.cm_plain.specs.declared.reply.Reply.{Reply}
use Rattle.cm_turn.specs.declared.answer.Spot.{Spot}
use Rattle.cm_yard.specs.Views.{with_stop}
use Rattle.cm_store.specs.declared.pass.Pass.{Pass}
use Rattle.cm_store.specs.declared.store.Store.{Store}
use Rattle.cm_script.specs.declared.line.Line.{Line}
use Rattle.cm_script.specs.declared.report.CallerEnd.{CallerEnd}
use Rattle.cm_script.specs.declared.report.How.TheVariants as how
use Rattle.cm_script.specs.Answers.{calls_in}
use Rattle.cm_store.specs.Passes.{IsPassOf, claims_view}
use Rattle.cm_store.specs.Stops.{SameButClaims}
use Rattle.cm_history.specs.Kept.{KeepsPass}
use Rattle.cm_caller.specs.declared.caller.Halt.{Halt}
use Rattle.cm_caller.specs.declared.caller.Halt.TheVariants as halt

-- the receipt of an answer: of this caller, record and part
abbrev pub receipt_of : ℕ → ℕ → ℕ → Spot → Reply → Receipt
receipt_of caller line part spot answer = record { caller = caller; line = line; part = part; segment = spot.segment; number = spot.number; reply = answer }

-- the receipts are those of all calls that the pass made
abbrev pub KeepsReceipts : {F : Type 0} → Store → List Line → List Receipt → Pass F → Type 0
KeepsReceipts store script receipts pass = KeepsPass store.geo.extra (calls_in script receipts) pass

-- the end that a caller reports for a halt; want of memory ends the whole run, and is none
abbrev pub end_of : ℕ → Option (ℕ × Halt) → Option CallerEnd
end_of number None = None
end_of number (Some (line, halt.Stopped)) = Some (record { caller = number; line = line; how = how.Stopped })
end_of number (Some (line, halt.Dead)) = Some (record { caller = number; line = line; how = how.Dead })
end_of number (Some (line, halt.NoMemory)) = None

-- memory was missing
abbrev pub is_starved : Option (ℕ × Halt) → Bool
is_starved (Some (line, halt.NoMemory)) = true
is_starved _ = false

-- a caller halts here for nothing else than a number in a stop word
abbrev pub StopsFor : ℕ → Result (Unit {0}) Halt → Type 0
StopsFor found (Ok done) = Unit {0}
StopsFor found (Err why) = (why ≡ halt.Stopped) × (found ≢ 0)

-- a stop word was looked at, and nothing else done: where a number stopped the caller, it isn't 0
pub record WaitsOn {F : Type 0} (store : Store) (old now : Pass F) (result : Result (Unit {0}) Halt) : Type 0 where
  pub its : IsPassOf now store
  pub same : SameButClaims old now
  pub segment : ℕ
  pub found : ℕ
  pub looked : claims_view now ≡ with_stop (claims_view old) segment found
  pub stopped : StopsFor found result
