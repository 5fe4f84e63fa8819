-- How a caller sweeps (own).
use Rattle.std.specs.Prelude.{ℕ, ◌≡◌, [], ◌∷◌, Bool, List, Result, Ok, Err}
use Rattle.cm_geo.specs.declared.geo.Geo.{Geo}
use Rattle.cm_plain.specs.declared.receipt.Receipt.{Receipt}
use Rattle.cm_words.specs.Fuses.{FuseSeen}
use Rattle.cm_store.specs.declared.store.Store.{Store}
use Rattle.cm_store.specs.Passes.{IsResting}
use Rattle.cm_script.specs.declared.line.Line.{Line}
use Rattle.cm_script.specs.Answers.{IsOf, Numbered, is_swept}
use Rattle.cm_caller.specs.declared.caller.Caller.{Caller}
use Rattle.cm_caller.specs.declared.caller.Halt.{Halt}
use Rattle.cm_caller.specs.Records.{GoesOn, RestsAt}

-- one receipt more, of this part of a record, which says whether a key was taken
pub record IsPart (geo : Geo) (asked : Numbered) (part : ℕ) (swept : Bool) (more : List Receipt) : Type 0 where
  pub receipt : Receipt
  pub alone : more ≡ receipt ∷ []
  pub is_of : IsOf geo asked part receipt
  pub swept_is : is_swept receipt.reply ≡ swept

-- a caller is in the sweep at an index, or, where it halted, in none
abbrev pub Opens : {F : Type 0} → (F → FuseSeen) → Store → List Line → ℕ → Caller F → Caller F → Result (Unit {0}) Halt → Type 0
Opens fused store script at old now (Ok done) = GoesOn fused store (RestsAt store.geo script at) old now
Opens fused store script at old now (Err why) = GoesOn fused store IsResting old now
