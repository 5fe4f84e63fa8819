-- What a caller got, where parts of its work follow each other.
use Rattle.std.proofs.Common.{◌≡◌, ◌∙◌, Bool, true, false, List, [], ◌∷◌, ◌++◌, Result, Ok, Err, IsErrAnd, append_assoc, inl, sym, ap, subst}
use Rattle.cm_geo.specs.declared.geo.Geo.{Geo}
use Rattle.cm_plain.specs.declared.receipt.Receipt.{Receipt}
use Rattle.cm_store.specs.declared.store.Store.{Store}
use Rattle.cm_store.specs.Passes.{claims_view}
use Rattle.cm_script.specs.declared.line.Line.{Line}
use Rattle.cm_script.specs.Answers.{Answers, AnswersBy, AnswersOnce, AnswersPart, AnswersSweep, Numbered, is_sweep}
use Rattle.cm_history.specs.Endings.{HasFoundStop}
use Rattle.cm_caller.specs.declared.caller.Caller.{Caller}
use Rattle.cm_caller.specs.declared.caller.Halt.{Halt}
use Rattle.cm_caller.specs.declared.caller.Halt.TheVariants as halt
use Rattle.cm_caller.specs.Callers.{KeepsReceipts}
use Rattle.cm_caller.specs.Records.{AreNone, Gets, Goes, Halts}

module _ {F : Type 0} (store : Store) (script : List Line) (before : List Receipt) where
  pub gets_behind : (more middle later : List Receipt) (now : Caller F) → middle ≡ before ++ more → Gets store script middle later now → Gets store script before (more ++ later) now
  gets_behind more middle later now is got = record {
    receipts_are = got.receipts_are ∙ (ap (λ (rs : List Receipt). rs ++ later) is ∙ append_assoc before more later);
    keeps = got.keeps;
  }

  -- a halt behind receipts that a caller got already
  pub halts_behind : (P Q : List Receipt → Type 0) (more middle : List Receipt) (now : Caller F) (why : Halt) → middle ≡ before ++ more → ((later : List Receipt) → P later → Q (more ++ later))
      → Halts store script P middle now why → Halts store script Q before now why
  halts_behind P Q more middle now halt.Stopped is then h = (h.0, (more ++ h.1.0, gets_behind more middle h.1.0 now is h.1.1, then h.1.0 h.1.2))
  halts_behind P Q more middle now halt.Dead is then h = absurd h
  halts_behind P Q more middle now halt.NoMemory is then h = tt

  -- and whatever else a caller went on to
  pub goes_behind : {T : Type 0} (A B : T → List Receipt → Type 0) (P Q : List Receipt → Type 0) (more middle : List Receipt) (now : Caller F) (result : Result T Halt) → middle ≡ before ++ more
      → ((done : T) (later : List Receipt) → A done later → B done (more ++ later)) → ((later : List Receipt) → P later → Q (more ++ later))
      → Goes store script A P middle now result → Goes store script B Q before now result
  goes_behind A B P Q more middle now (Ok done) is whole part g = (more ++ g.0, gets_behind more middle g.0 now is g.1, whole done g.0 g.2)
  goes_behind A B P Q more middle now (Err why) is whole part g = halts_behind P Q more middle now why is part g

  pub halts_weaker : (P Q : List Receipt → Type 0) (now : Caller F) (why : Halt) → ((more : List Receipt) → P more → Q more) → Halts store script P before now why → Halts store script Q before now why
  halts_weaker P Q now halt.Stopped then h = (h.0, (h.1.0, h.1.1, then h.1.0 h.1.2))
  halts_weaker P Q now halt.Dead then h = absurd h
  halts_weaker P Q now halt.NoMemory then h = tt

  pub goes_weaker : {T : Type 0} (A B : T → List Receipt → Type 0) (P Q : List Receipt → Type 0) (now : Caller F) (result : Result T Halt)
      → ((done : T) (more : List Receipt) → A done more → B done more) → ((more : List Receipt) → P more → Q more) → Goes store script A P before now result → Goes store script B Q before now result
  goes_weaker A B P Q now (Ok done) whole part g = (g.0, g.1, whole done g.0 g.2)
  goes_weaker A B P Q now (Err why) whole part g = halts_weaker P Q now why part g

  gets_same : (more : List Receipt) (old now : Caller F) → now.receipts.items ≡ old.receipts.items
      → (KeepsReceipts store script old.receipts.items old.pass → KeepsReceipts store script old.receipts.items now.pass) → Gets store script before more old → Gets store script before more now
  gets_same more old now same keeps got = record {
    receipts_are = same ∙ got.receipts_are;
    keeps = subst (λ (rs : List Receipt). KeepsReceipts store script rs now.pass) (sym same) (keeps got.keeps);
  }

  halts_same : (P : List Receipt → Type 0) (old now : Caller F) (why : Halt) → now.receipts.items ≡ old.receipts.items
      → (KeepsReceipts store script old.receipts.items old.pass → KeepsReceipts store script old.receipts.items now.pass) → claims_view now.pass ≡ claims_view old.pass
      → Halts store script P before old why → Halts store script P before now why
  halts_same P old now halt.Stopped same keeps claims h = (subst HasFoundStop (sym claims) h.0, (h.1.0, gets_same h.1.0 old now same keeps h.1.1, h.1.2))
  halts_same P old now halt.Dead same keeps claims h = absurd h
  halts_same P old now halt.NoMemory same keeps claims h = tt

  -- a caller that went on with the same receipts and the same found stop words
  pub goes_same : {T : Type 0} (A : T → List Receipt → Type 0) (P : List Receipt → Type 0) (old now : Caller F) (result : Result T Halt) → now.receipts.items ≡ old.receipts.items
      → (KeepsReceipts store script old.receipts.items old.pass → KeepsReceipts store script old.receipts.items now.pass) → claims_view now.pass ≡ claims_view old.pass
      → Goes store script A P before old result → Goes store script A P before now result
  goes_same A P old now (Ok done) same keeps claims g = (g.0, gets_same g.0 old now same keeps g.1, g.2)
  goes_same A P old now (Err why) same keeps claims g = halts_same P old now why same keeps claims g

  -- a halt that was passed on
  pub goes_passed : {T : Type 0} (A : T → List Receipt → Type 0) (P : List Receipt → Type 0) (now : Caller F) (result : Result T Halt) (why : Halt) → IsErrAnd result (λ w. w ≡ why)
      → Halts store script P before now why → Goes store script A P before now result
  goes_passed A P now (Ok done) why is h = absurd is
  goes_passed A P now (Err w) why is h = subst (λ (x : Halt). Halts store script P before now x) (sym is) h

-- ---- the answers to one record

pub once_answers : (geo : Geo) (asked : Numbered) (more : List Receipt) → is_sweep asked.1.op ≡ false → AnswersOnce geo asked more → Answers geo asked more
once_answers geo asked more once a = subst (λ (b : Bool). AnswersBy b geo asked more) (sym once) a

pub sweep_answers : (geo : Geo) (asked : Numbered) (more : List Receipt) → is_sweep asked.1.op ≡ true → AnswersSweep geo asked more → Answers geo asked more
sweep_answers geo asked more sweep a = subst (λ (b : Bool). AnswersBy b geo asked more) (sym sweep) a

pub none_part : (geo : Geo) (asked : Numbered) (more : List Receipt) → AreNone more → AnswersPart geo (asked ∷ []) more
none_part geo asked more none = inl none
