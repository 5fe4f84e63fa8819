-- The answers to a record, of what was done for it.
use Rattle.std.proofs.Common.{◌≡◌, ◌∙◌, ℕ, ◌+◌, ◌<◌, true, false, true≢false, List, [], ◌∷◌, ◌++◌, length, slice_get, Some, Result, Ok, Err, IsErrAnd, append-nil, refl, sym, ap, subst}
use Rattle.cm_geo.specs.declared.geo.Geo.{Geo}
use Rattle.cm_plain.specs.declared.op.Op.{Op}
use Rattle.cm_plain.specs.declared.op.Op.TheVariants as operation
use Rattle.cm_plain.specs.declared.receipt.Receipt.{Receipt}
use Rattle.cm_words.specs.Fuses.{FuseSeen}
use Rattle.cm_store.specs.declared.pass.Pass.{Pass}
use Rattle.cm_store.specs.declared.store.Store.{Store}
use Rattle.cm_store.specs.Passes.{IsResting, claims_view}
use Rattle.cm_store.specs.Sweeps.{ClosedSweep, IsInSweep, MayStep, OpenedSweep}
use Rattle.cm_store.proofs.Elements.{element_at}
use Rattle.cm_script.specs.declared.line.Line.{Line}
use Rattle.cm_script.specs.Answers.{Answers, AnswersOnce, AnswersPart, AnswersSweep, Numbered, calls_in, is_sweep}
use Rattle.cm_history.proofs.Keeping.{keeps_closed, keeps_opened}
use Rattle.cm_caller.specs.declared.caller.Caller.{Caller}
use Rattle.cm_caller.specs.declared.caller.Halt.{Halt}
use Rattle.cm_caller.specs.Callers.{KeepsReceipts}
use Rattle.cm_caller.specs.Records.{AnswersAt, AreNone, GetsSo, Goes, GoesOn, Halts, RecordIs, RestsAt}
use Rattle.cm_caller.specs.Sweeping.{Opens}
use Rattle.cm_caller.specs.Tries.{Stands}
use Rattle.cm_caller.proofs.Goings.{goes_behind, goes_same, goes_weaker, halts_weaker, none_part, once_answers, sweep_answers}
use Rattle.cm_caller.proofs.Rounds.{GoesRound}
use Rattle.cm_caller.proofs.SweepRounds.{rests_from, rests_to, stands_other}
use Rattle.cm_caller.proofs.Trying.{closed_claims, closed_stands, opened_stands}

-- ---- the sweep of a record

-- a sweep has a segment and a prefix
pub sweep_parts : (op : Op) → is_sweep op ≡ true → (segment : ℕ) × (prefix : List ℕ) × (op ≡ operation.Sweep segment prefix)
sweep_parts (operation.Sweep segment prefix) is = (segment, prefix, refl)
sweep_parts op is = absurd (true≢false (sym is))

-- a pass that rests at a sweep's record is in that sweep
pub sweep_here : {F : Type 0} (geo : Geo) (script : List Line) (at : ℕ) (pass : Pass F) → at < length script → RecordIs script at (λ line. is_sweep line.op ≡ true) → RestsAt geo script at pass
    → (segment : ℕ) × (prefix : List ℕ) × IsInSweep geo segment prefix pass
sweep_here geo script at pass inside sweep rests =
    let (line, there) = element_at script at inside in
    let parts = sweep_parts line.op (sweep line there) in
    (parts.0, parts.1, rests_to geo script at line parts.0 parts.1 there parts.2 pass rests)

pub may_step : {F : Type 0} (fused : F → FuseSeen) (store : Store) (script : List Line) (at number : ℕ) (pass : Pass F) → at < length script → RecordIs script at (λ line. is_sweep line.op ≡ true)
    → Stands fused store (RestsAt store.geo script at) number pass → MayStep store pass
may_step fused store script at number pass inside sweep stands =
    let here = sweep_here store.geo script at pass inside sweep stands.rests in
    record { its = stands.its; segment = here.0; prefix = here.1; in_sweep = here.2 }

-- ---- answers

module _ {F : Type 0} (store : Store) (script : List Line) (at : ℕ) (old now : Caller F) where
  pub asked_answers : (result : Result (Unit {0}) Halt) → RecordIs script at (λ line. is_sweep line.op ≡ false)
      → RecordIs script at (λ line. Goes store script (λ done. AnswersOnce store.geo (at + 1, line)) AreNone old.receipts.items now result) → AnswersAt store script at old.receipts.items now result
  asked_answers result once asked line there =
      let numbered : Numbered = (at + 1, line) in
      goes_weaker store script old.receipts.items (λ done. AnswersOnce store.geo numbered) (λ done. Answers store.geo numbered) AreNone (AnswersPart store.geo (numbered ∷ [])) now result
      (λ done more a. once_answers store.geo numbered more (once line there) a) (λ more none. none_part store.geo numbered more none) (asked line there)

  -- a sweep that wasn't opened
  pub unopened_answers : (why : Halt) → Halts store script AreNone old.receipts.items now why → AnswersAt store script at old.receipts.items now (Err why)
  unopened_answers why halts line there =
      halts_weaker store script old.receipts.items AreNone (AnswersPart store.geo ((at + 1, line) ∷ [])) now why (λ more none. none_part store.geo (at + 1, line) more none) halts

  -- one that was opened, and closed behind its steps
  pub swept_answers : (mid behind : Caller F) (result : Result (Unit {0}) Halt) → RecordIs script at (λ line. is_sweep line.op ≡ true)
      → Goes {T = Unit {0}} store script (λ done. AreNone) AreNone old.receipts.items mid (Ok tt)
      → RecordIs script at (λ line. Goes store script (λ done. AnswersSweep store.geo (at + 1, line)) (AnswersPart store.geo ((at + 1, line) ∷ [])) mid.receipts.items behind result)
      → now.receipts.items ≡ behind.receipts.items → (KeepsReceipts store script behind.receipts.items behind.pass → KeepsReceipts store script behind.receipts.items now.pass)
      → claims_view now.pass ≡ claims_view behind.pass → AnswersAt store script at old.receipts.items now result
  swept_answers mid behind result sweep opened swept same keeps claims line there =
      let numbered : Numbered = (at + 1, line) in
      let is : mid.receipts.items ≡ old.receipts.items ++ [] = opened.1.receipts_are ∙ ap (λ (rs : List Receipt). old.receipts.items ++ rs) opened.2 in
      let Part = AnswersPart store.geo (numbered ∷ []) in
      goes_behind store script old.receipts.items (λ done. AnswersSweep store.geo numbered) (λ done. Answers store.geo numbered) Part Part [] mid.receipts.items now result is
      (λ done later a. sweep_answers store.geo numbered later (sweep line there) a) (λ later a. a)
      (goes_same store script mid.receipts.items (λ done. AnswersSweep store.geo numbered) Part behind now result same keeps claims (swept line there))

-- ---- an opening, and a closing

module _ {F : Type 0} (fused : F → FuseSeen) (store : Store) (script : List Line) (at : ℕ) (old mid : Caller F) (pass : Pass F) (done : Unit {0}) where
  -- a caller that opened the sweep of a record is in it, with no receipt more
  pub opened_goes : (line : Line) (tries segment : ℕ) (prefix : List ℕ) → slice_get script at ≡ Some line → line.op ≡ operation.Sweep segment prefix → GoesRound fused store script IsResting old mid
      → OpenedSweep fused store tries segment prefix mid.pass pass (Ok done) → GoesOn fused store (RestsAt store.geo script at) old (record mid { pass = pass })
  opened_goes line tries segment prefix there is round opened = record {
    stands = subst (λ (n : ℕ). Stands fused store (RestsAt store.geo script at) n pass) round.goes.stands.number_is
        (stands_other fused store (IsInSweep store.geo segment prefix) (RestsAt store.geo script at) mid.pass.number pass (rests_from store.geo script at line segment prefix there is pass)
        (opened_stands fused store tries segment prefix mid.pass pass done round.goes.stands.safe opened));
    number_is = round.goes.number_is;
    halt_is = round.goes.halt_is;
  }

  pub opened_gets : (tries segment : ℕ) (prefix : List ℕ) → GoesRound fused store script IsResting old mid → OpenedSweep fused store tries segment prefix mid.pass pass (Ok done)
      → GetsSo store script AreNone old.receipts.items (record mid { pass = pass })
  opened_gets tries segment prefix round opened = (
    [],
    record {
      receipts_are = round.receipts_are ∙ sym (append-nil old.receipts.items);
      keeps = keeps_opened fused store tries segment prefix mid.pass pass done (calls_in script mid.receipts.items) round.keeps opened;
    },
    refl,
  )

module _ {F : Type 0} (fused : F → FuseSeen) (store : Store) (script : List Line) (at : ℕ) (old : Caller F) (pass : Pass F) (done : Unit {0}) (inside : at < length script)
    (sweep : RecordIs script at (λ line. is_sweep line.op ≡ true)) (stands : Stands fused store (RestsAt store.geo script at) old.number old.pass)
    (closed : ClosedSweep fused store old.pass pass (Ok done)) where
  -- one that closed it rests again
  pub closed_goes : GoesOn fused store IsResting old (record old { pass = pass })
  closed_goes = record {
    stands = subst (λ (n : ℕ). Stands fused store IsResting n pass) stands.number_is (closed_stands fused store old.pass pass done stands.safe closed);
    number_is = refl;
    halt_is = refl;
  }

  pub closed_keeps : (receipts : List Receipt) → KeepsReceipts store script receipts old.pass → KeepsReceipts store script receipts pass
  closed_keeps receipts keeps =
      let here = sweep_here store.geo script at old.pass inside sweep stands.rests in
      keeps_closed fused store old.pass pass done here.0 here.1 (calls_in script receipts) keeps here.2 closed

  pub closed_finds : claims_view pass ≡ claims_view old.pass
  closed_finds =
      let here = sweep_here store.geo script at old.pass inside sweep stands.rests in
      closed_claims fused store here.0 here.1 old.pass pass done here.2 closed

-- a halt that was passed on leaves a caller in no sweep
pub opens_passed : {F : Type 0} (fused : F → FuseSeen) (store : Store) (script : List Line) (at : ℕ) (old now : Caller F) (result : Result (Unit {0}) Halt) (why : Halt) → IsErrAnd result (λ w. w ≡ why)
    → GoesOn fused store IsResting old now → Opens fused store script at old now result
opens_passed fused store script at old now (Ok done) why is goes = absurd is
opens_passed fused store script at old now (Err w) why is goes = goes
