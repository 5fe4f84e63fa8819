-- A caller between two of its records.
use Rattle.std.proofs.Common.{◌≡◌, ◌≢◌, ◌∙◌, ℕ, ◌+◌, ◌≤◌, List, length, slice_get, Some, Ok, Err, refl, sym, subst}
use Rattle.cm_plain.specs.declared.receipt.Receipt.{Receipt}
use Rattle.cm_words.specs.Fuses.{FuseSeen}
use Rattle.cm_store.specs.declared.store.Store.{Store}
use Rattle.cm_store.specs.Passes.{IsResting}
use Rattle.cm_script.specs.declared.line.Line.{Line}
use Rattle.cm_caller.specs.declared.caller.Caller.{Caller}
use Rattle.cm_caller.specs.declared.caller.Halt.{Halt}
use Rattle.cm_caller.specs.Callers.{KeepsReceipts}
use Rattle.cm_caller.specs.Records.{AnswersAt, AnswersBefore, GoesOn, IsReady, Performs}
use Rattle.cm_caller.proofs.Performing.{before_mine, before_none, before_other, done_answers, halted_answers}
use Rattle.cm_caller.proofs.SweepRounds.{goes_then}

-- a caller goes on, and has the answers to its records before an index
pub record PerformsRound {F : Type 0} (fused : F → FuseSeen) (store : Store) (script : List Line) (at : ℕ) (old now : Caller F) : Type 0 where
  pub goes : GoesOn fused store IsResting old now
  pub keeps : KeepsReceipts store script now.receipts.items now.pass
  pub answers : AnswersBefore store.geo script old.number at now.receipts.items

module _ {F : Type 0} (fused : F → FuseSeen) (store : Store) (script : List Line) (old : Caller F) (ready : IsReady fused store script old) where
  pub perform_begins : PerformsRound fused store script 0 old old
  perform_begins = record {
    goes = record { stands = ready.stands; number_is = refl; halt_is = refl };
    keeps = subst (λ (rs : List Receipt). KeepsReceipts store script rs old.pass) (sym ready.none) ready.keeps;
    answers = before_none store.geo script old.number old.receipts.items ready.none;
  }

  pub perform_ends : (at : ℕ) (now : Caller F) → PerformsRound fused store script at old now → length script ≤ at → Performs fused store script old now
  perform_ends at now round behind = record {
    stands = round.goes.stands;
    number_is = round.goes.number_is;
    answers = λ lives. done_answers store script at now (round.goes.halt_is ∙ ready.going) behind round.keeps
        (subst (λ (n : ℕ). AnswersBefore store.geo script n at now.receipts.items) (sym round.goes.number_is) round.answers);
  }

  module _ (at : ℕ) (line : Line) (mid : Caller F) (there : slice_get script at ≡ Some line) (round : PerformsRound fused store script at old mid) where
    pub perform_other : line.caller ≢ mid.number → PerformsRound fused store script (at + 1) old mid
    perform_other other = record {
      goes = round.goes;
      keeps = round.keeps;
      answers = before_other store.geo script old.number at mid.receipts.items round.answers line there (λ mine. other (mine ∙ sym round.goes.number_is));
    }

    module _ (now : Caller F) (mine : line.caller ≡ mid.number) (goes : GoesOn fused store IsResting mid now) where
      pub perform_mine : AnswersAt store script at mid.receipts.items now (Ok tt) → PerformsRound fused store script (at + 1) old now
      perform_mine answered =
          let a = answered line there in
          record {
            goes = goes_then fused store IsResting IsResting old mid now round.goes goes;
            keeps = a.1.keeps;
            answers = before_mine store.geo script old.number at mid.receipts.items round.answers line there (mine ∙ round.goes.number_is) a.0 now.receipts.items a.2 a.1.receipts_are;
          }

      pub perform_halts : (why : Halt) → AnswersAt store script at mid.receipts.items now (Err why) → Performs fused store script old (record now { halt = Some (at + 1, why) })
      perform_halts why answered = record {
        stands = goes.stands;
        number_is = goes.number_is ∙ round.goes.number_is;
        answers = halted_answers store script at line mid.receipts.items now why there (mine ∙ sym goes.number_is)
            (subst (λ (n : ℕ). AnswersBefore store.geo script n at mid.receipts.items) (sym (goes.number_is ∙ round.goes.number_is)) round.answers) (answered line there);
      }
