-- How far a caller came: the records that it answered, and those that are left.
use Rattle.std.proofs.Common.{◌≡◌, ◌≢◌, ◌∙◌, ℕ, ◌+◌, ◌≤◌, ◌==◌, Bool, false, true≢false, List, [], ◌∷◌, ◌++◌, cond, drop, filter, is_some, length, slice_get, Option, Some, None, append-nil, append_assoc, inl, refl, sym, ap, subst}
use Rattle.std.specs.List.{enumerate_from}
use Rattle.std.proofs.lemmas.Bool.{eq-eqb, ne_eqb}
use Rattle.std.proofs.lemmas.List.{drop_all, drop_more}
use Rattle.std.proofs.lemmas.Option.{get_or_from_slice_get, slice_get_within}
use Rattle.cm_geo.specs.declared.geo.Geo.{Geo}
use Rattle.cm_plain.specs.declared.receipt.Receipt.{Receipt}
use Rattle.cm_store.specs.declared.store.Store.{Store}
use Rattle.cm_script.specs.declared.line.Line.{Line}
use Rattle.cm_script.specs.declared.report.CallerEnd.{CallerEnd}
use Rattle.cm_script.specs.declared.report.How.TheVariants as how
use Rattle.cm_script.specs.Answers.{Answers, AnswersAll, AnswersPart, Numbered}
use Rattle.cm_script.specs.Scripts.{IsFor, IsLineFor}
use Rattle.cm_caller.specs.declared.caller.Caller.{Caller}
use Rattle.cm_caller.specs.declared.caller.Halt.{Halt}
use Rattle.cm_caller.specs.declared.caller.Halt.TheVariants as halt
use Rattle.cm_caller.specs.Callers.{KeepsReceipts, end_of, is_starved}
use Rattle.cm_caller.specs.Records.{AnswersBefore, Halts, HasAnswered, HasFront, IsRecordOf, records_from}

-- ---- the records from an index on

-- a record is a caller's
abbrev pub is_mine : ℕ → Numbered → Bool
is_mine caller asked = asked.1.caller == caller

drop_there : (script : List Line) (at : ℕ) (line : Line) → slice_get script at ≡ Some line → drop at script ≡ line ∷ drop (at + 1) script
drop_there script at line there =
    drop_more script at line (slice_get_within script at line there) ∙ ap (λ (l : Line). l ∷ drop (at + 1) script) (get_or_from_slice_get script at line line there)

records_step : (script : List Line) (caller at : ℕ) (line : Line) → slice_get script at ≡ Some line
    → records_from script caller at ≡ cond (is_mine caller (at + 1, line)) ((at + 1, line) ∷ records_from script caller (at + 1)) (records_from script caller (at + 1))
records_step script caller at line there = ap (λ (ls : List Line). filter (is_mine caller) (enumerate_from (at + 1) ls)) (drop_there script at line there)

records_mine : (script : List Line) (caller at : ℕ) (line : Line) → slice_get script at ≡ Some line → line.caller ≡ caller
    → records_from script caller at ≡ (at + 1, line) ∷ records_from script caller (at + 1)
records_mine script caller at line there mine =
    records_step script caller at line there
    ∙ ap (λ (b : Bool). cond b ((at + 1, line) ∷ records_from script caller (at + 1)) (records_from script caller (at + 1))) (eq-eqb line.caller caller mine)

records_other : (script : List Line) (caller at : ℕ) (line : Line) → slice_get script at ≡ Some line → line.caller ≢ caller
    → records_from script caller at ≡ records_from script caller (at + 1)
records_other script caller at line there other =
    records_step script caller at line there
    ∙ ap (λ (b : Bool). cond b ((at + 1, line) ∷ records_from script caller (at + 1)) (records_from script caller (at + 1))) (ne_eqb line.caller caller other)

records_done : (script : List Line) (caller at : ℕ) → length script ≤ at → records_from script caller at ≡ []
records_done script caller at behind = ap (λ (ls : List Line). filter (is_mine caller) (enumerate_from (at + 1) ls)) (drop_all at script behind)

-- ---- the answers so far

-- the answers to one record more
answers_push : (geo : Geo) (done : List Numbered) (asked : Numbered) (receipts more : List Receipt) → AnswersAll geo done receipts → Answers geo asked more
    → AnswersAll geo (done ++ asked ∷ []) (receipts ++ more)
answers_push geo [] asked receipts more none answered = (more, [], ap (λ (rs : List Receipt). rs ++ more) none ∙ sym (append-nil more), answered, refl)
answers_push geo (first ∷ done) asked receipts more all answered =
    (all.0, all.1 ++ more, ap (λ (rs : List Receipt). rs ++ more) all.2 ∙ append_assoc all.0 all.1 more, all.3, answers_push geo done asked all.1 more all.4 answered)

pub before_none : (geo : Geo) (script : List Line) (caller : ℕ) (receipts : List Receipt) → receipts ≡ [] → AnswersBefore geo script caller 0 receipts
before_none geo script caller receipts none = record { done = []; records_are = refl; answered = none }

module _ (geo : Geo) (script : List Line) (caller at : ℕ) (receipts : List Receipt) (b : AnswersBefore geo script caller at receipts) where
  -- all records are done
  pub front_whole : length script ≤ at → HasFront geo script caller receipts None
  front_whole behind = record {
    front = record { done = b.done; rest = []; whole = receipts; part = [] };
    own_is = sym (append-nil receipts);
    answered = record { records_are = b.records_are ∙ ap (λ (l : List Numbered). b.done ++ l) (records_done script caller at behind); answered = b.answered; opened = refl };
    ended = refl;
  }

  module _ (line : Line) (there : slice_get script at ≡ Some line) where
    -- behind another caller's record
    pub before_other : line.caller ≢ caller → AnswersBefore geo script caller (at + 1) receipts
    before_other other = record {
      done = b.done;
      records_are = b.records_are ∙ ap (λ (l : List Numbered). b.done ++ l) (records_other script caller at line there other);
      answered = b.answered;
    }

    -- behind its own
    pub before_mine : line.caller ≡ caller → (more all : List Receipt) → Answers geo (at + 1, line) more → all ≡ receipts ++ more → AnswersBefore geo script caller (at + 1) all
    before_mine mine more all answered is = record {
      done = b.done ++ (at + 1, line) ∷ [];
      records_are =
          b.records_are ∙ (ap (λ (l : List Numbered). b.done ++ l) (records_mine script caller at line there mine)
          ∙ sym (append_assoc b.done ((at + 1, line) ∷ []) (records_from script caller (at + 1))));
      answered = subst (AnswersAll geo (b.done ++ (at + 1, line) ∷ [])) (sym is) (answers_push geo b.done (at + 1, line) receipts more b.answered answered);
    }

    -- at its own, of which a part is answered
    pub front_part : line.caller ≡ caller → (more all : List Receipt) → AnswersPart geo ((at + 1, line) ∷ []) more → all ≡ receipts ++ more
        → HasFront geo script caller all (Some (record { caller = caller; line = at + 1; how = how.Stopped }))
    front_part mine more all part is = record {
      front = record { done = b.done; rest = (at + 1, line) ∷ records_from script caller (at + 1); whole = receipts; part = more };
      own_is = is;
      answered = record {
        records_are = b.records_are ∙ ap (λ (l : List Numbered). b.done ++ l) (records_mine script caller at line there mine);
        answered = b.answered;
        opened = part;
      };
      ended = (refl, inl (record { asked = (at + 1, line); later = records_from script caller (at + 1); rest_is = refl; line_is = refl }));
    }

-- a caller that halted at a record
pub halted_answers : {F : Type 0} (store : Store) (script : List Line) (at : ℕ) (line : Line) (before : List Receipt) (now : Caller F) (why : Halt) → slice_get script at ≡ Some line → line.caller ≡ now.number
    → AnswersBefore store.geo script now.number at before → Halts store script (AnswersPart store.geo ((at + 1, line) ∷ [])) before now why → is_starved (Some (at + 1, why)) ≡ false
    → HasAnswered store script (record now { halt = Some (at + 1, why) })
halted_answers store script at line before now halt.Stopped there mine b h lives = record {
  keeps = h.1.1.keeps;
  front = front_part store.geo script now.number at before b line there mine h.1.0 now.receipts.items h.1.2 h.1.1.receipts_are;
  stopped = λ some. h.0;
}
halted_answers store script at line before now halt.Dead there mine b h lives = absurd h
halted_answers store script at line before now halt.NoMemory there mine b h lives = absurd (true≢false lives)

-- and one that didn't
pub done_answers : {F : Type 0} (store : Store) (script : List Line) (at : ℕ) (now : Caller F) → now.halt ≡ None → length script ≤ at → KeepsReceipts store script now.receipts.items now.pass
    → AnswersBefore store.geo script now.number at now.receipts.items → HasAnswered store script now
done_answers store script at now going behind keeps b = record {
  keeps = keeps;
  front = subst (λ (e : Option CallerEnd). HasFront store.geo script now.number now.receipts.items e) (sym (ap (end_of now.number) going)) (front_whole store.geo script now.number at now.receipts.items b behind);
  stopped = λ some. absurd (true≢false (sym some ∙ ap (λ (h : Option (ℕ × Halt)). is_some (end_of now.number h)) going));
}

-- the record of an index keeps the limits
pub record_of : (geo : Geo) (script : List Line) (caller at : ℕ) (line : Line) → IsFor geo script → slice_get script at ≡ Some line → line.caller ≡ caller → IsRecordOf geo caller line
record_of geo script caller at line for_geo there mine =
    record { caller_is = mine; limits = (subst (IsLineFor geo) (get_or_from_slice_get script at line line there) (for_geo at line (slice_get_within script at line there))).limits }
