-- An answer keeps the rule.
use Rattle.std.proofs.Common.{◌≡◌, ◌≢◌, ℕ, ◌+◌, ◌*◌, ◌/◌, ◌≤◌, false, List, [], ◌∷◌, ◌++◌, All, length, set, get_or, sum_by, refl, sym, ap, ◌∙◌, subst, arith, length-append, None}
use Rattle.std.proofs.lemmas.List.{set-get_or, take_all}
use Rattle.std.proofs.lemmas.List.Elements.{All-push, All-set, All-weaker}
use mathlib.Core.Option.{none, some}
use lib.ListN.{get_elem?}
use Rattle.atomic_table.specs.Table.{Allows, keeps, step}
use Rattle.cm_plain.specs.declared.op.Op.{Op}
use Rattle.cm_plain.specs.declared.reply.Reply.{Reply}
use Rattle.cm_plain.specs.Changes.{Change}
use Rattle.cm_plain.specs.Steps.{Step}
use Rattle.cm_words.proofs.ListSums.{all_at, sum_same}
use Rattle.cm_lock.specs.declared.view.Key.{Key}
use Rattle.cm_lock.specs.declared.view.Level.TheVariants.{Free}
use Rattle.cm_lock.specs.declared.view.NumberedAnswer.{NumberedAnswer}
use Rattle.cm_lock.specs.declared.view.NumberedChange.{NumberedChange}
use Rattle.cm_lock.specs.declared.view.View.{View}
use Rattle.cm_lock.specs.Answers.{IsReplyHere}
use Rattle.cm_lock.specs.ChangeLists.{ChangeList, IsChangeList, IsListedAnswer, IsListedChange, KnowsList, change_count, last_state, number_of, state_after}
use Rattle.cm_lock.specs.Levels.{plans_in}
use Rattle.cm_lock.specs.Rounds.{KnowsItsRound}
use Rattle.cm_lock.specs.Rule.{CountsEvents, IsSharedSegment, KnowsItsWords, known_of}
use Rattle.cm_lock.specs.Steps.{Answers, SeatState}
use Rattle.cm_lock.specs.Views.{after_answer}
use Rattle.cm_lock.proofs.BesideWriter.{held_no_plan}
use Rattle.cm_lock.proofs.Frames.{changes_frame, levels_frame, round_same}
use Rattle.cm_lock.proofs.HeldEvents.{Holds, fits_of}
use Rattle.cm_lock.proofs.Numbering.{seats_frame}

-- half of the change number, where no change is under way
pub half_number : (word number p : ℕ) → word ≡ 2 * number + p → p ≡ 0 → word / 2 ≡ number
half_number word number p e none_here = omega arith

-- a step from the last state is an answer at the end of the list
pub last_answer : (key : Key) (list : ChangeList) (op : Op) (reply : Reply) (number : ℕ) → number ≡ number_of list → Step key.geo key.segment (last_state key.geo list) number false op (last_state key.geo list) reply
    → IsListedAnswer key list (record { number = number; op = op; reply = reply })
last_answer key list op reply number is right = record {
  place = length list.changes;
  number_is = is;
  within = omega arith;
  step = subst (λ (cs : List Change). Step key.geo key.segment (state_after key.geo list.first cs) number false op (state_after key.geo list.first cs) reply) (sym (take_all (length list.changes) list.changes (omega arith))) right;
}

module _ (key : Key) (list : ChangeList) (views : List View) (id : ℕ) (v w : View) (at : get_elem? views id ≡ some v) where
  -- an answer at the end of the list is entered
  pub list_answer : (op : Op) (reply : Reply) (number : ℕ) → number ≡ number_of list → IsListedAnswer key list (record { number = number; op = op; reply = reply })
      → w.changes ≡ v.changes → w.answers ≡ v.answers ++ record { number = number; op = op; reply = reply } ∷ [] → w.seen ≡ number → IsChangeList key list views → IsChangeList key list (set views id w)
  list_answer op reply number is right c a s k =
      let mine = all_at (KnowsList key list) views id v at k.each in
      let seen = mine.seen in
      let entry : NumberedAnswer = record { number = number; op = op; reply = reply } in record {
        planned = k.planned;
        each = All-set (KnowsList key list) views id w record {
          changes = subst (All (IsListedChange list)) (sym c) mine.changes;
          answers = subst (All (IsListedAnswer key list)) (sym a) (All-push (IsListedAnswer key list) v.answers entry mine.answers right);
          seen = omega arith;
          changes_seen = subst (All (λ (e : NumberedChange). e.number ≤ w.seen)) (sym c) (All-weaker (λ (e : NumberedChange). e.number ≤ v.seen) (λ (e : NumberedChange). e.number ≤ w.seen) (λ e l. omega arith) v.changes mine.changes_seen);
          answers_seen = subst (All (λ (e : NumberedAnswer). e.number ≤ w.seen)) (sym a)
              (All-push (λ (e : NumberedAnswer). e.number ≤ w.seen) v.answers entry (All-weaker (λ (e : NumberedAnswer). e.number ≤ v.seen) (λ (e : NumberedAnswer). e.number ≤ w.seen) (λ e l. omega arith) v.answers mine.answers_seen) (omega arith));
        } k.each;
        once = λ place h. sum_same (change_count (list.start + place + 1)) views id v w at (count_same place) ∙ k.once place h;
      }
    where
      count_same : (place : ℕ) → change_count (list.start + place + 1) w ≡ change_count (list.start + place + 1) v
      count_same place = ap (λ (cs : List NumberedChange). change_count (list.start + place + 1) (record v { changes = cs })) c

  -- one answer more is counted
  pub counts_answer : (a : NumberedAnswer) → w.answers ≡ v.answers ++ a ∷ [] → w.events ≡ v.events + 1 → w.stores ≡ v.stores → w.changes ≡ v.changes → plans_in w ≡ plans_in v → CountsEvents v → CountsEvents w
  counts_answer a is e s c p k =
      let longer : length w.answers ≡ length v.answers + 1 = ap length is ∙ length-append v.answers (a ∷ []) in
      let lc : length w.changes ≡ length v.changes = ap length c in let ke = k.events in let ks = k.stores in record {
        events = omega arith;
        stores = omega arith;
        only_for_changes = λ h. s ∙ k.only_for_changes (omega arith);
      }

-- an answer of a seat that holds a level
pub answers : (key : Key) (slots id : ℕ) (me : SeatState) → me.0.own.number ≢ 65 → (op : Op) (reply : Reply) → me.0.own.level ≢ Free → me.0.own.plan ≡ None → IsReplyHere (known_of key me.0.own) op reply
    → Allows (Holds key) slots id me 1 (λ n. n) (Answers op reply (step slots 1 0 0 none) me)
answers key slots id me live op reply held idle right s r _ at _ =
    let v = me.0 in
    let n : ℕ = get_or s.words 1 0 in
    let w = after_answer v op reply (n / 2) in
    let state = last_state key.geo r.list in
    let k = all_at (KnowsItsWords key s.words state) s.views id v at r.knows in
    let none_here = held_no_plan key s.words state s.views r.levels r.knows id v at v.own.level refl held idle in
    let half : n / 2 ≡ number_of r.list = half_number n (number_of r.list) (sum_by plans_in s.views) r.changes.change_number none_here in
    let seen = (all_at (KnowsList key r.list) s.views id v at r.noted.each).seen in
    let round = all_at (KnowsItsRound s.words (number_of r.list)) s.views id v at r.rounds in
    let counts = all_at CountsEvents s.views id v at r.counts in
    let step_here = right s.words state (fits_of key s.words state v.own r.are k.own) (r.rests none_here) in (
      w,
      keeps,
      tt,
      subst (λ (ws : List ℕ). IsSharedSegment key ws (set s.views id w)) (sym (set-get_or s.words 1 0)) record {
        list = r.list;
        first_rests = r.first_rests;
        starts = r.starts;
        are = r.are;
        levels = levels_frame s.views id v w at s.words s.words refl refl refl refl r.levels;
        knows = All-set (KnowsItsWords key s.words state) s.views id w (record { own = k.own; inherited = k.inherited }) r.knows;
        rests = λ h. r.rests none_here;
        changes = changes_frame s.views id v w at s.words s.words (number_of r.list) refl refl r.changes;
        noted = list_answer key r.list s.views id v w at op reply (n / 2) half (last_answer key r.list op reply (n / 2) half step_here) refl refl refl r.noted;
        counts = All-set CountsEvents s.views id w (counts_answer key r.list s.views id v w at _ refl refl refl refl refl counts) r.counts;
        seats = seats_frame s.views r.seats id v at w live refl refl refl refl;
        rounds = All-set (KnowsItsRound s.words (number_of r.list)) s.views id w (round_same v w refl (λ o e. (round o e).free) s.words s.words (number_of r.list) (λ a pos. refl) round) r.rounds;
      },
      (refl, refl, omega arith),
    )
