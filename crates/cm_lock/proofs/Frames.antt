-- What stays where one view changes, and its levels, its numbers or its part of the list of changes do not.
use Rattle.std.proofs.Common.{◌≡◌, ◌≢◌, ℕ, ◌+◌, ◌*◌, ◌<◌, ◌≤◌, ◌==◌, List, [], ◌∷◌, ◌++◌, All, length, set, get_or, slice_get, take, count_by, sum_by, Some, refl, sym, ap, ◌∙◌, subst, arith, length-append, false, inl, inr}
use Rattle.std.proofs.lemmas.List.{get_or_append_left, take-append-le}
use Rattle.std.proofs.lemmas.List.Elements.{All-set, All-weaker}
use Rattle.std.proofs.lemmas.Option.{get_or_from_slice_get, slice_get-get_or, slice_get_within}
use mathlib.Core.Option.{some}
use lib.ListN.{get_elem?}
use Rattle.cm_geo.specs.declared.geo.Geo.{Geo}
use Rattle.cm_plain.specs.States.{State}
use Rattle.cm_plain.specs.Changes.{Change, after}
use Rattle.cm_plain.specs.Steps.{Plans, Step}
use Rattle.cm_plain.specs.Lawful.{IsSegmentWords, Resting}
use Rattle.cm_words.proofs.ListSums.{all_at, sum_same}
use Rattle.cm_lock.specs.declared.view.Key.{Key}
use Rattle.cm_lock.specs.declared.view.NumberedAnswer.{NumberedAnswer}
use Rattle.cm_lock.specs.declared.view.NumberedChange.{NumberedChange}
use Rattle.cm_lock.specs.declared.view.Level.TheVariants.{Free}
use Rattle.cm_lock.specs.declared.view.Round.{Round}
use Rattle.cm_lock.specs.declared.view.View.{View}
use Rattle.cm_lock.specs.ChangeLists.{ArePlanned, ChangeList, CountsChanges, IsChangeList, IsListedAnswer, IsListedChange, KnowsList, change_count, last_state, number_of, state_after}
use Rattle.cm_lock.specs.Levels.{CountsLevels, plans_in, reads_in, updates_in, writes_in}
use Rattle.cm_lock.specs.Rounds.{KnowsItsRound}
use Rattle.cm_lock.specs.Rule.{CountsEvents, IsSharedSegment, KnowsItsWords}
use Rattle.cm_lock.specs.Views.{change_in}
use Rattle.cm_lock.proofs.Numbering.{seats_frame}

module _ (views : List View) (id : ℕ) (v w : View) (at : get_elem? views id ≡ some v) where
  -- the lock word still counts the levels
  pub levels_frame : (words words' : List ℕ) → get_or words' 0 0 ≡ get_or words 0 0 → reads_in w ≡ reads_in v → updates_in w ≡ updates_in v → writes_in w ≡ writes_in v → CountsLevels words views → CountsLevels words' (set views id w)
  levels_frame words words' lock a b c k =
      let a' = sum_same reads_in views id v w at a in let b' = sum_same updates_in views id v w at b in let c' = sum_same writes_in views id v w at c in
      let l = k.lock_word in let one = k.at_most_one in record {
        lock_word = omega arith;
        at_most_one = omega arith;
        no_reader = λ h. a' ∙ k.no_reader (omega arith);
      }

  -- the change number still counts the changes
  pub changes_frame : (words words' : List ℕ) (number : ℕ) → get_or words' 1 0 ≡ get_or words 1 0 → plans_in w ≡ plans_in v → CountsChanges words views number → CountsChanges words' (set views id w) number
  changes_frame words words' number same p k =
      let p' = sum_same plans_in views id v w at p in let n = k.change_number in let few = k.within_limit in record {
        change_number = omega arith;
        within_limit = omega arith;
      }

  -- the seat may have seen more of the list
  pub list_frame : (key : Key) (list : ChangeList) → w.changes ≡ v.changes → w.answers ≡ v.answers → v.seen ≤ w.seen → w.seen ≤ number_of list → IsChangeList key list views → IsChangeList key list (set views id w)
  list_frame key list c a more few k =
      let mine = all_at (KnowsList key list) views id v at k.each in record {
        planned = k.planned;
        each = All-set (KnowsList key list) views id w record {
          changes = subst (All (IsListedChange list)) (sym c) mine.changes;
          answers = subst (All (IsListedAnswer key list)) (sym a) mine.answers;
          seen = few;
          changes_seen = subst (All (λ (e : NumberedChange). e.number ≤ w.seen)) (sym c)
              (All-weaker (λ (e : NumberedChange). e.number ≤ v.seen) (λ (e : NumberedChange). e.number ≤ w.seen) (λ e h. omega arith) v.changes mine.changes_seen);
          answers_seen = subst (All (λ (e : NumberedAnswer). e.number ≤ w.seen)) (sym a)
              (All-weaker (λ (e : NumberedAnswer). e.number ≤ v.seen) (λ (e : NumberedAnswer). e.number ≤ w.seen) (λ e h. omega arith) v.answers mine.answers_seen);
        } k.each;
        once = λ place h. sum_same (change_count (list.start + place + 1)) views id v w at (ap (λ (es : List NumberedChange). count_by (λ (e : NumberedChange). e.number == list.start + place + 1) es) c) ∙ k.once place h;
      }

-- what holds of the round of one view holds of that of another, which is the same
module _ (v w : View) (same : w.round ≡ v.round) (free : (round : Round) → v.round ≡ Some round → w.own.level ≡ Free) where
  -- where the change number is greater than any that a round began with
  pub round_past : (words words' : List ℕ) (n n' : ℕ) → n ≤ n' → 2 * n < get_or words' 1 0 → KnowsItsRound words n v → KnowsItsRound words' n' w
  round_past words words' n n' more past k round e =
      let r = k round (sym same ∙ e) in let b = r.began in let is = b.1 in let few = b.2 in record {
        free = free round (sym same ∙ e);
        began = (b.0, b.1, omega arith);
        inner = r.inner;
        stands = inl (omega arith);
      }

  -- where all words but the lock word are the same
  pub round_same : (words words' : List ℕ) (n : ℕ) → ((at : ℕ) → 0 < at → get_or words' at 0 ≡ get_or words at 0) → KnowsItsRound words n v → KnowsItsRound words' n w
  round_same words words' n same_words k round e =
      let r = k round (sym same ∙ e) in record {
        free = free round (sym same ∙ e);
        began = r.began;
        inner = r.inner;
        stands = elim r.stands [
          | inl past ↦ inl (let one = same_words 1 (omega arith) in omega arith)
          | inr there ↦ inr (λ i d less. (let low = r.inner i d less in same_words (get_or round.found i d).at (omega arith) ∙ there i d less))
        ];
      }

-- ---- a list with one change more

abbrev pub longer : ChangeList → Change → ChangeList
longer list c = record { first = list.first; start = list.start; changes = list.changes ++ c ∷ [] }

-- the state after it
pub state_after_push : (geo : Geo) (state : State) (cs : List Change) (c : Change) → state_after geo state (cs ++ c ∷ []) ≡ after geo c (state_after geo state cs)
state_after_push geo state [] c = refl
state_after_push geo state (d ∷ ds) c = state_after_push geo (after geo d state) ds c

-- it is planned too
pub planned_push : (geo : Geo) (segment : ℕ) (state : State) (cs : List Change) (c : Change) → ArePlanned geo segment state cs → Plans geo segment (state_after geo state cs) c.op c → ArePlanned geo segment state (cs ++ c ∷ [])
planned_push geo segment state [] c led p = (p, tt)
planned_push geo segment state (d ∷ ds) c led p = (led.0, planned_push geo segment (after geo d state) ds c led.1 p)

-- what stands in a list stands there where it goes on
get_longer : {A : Type 0} (l m : List A) (i : ℕ) (a : A) → slice_get l i ≡ Some a → slice_get (l ++ m) i ≡ Some a
get_longer l m i a e =
    let inside = slice_get_within l i a e in let more = length-append l m in
    slice_get-get_or (l ++ m) i a (omega arith) ∙ ap Some (get_or_append_left l m a i inside ∙ get_or_from_slice_get l i a a e)

-- the last element stands at its place
pub get_last : {A : Type 0} (l : List A) (a : A) → slice_get (l ++ a ∷ []) (length l) ≡ Some a
get_last [] a = refl
get_last (x ∷ xs) a = get_last xs a

-- a listed change stays listed
pub listed_longer : (list : ChangeList) (c : Change) (e : NumberedChange) → IsListedChange list e → IsListedChange (longer list c) e
listed_longer list c e k = record { place = k.place; number_is = k.number_is; there = get_longer list.changes (c ∷ []) k.place (change_in e.change) k.there }

-- and so does an answer
pub answer_longer : (key : Key) (list : ChangeList) (c : Change) (a : NumberedAnswer) → IsListedAnswer key list a → IsListedAnswer key (longer list c) a
answer_longer key list c a k =
    let more : length (list.changes ++ c ∷ []) ≡ length list.changes + 1 = length-append list.changes (c ∷ []) in
    let within = k.within in
    let front : take k.place (list.changes ++ c ∷ []) ≡ take k.place list.changes = take-append-le k.place list.changes (c ∷ []) within in record {
      place = k.place;
      number_is = k.number_is;
      within = omega arith;
      step = subst (λ (cs : List Change). Step key.geo key.segment (state_after key.geo list.first cs) a.number false a.op (state_after key.geo list.first cs) a.reply) (sym front) k.step;
    }

-- ---- an event of one seat, which keeps its numbers and enters nothing

module _ (key : Key) (words words' : List ℕ) (views : List View) (id : ℕ) (v w : View) (at : get_elem? views id ≡ some v) (r : IsSharedSegment key words views) where
  pub event : v.own.number ≢ 65 → w.own.number ≡ v.own.number → w.made ≡ v.made → w.due ≡ v.due → w.inherited ≡ v.inherited
      → w.changes ≡ v.changes → w.answers ≡ v.answers → v.seen ≤ w.seen → w.seen ≤ number_of r.list
      → IsSegmentWords key.geo words' → CountsLevels words' (set views id w) → All (KnowsItsWords key words' (last_state key.geo r.list)) (set views id w)
      → (sum_by plans_in (set views id w) ≡ 0 → Resting key.geo key.segment words' (last_state key.geo r.list)) → CountsChanges words' (set views id w) (number_of r.list)
      → CountsEvents w → All (KnowsItsRound words' (number_of r.list)) (set views id w) → IsSharedSegment key words' (set views id w)
  event live n m d i c a more few are levels knows rests changes counts rounds = record {
    list = r.list;
    first_rests = r.first_rests;
    starts = r.starts;
    are = are;
    levels = levels;
    knows = knows;
    rests = rests;
    changes = changes;
    noted = list_frame views id v w at key r.list c a more few r.noted;
    counts = All-set CountsEvents views id w counts r.counts;
    seats = seats_frame views r.seats id v at w live n m d i;
    rounds = rounds;
  }
