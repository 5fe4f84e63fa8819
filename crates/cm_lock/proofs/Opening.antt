-- The rule holds at the start, and a seat that has done nothing keeps it.
use Rattle.std.proofs.Common.{◌≡◌, ℕ, ◌+◌, ◌*◌, ◌/◌, ◌%◌, ◌^◌, ◌≤◌, List, [], ◌∷◌, get_or, sum_by, None, refl, sym, ◌∙◌, arith}
use Rattle.std.proofs.lemmas.List.Elements.{All-nil}
use Rattle.std.proofs.lemmas.List.Sums.{sum_by-cons}
use Rattle.cm_plain.specs.States.{State}
use Rattle.cm_plain.specs.Lawful.{IsSegmentWords, Resting}
use Rattle.cm_words.proofs.ListSums.{all_one, one_if_other}
use Rattle.cm_lock.specs.declared.view.Key.{Key}
use Rattle.cm_lock.specs.declared.view.NumberedAnswer.{NumberedAnswer}
use Rattle.cm_lock.specs.declared.view.NumberedChange.{NumberedChange}
use Rattle.cm_lock.specs.declared.view.View.{View}
use Rattle.cm_lock.specs.ChangeLists.{ChangeList, IsListedAnswer, IsListedChange, KnowsList, number_of}
use Rattle.cm_lock.specs.Levels.{plans_in, reads_in, updates_in, writes_in}
use Rattle.cm_lock.specs.Rounds.{KnowsItsRound}
use Rattle.cm_lock.specs.Rule.{CountsEvents, IsSharedSegment, KnowsItsWords, KnowsWords, root_view}
use Rattle.cm_lock.specs.Seats.{IsSeat, held_count, made_count}
use Rattle.cm_lock.specs.Views.{free_level, new_view}
use Rattle.cm_lock.proofs.BesideWriter.{no_plan, unnoted}
use Rattle.cm_lock.proofs.Numbering.{root_count}

-- a level that is Free without notes knows nothing
pub fresh_knows : (key : Key) (words : List ℕ) (state : State) (n : ℕ) → KnowsWords key words state (free_level n)
fresh_knows key words state n = record { noted = λ a note e. absurd (unnoted [] a note refl e); free = λ e. refl; writer = omega arith; planned = λ c e. absurd (no_plan c e) }

-- and so does a seat that has done nothing
pub new_knows : (key : Key) (words : List ℕ) (state : State) (n seen : ℕ) → KnowsItsWords key words state (new_view n seen)
new_knows key words state n seen = record { own = fresh_knows key words state n; inherited = All-nil (KnowsWords key words state) }

-- which has noted nothing of the list
pub new_list : (key : Key) (list : ChangeList) (n seen : ℕ) → seen ≤ number_of list → KnowsList key list (new_view n seen)
new_list key list n seen few = record {
  changes = All-nil (IsListedChange list);
  answers = All-nil (IsListedAnswer key list);
  seen = few;
  changes_seen = All-nil (λ (c : NumberedChange). c.number ≤ seen);
  answers_seen = All-nil (λ (a : NumberedAnswer). a.number ≤ seen);
}

-- has counted nothing
pub new_counts : (n seen : ℕ) → CountsEvents (new_view n seen)
new_counts n seen = record { events = omega arith; stores = omega arith; only_for_changes = λ _. refl }

-- and has no round
pub closed_round : (words : List ℕ) (number : ℕ) (v : View) → v.round ≡ None → KnowsItsRound words number v
closed_round words number v e round h = absurd (no_plan round (sym e ∙ h))

-- a sum over one
pub sum_one : {X : Type 0} (f : X → ℕ) (x : X) → sum_by f (x ∷ []) ≡ f x
sum_one f x = let c = sum_by-cons f x [] in omega arith

-- the rule holds at the start
pub opens : (key : Key) (state : State) → IsSegmentWords key.geo key.first → get_or key.first 0 0 ≡ 0 → get_or key.first 1 0 % 2 ≡ 0 → get_or key.first 1 0 ≤ 2 ^ 63 → Resting key.geo key.segment key.first state → IsSharedSegment key key.first (root_view key ∷ [])
opens key state are unlocked even few rests =
    let v = root_view key in
    let w0 : ℕ = get_or key.first 1 0 / 2 in
    let list : ChangeList = record { first = state; start = w0; changes = [] } in
    let a = sum_one reads_in v in let b = sum_one updates_in v in let c = sum_one writes_in v in let d = sum_one plans_in v in
    record {
      list = list;
      first_rests = rests;
      starts = twice (get_or key.first 1 0) even;
      are = are;
      levels = record { lock_word = omega arith; at_most_one = omega arith; no_reader = λ h. a };
      knows = all_one (KnowsItsWords key key.first state) v (new_knows key key.first state 64 w0);
      rests = λ h. rests;
      changes = record { change_number = half_twice (get_or key.first 1 0) (sum_by plans_in (v ∷ [])) even d; within_limit = half_few (get_or key.first 1 0) (sum_by plans_in (v ∷ [])) few d };
      noted = record {
        planned = tt;
        each = all_one (KnowsList key list) v (new_list key list 64 w0 (omega arith));
        once = λ place h. absurd (omega arith);
      };
      counts = all_one CountsEvents v (new_counts 64 w0);
      seats = record {
        one_root = sum_one root_count v;
        once = λ n. (let m = sum_one (made_count n) v in omega arith);
        living = λ n small. (let h = sum_one (held_count n) v in let m = sum_one (made_count n) v in let o = one_if_other 64 n (λ e. absurd (omega arith)) in omega arith);
        each = all_one IsSeat v record { within = omega arith; only_root = λ ne. absurd (ne refl); nothing = λ z. absurd (omega arith) };
      };
      rounds = all_one (KnowsItsRound key.first (number_of list)) v (closed_round key.first (number_of list) v refl);
    }
  where
    twice : (n : ℕ) → n % 2 ≡ 0 → n ≡ 2 * (n / 2)
    twice n e = omega arith

    half_twice : (n p : ℕ) → n % 2 ≡ 0 → p ≡ 0 → n ≡ 2 * (n / 2 + 0) + p
    half_twice n p e none = omega arith

    half_few : (n p : ℕ) → n ≤ 2 ^ 63 → p ≡ 0 → n / 2 + 0 + p ≤ 2 ^ 62
    half_few n p h none = omega arith
