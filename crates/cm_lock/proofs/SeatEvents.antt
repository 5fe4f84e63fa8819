-- Splits, joins and the end of a table keep the rule.
use Rattle.std.proofs.Common.{◌≡◌, ◌≢◌, ℕ, zero, suc, ◌+◌, ◌<◌, ◌≤◌, ◌==◌, if◌then◌else◌, List, [], ◌∷◌, ◌++◌, length, set, sum_by, take, max, refl, sym, ap, ◌∙◌, subst, ⊎_elim, arith, length-append}
use Rattle.std.proofs.lemmas.List.{set-get_or}
use Rattle.std.proofs.lemmas.List.Elements.{All-append, All-cons, All-push, All-set, All-weaker}
use Rattle.std.proofs.lemmas.List.Sums.{sum_by-append, sum_by-cons, sum_by_push}
use mathlib.Core.Option.{none, some, some-injective, some-ne-none}
use lib.ListN.{get_elem?}
use Rattle.atomic_table.specs.Table.{Allows, Final, Joins, Seen, Splits, keeps, step}
use Rattle.atomic_table.proofs.Lists.{at_set}
use Rattle.cm_words.proofs.ListSums.{all_at, all_one, one_if_other, sum_alone, sum_same, sum_set}
use Rattle.cm_lock.specs.declared.view.HeldLevel.{HeldLevel}
use Rattle.cm_lock.specs.declared.view.Key.{Key}
use Rattle.cm_lock.specs.declared.view.NumberedAnswer.{NumberedAnswer}
use Rattle.cm_lock.specs.declared.view.NumberedChange.{NumberedChange}
use Rattle.cm_lock.specs.declared.view.View.{View}
use Rattle.cm_lock.specs.ChangeLists.{IsListedAnswer, IsListedChange, KnowsList, change_count, last_state, number_of}
use Rattle.cm_lock.specs.Levels.{plans, plans_in, reads, reads_in, updates, updates_in, writes, writes_in}
use Rattle.cm_lock.specs.Rounds.{KnowsItsRound}
use Rattle.cm_lock.specs.Rule.{CountsEvents, IsSharedSegment, KnowsItsWords, KnowsWords}
use Rattle.cm_lock.specs.Seats.{AllJoined, IsSeat, count_of, held_count, made_count}
use Rattle.cm_lock.specs.Steps.{NotesNumber, SeatState, TellsCounts}
use Rattle.cm_lock.specs.Tables.{Closes}
use Rattle.cm_lock.specs.Views.{child, head_or_root, spent_view, with_due, with_joined, without_due}
use Rattle.cm_lock.proofs.Frames.{changes_frame, levels_frame, list_frame, round_same}
use Rattle.cm_lock.proofs.HeldEvents.{Holds}
use Rattle.cm_lock.proofs.LevelEvents.{quiet}
use Rattle.cm_lock.proofs.Numbering.{alone, others, root_count, seats_due, seats_join, seats_split}
use Rattle.cm_lock.proofs.Opening.{closed_round, new_counts, new_knows, new_list, sum_one}

-- a load notes the number of the next seat
pub numbers : (key : Key) (slots id : ℕ) (me : SeatState) (n : ℕ) → me.0.own.number ≡ 64 → me.0.due ≡ [] → count_of n me.0.made ≡ 0 → Allows (Holds key) slots id me 0 (λ n. n) (NotesNumber n (step slots 0 0 0 none) me)
numbers key slots id me n is none_due never s r _ at _ =
    let v = me.0 in let w = with_due v n in let state = last_state key.geo r.list in
    let seen = (all_at (KnowsList key r.list) s.views id v at r.noted.each).seen in
    let k = all_at (KnowsItsWords key s.words state) s.views id v at r.knows in
    let round = all_at (KnowsItsRound s.words (number_of r.list)) s.views id v at r.rounds in
    let counts = all_at CountsEvents s.views id v at r.counts in (
      w,
      keeps,
      tt,
      subst (λ (ws : List ℕ). IsSharedSegment key ws (set s.views id w)) (sym (set-get_or s.words 0 0)) record {
        list = r.list;
        first_rests = r.first_rests;
        starts = r.starts;
        are = r.are;
        levels = levels_frame s.views id v w at s.words s.words refl refl refl refl r.levels;
        knows = All-set (KnowsItsWords key s.words state) s.views id w (record { own = k.own; inherited = k.inherited }) r.knows;
        rests = λ h. r.rests (sym (sum_same plans_in s.views id v w at refl) ∙ h);
        changes = changes_frame s.views id v w at s.words s.words (number_of r.list) refl refl r.changes;
        noted = list_frame s.views id v w at key r.list refl refl (omega arith) seen r.noted;
        counts = All-set CountsEvents s.views id w (record { events = counts.events; stores = counts.stores; only_for_changes = counts.only_for_changes }) r.counts;
        seats = seats_due s.views r.seats id v at n is none_due never;
        rounds = All-set (KnowsItsRound s.words (number_of r.list)) s.views id w (round_same v w refl (λ o e. (round o e).free) s.words s.words (number_of r.list) (λ a pos. refl) round) r.rounds;
      },
      (refl, refl),
    )

-- a load tells what a seat counts
pub tells_counts : (key : Key) (slots id : ℕ) (me : SeatState) → me.0.own.number ≢ 65 → Allows (Holds key) slots id me 0 (λ n. n) (TellsCounts (step slots 0 0 0 none) me)
tells_counts key slots id me live s r _ at _ =
    let v = me.0 in
    let seen = (all_at (KnowsList key r.list) s.views id v at r.noted.each).seen in
    let round = all_at (KnowsItsRound s.words (number_of r.list)) s.views id v at r.rounds in
    let counts = all_at CountsEvents s.views id v at r.counts in (
      v,
      keeps,
      tt,
      subst (λ (ws : List ℕ). IsSharedSegment key ws (set s.views id v)) (sym (set-get_or s.words 0 0)) (quiet key s r id v at v live refl refl refl refl refl refl (omega arith) seen counts round),
      (refl, refl, counts),
    )

-- a split
pub splits : (key : Key) (id : ℕ) (v : View) (n : ℕ) → v.own.number ≡ 64 → v.due ≡ n ∷ [] → n < 64 → Splits (Holds key) id v (without_due v) (child v)
splits key id v n is due small s r at =
    let w = without_due v in let u = child v in let mid = set s.views id w in let state = last_state key.geo r.list in
    let both : (f : View → ℕ) → f w ≡ f v → f u ≡ 0 → sum_by f (mid ++ u ∷ []) ≡ sum_by f s.views = λ f e z. let t = sum_set f s.views id v w at in let q = sum_by_push f mid u in omega arith in
    let a = both reads_in refl refl in let b = both updates_in refl refl in let c = both writes_in refl refl in let d = both plans_in refl refl in
    let lock = r.levels.lock_word in let one = r.levels.at_most_one in let number = r.changes.change_number in let few = r.changes.within_limit in
    let mine = all_at (KnowsList key r.list) s.views id v at r.noted.each in
    let k = all_at (KnowsItsWords key s.words state) s.views id v at r.knows in
    let round = all_at (KnowsItsRound s.words (number_of r.list)) s.views id v at r.rounds in
    let counts = all_at CountsEvents s.views id v at r.counts in
    record {
      list = r.list;
      first_rests = r.first_rests;
      starts = r.starts;
      are = r.are;
      levels = record { lock_word = omega arith; at_most_one = omega arith; no_reader = λ h. a ∙ r.levels.no_reader (omega arith) };
      knows = All-push (KnowsItsWords key s.words state) mid u (All-set (KnowsItsWords key s.words state) s.views id w (record { own = k.own; inherited = k.inherited }) r.knows) (new_knows key s.words state (head_or_root v.due) v.seen);
      rests = λ h. r.rests (sym d ∙ h);
      changes = record { change_number = omega arith; within_limit = omega arith };
      noted = record {
        planned = r.noted.planned;
        each = All-push (KnowsList key r.list) mid u (All-set (KnowsList key r.list) s.views id w (record { changes = mine.changes; answers = mine.answers; seen = mine.seen; changes_seen = mine.changes_seen; answers_seen = mine.answers_seen }) r.noted.each)
            (new_list key r.list (head_or_root v.due) v.seen mine.seen);
        once = λ place h. both (change_count (r.list.start + place + 1)) refl refl ∙ r.noted.once place h;
      };
      counts = All-push CountsEvents mid u (All-set CountsEvents s.views id w (record { events = counts.events; stores = counts.stores; only_for_changes = counts.only_for_changes }) r.counts) (new_counts (head_or_root v.due) v.seen);
      seats = seats_split s.views r.seats id v at n is due small;
      rounds = All-push (KnowsItsRound s.words (number_of r.list)) mid u
          (All-set (KnowsItsRound s.words (number_of r.list)) s.views id w (round_same v w refl (λ o e. (round o e).free) s.words s.words (number_of r.list) (λ x pos. refl) round) r.rounds)
          (closed_round s.words (number_of r.list) u refl);
    }

-- a join
pub joins : (key : Key) (id : ℕ) (v : View) (other : ℕ) (o : View) → v.own.number ≡ 64 → o.own.number ≤ 64 → Joins (Holds key) id v other o (with_joined v o) spent_view
joins key id v other o is live s r at apart there =
    let w = with_joined v o in let z = spent_view in
    let mid : List View = set s.views id w in let state = last_state key.geo r.list in
    let at_other : get_elem? s.views other ≡ some o = ⊎_elim (λ (t : (other ≡ id) × (w ≡ o)). absurd (apart t.0)) (λ (t : (other ≢ id) × (get_elem? s.views other ≡ some o)). t.1) (at_set s.views id other w o there) in
    let not_root = others s.views r.seats id v at is other o apart at_other in
    let both : (f : View → ℕ) → f w ≡ f v + f o → f z ≡ 0 → sum_by f (set mid other z) ≡ sum_by f s.views = λ f e q. let a = sum_set f s.views id v w at in let b = sum_set f mid other o z there in omega arith in
    let plus : (f : HeldLevel → ℕ) → sum_by f w.inherited ≡ f o.own + (sum_by f o.inherited + sum_by f v.inherited) = λ f. let a = sum_by-cons f o.own (o.inherited ++ v.inherited) in let b = sum_by-append f o.inherited v.inherited in omega arith in
    let pa = plus (λ (h : HeldLevel). reads h.level) in let pb = plus (λ (h : HeldLevel). updates h.level) in let pc = plus (λ (h : HeldLevel). writes h.level) in let pd = plus (λ (h : HeldLevel). plans h.plan) in
    let a = both reads_in (omega arith) refl in
    let b = both updates_in (omega arith) refl in
    let c = both writes_in (omega arith) refl in
    let d = both plans_in (omega arith) refl in
    let lock = r.levels.lock_word in let one = r.levels.at_most_one in let number = r.changes.change_number in let few = r.changes.within_limit in
    let mine = all_at (KnowsList key r.list) s.views id v at r.noted.each in let theirs = all_at (KnowsList key r.list) s.views other o at_other r.noted.each in
    let k = all_at (KnowsItsWords key s.words state) s.views id v at r.knows in let q = all_at (KnowsItsWords key s.words state) s.views other o at_other r.knows in
    let cv = all_at CountsEvents s.views id v at r.counts in let co = all_at CountsEvents s.views other o at_other r.counts in
    let round = all_at (KnowsItsRound s.words (number_of r.list)) s.views id v at r.rounds in
    let lc : length (v.changes ++ o.changes) ≡ length v.changes + length o.changes = length-append v.changes o.changes in
    let la : length (v.answers ++ o.answers) ≡ length v.answers + length o.answers = length-append v.answers o.answers in
    let ve = cv.events in let vs = cv.stores in let oe = co.events in let os = co.stores in
    let S : HeldLevel → Type 0 = KnowsWords key s.words state in
    record {
      list = r.list;
      first_rests = r.first_rests;
      starts = r.starts;
      are = r.are;
      levels = record { lock_word = omega arith; at_most_one = omega arith; no_reader = λ h. a ∙ r.levels.no_reader (omega arith) };
      knows = All-set (KnowsItsWords key s.words state) mid other z (new_knows key s.words state 65 0)
          (All-set (KnowsItsWords key s.words state) s.views id w (record { own = k.own; inherited = All-cons S o.own (o.inherited ++ v.inherited) q.own (All-append S o.inherited v.inherited q.inherited k.inherited) }) r.knows);
      rests = λ h. r.rests (sym d ∙ h);
      changes = record { change_number = omega arith; within_limit = omega arith };
      noted = record {
        planned = r.noted.planned;
        each = All-set (KnowsList key r.list) mid other z (new_list key r.list 65 0 (omega arith)) (All-set (KnowsList key r.list) s.views id w record {
          changes = All-append (IsListedChange r.list) v.changes o.changes mine.changes theirs.changes;
          answers = All-append (IsListedAnswer key r.list) v.answers o.answers mine.answers theirs.answers;
          seen = max_few v.seen o.seen (number_of r.list) mine.seen theirs.seen;
          changes_seen = All-append (λ (e : NumberedChange). e.number ≤ w.seen) v.changes o.changes
              (All-weaker (λ (e : NumberedChange). e.number ≤ v.seen) (λ (e : NumberedChange). e.number ≤ w.seen) (λ e h. below_left e.number v.seen o.seen h) v.changes mine.changes_seen)
              (All-weaker (λ (e : NumberedChange). e.number ≤ o.seen) (λ (e : NumberedChange). e.number ≤ w.seen) (λ e h. below_right e.number v.seen o.seen h) o.changes theirs.changes_seen);
          answers_seen = All-append (λ (e : NumberedAnswer). e.number ≤ w.seen) v.answers o.answers
              (All-weaker (λ (e : NumberedAnswer). e.number ≤ v.seen) (λ (e : NumberedAnswer). e.number ≤ w.seen) (λ e h. below_left e.number v.seen o.seen h) v.answers mine.answers_seen)
              (All-weaker (λ (e : NumberedAnswer). e.number ≤ o.seen) (λ (e : NumberedAnswer). e.number ≤ w.seen) (λ e h. below_right e.number v.seen o.seen h) o.answers theirs.answers_seen);
        } r.noted.each);
        once = λ place h. both (change_count (r.list.start + place + 1)) (sum_by-append (λ (e : NumberedChange). if e.number == r.list.start + place + 1 then 1 else 0) v.changes o.changes) refl ∙ r.noted.once place h;
      };
      counts = All-set CountsEvents mid other z (new_counts 65 0) (All-set CountsEvents s.views id w record {
        events = omega arith;
        stores = omega arith;
        only_for_changes = λ h. (let e = cv.only_for_changes (omega arith) in let f = co.only_for_changes (omega arith) in omega arith);
      } r.counts);
      seats = seats_join s.views r.seats id v at other o is (omega arith) at_other there;
      rounds = All-set (KnowsItsRound s.words (number_of r.list)) mid other z (closed_round s.words (number_of r.list) z refl)
          (All-set (KnowsItsRound s.words (number_of r.list)) s.views id w (round_same v w refl (λ x e. (round x e).free) s.words s.words (number_of r.list) (λ x pos. refl) round) r.rounds);
    }
  where
    max_few : (a b n : ℕ) → a ≤ n → b ≤ n → max a b ≤ n
    max_few a b n h k = grind arith

    below_left : (e a b : ℕ) → e ≤ a → e ≤ max a b
    below_left e a b h = grind arith

    below_right : (e a b : ℕ) → e ≤ b → e ≤ max a b
    below_right e a b h = grind arith

-- at the end, where all seats that were made were joined, the rule holds of the root's view alone
pub closes : (key : Key) (id : ℕ) (v : View) (ws : List ℕ) (xs : List (Unit {0})) → v.own.number ≡ 64 → AllJoined v → Final (Seen (Holds key) id v) ws xs → Closes key v ws
closes key id v ws xs is all f =
    let s = f.0 in let r = f.1.0 in let at = f.1.1 in let state = last_state key.geo r.list in
    let rest = alone s.views r.seats id v at is all in
    let sum : (g : View → ℕ) → g spent_view ≡ 0 → sum_by g (v ∷ []) ≡ sum_by g s.views = λ g none_spent. sum_one g v ∙ sym (sum_alone g s.views id v at (λ j u ne h. ap g (rest j u ne h) ∙ none_spent)) in
    let a = sum reads_in refl in let b = sum updates_in refl in let c = sum writes_in refl in let d = sum plans_in refl in
    let lock = r.levels.lock_word in let one = r.levels.at_most_one in let number = r.changes.change_number in let few = r.changes.within_limit in
    subst (Closes key v) f.2 record {
      list = r.list;
      first_rests = r.first_rests;
      starts = r.starts;
      are = r.are;
      levels = record { lock_word = omega arith; at_most_one = omega arith; no_reader = λ h. a ∙ r.levels.no_reader (omega arith) };
      knows = all_one (KnowsItsWords key s.words state) v (all_at (KnowsItsWords key s.words state) s.views id v at r.knows);
      rests = λ h. r.rests (sym d ∙ h);
      changes = record { change_number = omega arith; within_limit = omega arith };
      noted = record {
        planned = r.noted.planned;
        each = all_one (KnowsList key r.list) v (all_at (KnowsList key r.list) s.views id v at r.noted.each);
        once = λ place h. sum (change_count (r.list.start + place + 1)) refl ∙ r.noted.once place h;
      };
      counts = all_one CountsEvents v (all_at CountsEvents s.views id v at r.counts);
      seats = record {
        one_root = sum root_count refl ∙ r.seats.one_root;
        once = λ n. (let m = sum (made_count n) refl in let o = r.seats.once n in omega arith);
        living = λ n small. sum (held_count n) (spent_held n small) ∙ (r.seats.living n small ∙ sym (sum (made_count n) refl));
        each = all_one IsSeat v (all_at IsSeat s.views id v at r.seats.each);
      };
      rounds = all_one (KnowsItsRound s.words (number_of r.list)) v (all_at (KnowsItsRound s.words (number_of r.list)) s.views id v at r.rounds);
    }
  where
    spent_held : (n : ℕ) → n < 64 → held_count n spent_view ≡ 0
    spent_held n small = let e = one_if_other 65 n (λ e. absurd (omega arith)) in omega arith

-- the front of a list with one element more
pub take_more : {A : Type 0} (xs : List A) (i : ℕ) (a : A) → get_elem? xs i ≡ some a → take (suc i) xs ≡ take i xs ++ a ∷ []
take_more [] i a e = absurd (some-ne-none a (sym e))
take_more (x ∷ xs) zero a e = ap (λ y. y ∷ []) (some-injective x a e)
take_more (x ∷ xs) (suc i) a e = ap (λ t. x ∷ t) (take_more xs i a e)
