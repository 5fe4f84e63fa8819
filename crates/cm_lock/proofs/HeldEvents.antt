-- Each event on held words keeps the rule.
use Rattle.std.proofs.Common.{◌≡◌, ◌≢◌, ℕ, ◌+◌, ◌*◌, ◌/◌, ◌%◌, ◌^◌, ◌<◌, ◌≤◌, ◌==◌, true, false, List, [], ◌∷◌, ◌++◌, length, set, get_or, sum_by, count_by, Option, Some, None, IsSome, refl, sym, ap, ◌∙◌, subst, arith, length-set, length-append, get_or-set_other, get_or-set_same, inl, inr}
use Rattle.std.proofs.lemmas.Bool.{cases_eq}
use Rattle.std.proofs.lemmas.List.{set-get_or}
use Rattle.std.proofs.lemmas.List.Elements.{All-push, All-set, All-weaker}
use Rattle.std.proofs.lemmas.List.Sums.{sum_by_push}
use Rattle.std.proofs.lemmas.Option.{slice_get_within}
use mathlib.Core.Option.{none, some}
use lib.ListN.{get_elem?}
use Rattle.atomic_table.specs.Table as table
use Rattle.atomic_table.specs.Table.{Allows, keeps, step, stepped}
use Rattle.cm_geo.specs.declared.geo.Geo.{Geo}
use Rattle.cm_geo.specs.Addresses.{words_in_segment}
use Rattle.cm_plain.specs.States.{State}
use Rattle.cm_plain.specs.Changes.{Change, after}
use Rattle.cm_plain.specs.Lawful.{IsSegmentWords, Resting}
use Rattle.cm_plain.specs.Torn.{Torn}
use Rattle.cm_plain.proofs.OutsideHead.{resting_same, torn_same}
use Rattle.cm_plain.proofs.RestingTorn.{resting_torn}
use Rattle.cm_words.specs.Memory.{FitsNotes, HasEvenNumber, IsDone, IsPlanHere, IsUnderPlan, MayStore, Note, StaysTorn, origin}
use Rattle.cm_words.specs.Parity.{IsOdd}
use Rattle.cm_words.proofs.FittingLists.{origin_by}
use Rattle.cm_words.proofs.ListSums.{all_at, all_set, one_if, one_if_other, one_if_same, sum_none, sum_part, sum_same, sum_set}
use Rattle.cm_words.proofs.MapPlaces.{number_inside}
use Rattle.cm_lock.specs.declared.view.Level.{Level}
use Rattle.cm_lock.specs.declared.view.Level.TheVariants.{Free, Write}
use Rattle.cm_lock.specs.declared.view.Key.{Key}
use Rattle.cm_lock.specs.declared.view.NumberedAnswer.{NumberedAnswer}
use Rattle.cm_lock.specs.declared.view.NumberedChange.{NumberedChange}
use Rattle.cm_lock.specs.declared.view.ChangeCopy.{ChangeCopy}
use Rattle.cm_lock.specs.declared.view.HeldLevel.{HeldLevel}
use Rattle.cm_lock.specs.declared.view.View.{View}
use Rattle.cm_lock.specs.ChangeLists.{IsListedAnswer, IsListedChange, KnowsList, change_count, last_state, number_of}
use Rattle.cm_lock.specs.Levels.{plans, plans_in, writes}
use Rattle.cm_lock.specs.Rounds.{KnowsItsRound}
use Rattle.cm_lock.specs.Rule.{CountsEvents, IsSharedSegment, KnowsItsWords, KnowsWords, known_of, setting_of}
use Rattle.cm_lock.specs.Steps.{BeginsChange, EndsChange, LoadsHeld, SeatState, StoresHeld}
use Rattle.cm_lock.specs.Views.{after_begin, after_finish, after_load, after_store, change_in, copy_of, note_at, plan_in, seen_after, with_note}
use Rattle.cm_lock.proofs.BesideWriter.{held_no_plan, inherited_know, no_plan, one_plan, only_plan, others_know}
use Rattle.cm_lock.proofs.Frames.{answer_longer, changes_frame, event, get_last, levels_frame, listed_longer, longer, planned_push, round_past, round_same, state_after_push}
use Rattle.cm_lock.proofs.Numbering.{seats_frame}
use Rattle.cm_lock.proofs.Origins.{loaded_first, loaded_noted, origin_own, rebased_first, rebased_noted, stored_first, stored_noted}

-- the words and the views of a table
abbrev pub St : Type 0
St = table.State (Unit {0}) View

-- the rule of a segment's table
abbrev pub Holds : Key → St → Type 0
Holds key s = IsSharedSegment key s.words s.views

-- the words fit what a level tells of them
pub fits_of : (key : Key) (words : List ℕ) (state : State) (h : HeldLevel) → IsSegmentWords key.geo words → KnowsWords key words state h → FitsNotes (known_of key h) words
fits_of key words state h are k = record { are = are; present = λ at note inside e. k.noted at note e }

-- with one word changed they are still as many, of 64 bits each
pub set_are : (key : Key) (words : List ℕ) (i n : ℕ) → n < 2 ^ 64 → IsSegmentWords key.geo words → IsSegmentWords key.geo (set words i n)
set_are key words i n small are = record { length_is = length-set words i n ∙ are.length_is; fit = All-set (λ w. w < 2 ^ 64) words i n small are.fit }

some_same : {A : Type 0} (a b : A) → Some a ≡ Some b → a ≡ b
some_same a b e = cc

-- a writer isn't Free
writer_not_free : (l : Level) → l ≡ Write → l ≡ Free → ⊥
writer_not_free l a b = cc

-- the plan under way, where one is
pub plan_of : (p : Option ChangeCopy) → IsSome p → (c : ChangeCopy) × (p ≡ Some c)
plan_of None h = absurd (let no : false ≡ true = h in cc)
plan_of (Some c) h = (c, refl)

plan_cases : (p : Option ChangeCopy) → ((p ≡ None) → ⊥) → (c : ChangeCopy) × (p ≡ Some c)
plan_cases None h = absurd (h refl)
plan_cases (Some c) h = (c, refl)

module _ (key : Key) (slots id : ℕ) (me : SeatState) (live : me.0.own.number ≢ 65) where
  -- a load: the words stay
  pub loads : (i : ℕ) → me.0.own.level ≢ Free → Allows (Holds key) slots id me i (λ n. n) (LoadsHeld (step slots i 0 0 none) me)
  loads i held s r _ at _ =
      let v = me.0 in
      let n : ℕ = get_or s.words i 0 in
      let w = after_load v i n in
      let state = last_state key.geo r.list in
      let mine = all_at (KnowsItsWords key s.words state) s.views id v at r.knows in
      let k = mine.own in
      let few = r.changes.within_limit in
      let number = r.changes.change_number in
      let one_few : get_or s.words 1 0 ≤ 2 ^ 63 = few_number (get_or s.words 1 0) (number_of r.list) (sum_by plans_in s.views) number few in
      let was = (all_at (KnowsList key r.list) s.views id v at r.noted.each).seen in
      let one = one_plan key s.words state s.views r.levels r.knows in
      let now_seen : w.seen ≤ number_of r.list = elim (cases_eq i 1) [
        | inl same ↦ seen_few i n v.seen (number_of r.list) (sum_by plans_in s.views) was (λ _. ap (λ (j : ℕ). get_or s.words j 0) same ∙ number) one
        | inr ne ↦ seen_few i n v.seen (number_of r.list) (sum_by plans_in s.views) was (λ e. absurd (ne e)) one
      ] in
      let counts = all_at CountsEvents s.views id v at r.counts in
      let round = all_at (KnowsItsRound s.words (number_of r.list)) s.views id v at r.rounds in (
        w,
        keeps,
        tt,
        subst (λ (ws : List ℕ). IsSharedSegment key ws (set s.views id w)) (sym (set-get_or s.words i 0))
            (event key s.words s.words s.views id v w at r live refl refl refl refl refl refl (seen_more i n v.seen) now_seen r.are
            (levels_frame s.views id v w at s.words s.words refl refl refl refl r.levels)
            (All-set (KnowsItsWords key s.words state) s.views id w record {
              own = record {
                noted = loaded_noted v.own.notes s.words i k.noted;
                free = λ e. absurd (held e);
                writer = k.writer;
                planned = λ c e. subst (λ (o : List ℕ). IsUnderPlan (setting_of key v.own.level) o s.words state (change_in c)) (sym (origin_by (known_of key w.own) (known_of key v.own) s.words s.words refl (λ a _. loaded_first v.own.notes s.words i a))) (k.planned c e);
              };
              inherited = mine.inherited;
            } r.knows)
            (λ h. r.rests (sym (sum_same plans_in s.views id v w at refl) ∙ h))
            (changes_frame s.views id v w at s.words s.words (number_of r.list) refl refl r.changes)
            (record { events = (let e = counts.events in omega arith); stores = counts.stores; only_for_changes = counts.only_for_changes })
            (All-set (KnowsItsRound s.words (number_of r.list)) s.views id w (round_same v w refl (λ o e. absurd (held (round o e).free)) s.words s.words (number_of r.list) (λ a pos. refl) round) r.rounds)),
        (
          refl,
          refl,
          record {
            noted = λ note e. sym (k.noted i note e);
            within_limit = λ one. subst (λ (j : ℕ). get_or s.words j 0 ≤ 2 ^ 63) (sym one) one_few;
            even = λ one idle. subst (λ (j : ℕ). get_or s.words j 0 % 2 ≡ 0) (sym one)
                (even_number (get_or s.words 1 0) (number_of r.list) (sum_by plans_in s.views) number (held_no_plan key s.words state s.views r.levels r.knows id v at v.own.level refl held idle));
          },
        ),
      )
    where
      few_number : (word n p : ℕ) → word ≡ 2 * n + p → n + p ≤ 2 ^ 62 → word ≤ 2 ^ 63
      few_number word n p e h = omega arith

      even_number : (word n p : ℕ) → word ≡ 2 * n + p → p ≡ 0 → word % 2 ≡ 0
      even_number word n p e h = omega arith

      seen_more : (i n seen : ℕ) → seen ≤ seen_after i n seen
      seen_more i n seen = grind arith

      seen_few : (i n seen w p : ℕ) → seen ≤ w → (i ≡ 1 → n ≡ 2 * w + p) → p ≤ 1 → seen_after i n seen ≤ w
      seen_few i n seen w p h e few = grind arith

module _ (key : Key) (slots id : ℕ) (me : SeatState) (live : me.0.own.number ≢ 65) (writer : me.0.own.level ≡ Write) where
  -- a seat that writes has no open round
  no_round : (s : St) (r : IsSharedSegment key s.words s.views) → get_elem? s.views id ≡ some me.0 → (round : _) → me.0.round ≡ Some round → ⊥
  no_round s r at round e = writer_not_free me.0.own.level writer ((all_at (KnowsItsRound s.words (number_of r.list)) s.views id me.0 at r.rounds) round e).free

  -- a store under a plan
  pub stores : (i n : ℕ) → 1 < i → i < words_in_segment key.geo → n < 2 ^ 64 → MayStore (known_of key me.0.own) i n → Allows (Holds key) slots id me i (λ _. n) (StoresHeld (step slots i n 0 none) me)
  stores i n inner inside small may s r _ at _ =
      let v = me.0 in
      let found : ℕ = get_or s.words i 0 in
      let w = after_store v i found n in
      let state = last_state key.geo r.list in
      let k = (all_at (KnowsItsWords key s.words state) s.views id v at r.knows).own in
      let fits = fits_of key s.words state v.own r.are k in
      let words : List ℕ = set s.words i n in
      let within : i < length s.words = subst (λ (z : ℕ). i < z) (sym r.are.length_is) inside in
      let zero_same : get_or words 0 0 ≡ get_or s.words 0 0 = get_or-set_other s.words i 0 n 0 (λ z. omega arith) in
      let one_same : get_or words 1 0 ≡ get_or s.words 1 0 = get_or-set_other s.words i 1 n 0 (λ z. omega arith) in
      let origin_same : origin (known_of key w.own) words ≡ origin (known_of key v.own) s.words =
      origin_by (known_of key w.own) (known_of key v.own) words s.words (length-set s.words i n) (λ a h. stored_first v.own.notes s.words i n a (omega arith) (subst (λ (z : ℕ). a < z) (length-set s.words i n) h)) in
      let planned = plan_cases v.own.plan (λ idle. no_store (plan_in v.own.plan) (origin (known_of key v.own) s.words) s.words words (ap plan_in idle) (may s.words fits refl)) in
      let mine_one : plans v.own.plan ≡ 1 = ap plans planned.1 in
      let all_one : sum_by plans_in s.views ≡ plans v.own.plan = only_plan key s.words state s.views r.levels r.knows id v at writer in
      let part = sum_part plans_in s.views id v at in
      let plans_same = sum_same plans_in s.views id v w at refl in
      let number = r.changes.change_number in
      let seen = (all_at (KnowsList key r.list) s.views id v at r.noted.each).seen in
      let counts = all_at CountsEvents s.views id v at r.counts in
      let ce = counts.events in let cs = counts.stores in
      let round = all_at (KnowsItsRound s.words (number_of r.list)) s.views id v at r.rounds in (
        w,
        keeps,
        tt,
        event key s.words words s.views id v w at r live refl refl refl refl refl refl (omega arith) seen (set_are key s.words i n small r.are)
            (levels_frame s.views id v w at s.words words zero_same refl refl refl r.levels)
            (all_set (KnowsItsWords key s.words state) (KnowsItsWords key words state) s.views id w (others_know key s.words state s.views r.levels r.knows id v at writer words state) r.knows record {
              own = record {
                noted = stored_noted v.own.notes s.words i found n (omega arith) within k.noted;
                free = λ e. absurd (writer_not_free v.own.level writer e);
                writer = k.writer;
                planned = λ c e. (let u = k.planned c e in record {
                  planned = u.planned;
                  rests = subst (λ (o : List ℕ). Resting key.geo key.segment o state) (sym origin_same) u.rests;
                  torn = torn_after c (plan_in v.own.plan) (origin (known_of key v.own) s.words) s.words words (ap plan_in e) (may s.words fits refl) state u;
                });
              };
              inherited = inherited_know key s.words state s.views r.levels r.knows id v at writer words state;
            })
            (λ h. absurd (omega arith))
            (changes_frame s.views id v w at s.words words (number_of r.list) one_same refl r.changes)
            (record { events = omega arith; stores = omega arith; only_for_changes = λ z. absurd (omega arith) })
            (all_set (KnowsItsRound s.words (number_of r.list)) (KnowsItsRound words (number_of r.list)) s.views id w
            (λ j u ne h q. round_past u u refl (λ o e. (q o e).free) s.words words (number_of r.list) (number_of r.list) (omega arith) (omega arith) q) r.rounds
            (round_past v w refl (λ o e. absurd (no_round s r at o e)) s.words words (number_of r.list) (number_of r.list) (omega arith) (omega arith) round)),
        (refl, refl, λ note e. sym (k.noted i note e)),
      )
    where
      no_store : (plan : Option Change) (o ws later : List ℕ) → plan ≡ None → StaysTorn (setting_of key me.0.own.level) plan o ws later → ⊥
      no_store None o ws later e h = h
      no_store (Some c) o ws later e h = absurd (cc)

      torn_after : (c : ChangeCopy) (plan : Option Change) (o ws later : List ℕ) → plan ≡ Some (change_in c) → StaysTorn (setting_of key me.0.own.level) plan o ws later → (state : State) → IsUnderPlan (setting_of key me.0.own.level) o ws state (change_in c) → Torn key.geo later state (change_in c)
      torn_after c None o ws later e h state u = absurd (cc)
      torn_after c (Some change) o ws later e h state u =
          let is : change ≡ change_in c = some_same change (change_in c) e in
          subst (λ (d : Change). Torn key.geo later state d) is (h state (subst (λ (d : Change). IsUnderPlan (setting_of key me.0.own.level) o ws state d) (sym is) u))

  -- a change begins
  begins_change : (change : Change) (was : Note) → me.0.own.plan ≡ None → note_at me.0.own.notes 1 ≡ Some was → HasEvenNumber (known_of key me.0.own) → IsPlanHere (known_of key me.0.own) change
      → Allows (Holds key) slots id me 1 (λ _. was.present + 1) (λ _. BeginsChange change (step slots 1 (was.present + 1) 0 none) me (was.present + 1))
  begins_change change was idle noted even here s r _ at _ =
      let v = me.0 in
      let n : ℕ = was.present + 1 in
      let w = after_begin v change n in
      let state = last_state key.geo r.list in
      let k = (all_at (KnowsItsWords key s.words state) s.views id v at r.knows).own in
      let fits = fits_of key s.words state v.own r.are k in
      let words : List ℕ = set s.words 1 n in
      let stood : get_or s.words 1 0 ≡ was.present = k.noted 1 was noted in
      let is_even = even.even s.words fits in
      let not_last = even.not_last s.words fits in
      let mine_none : plans v.own.plan ≡ 0 = ap plans idle in
      let none_here : sum_by plans_in s.views ≡ plans v.own.plan = only_plan key s.words state s.views r.levels r.knows id v at writer in
      let rest = r.rests (none_here ∙ mine_none) in
      let plan = here s.words state fits rest in
      let in_segment : 1 < words_in_segment key.geo = number_inside key.geo in
      let within : 1 < length s.words = subst (λ (z : ℕ). 1 < z) (sym r.are.length_is) in_segment in
      let zero_same : get_or words 0 0 ≡ get_or s.words 0 0 = get_or-set_other s.words 1 0 n 0 (λ z. omega arith) in
      let one_now : get_or words 1 0 ≡ n = get_or-set_same s.words 1 n 0 within in
      let own : origin (known_of key w.own) words ≡ words =
      origin_own (known_of key w.own) words (λ a h. rebased_first (with_note v.own.notes 1 n n) words a (stored_noted v.own.notes s.words 1 n n (omega arith) within k.noted a)) in
      let plans_up = sum_set plans_in s.views id v w at in
      let number = r.changes.change_number in
      let seen = (all_at (KnowsList key r.list) s.views id v at r.noted.each).seen in
      let counts = all_at CountsEvents s.views id v at r.counts in
      let ce = counts.events in let cs = counts.stores in
      let round = all_at (KnowsItsRound s.words (number_of r.list)) s.views id v at r.rounds in
      let next_odd : IsOdd n = subst (λ (z : ℕ). IsOdd (z + 1)) stood (odd_next (get_or s.words 1 0) is_even not_last) in
      let small : n < 2 ^ 64 = omega (arith, next_odd.1) in
      let now_one : sum_by plans_in (set s.views id w) ≡ 1 = omega arith in (
        w,
        keeps,
        tt,
        event key s.words words s.views id v w at r live refl refl refl refl refl refl (omega arith) seen (set_are key s.words 1 n small r.are)
            (levels_frame s.views id v w at s.words words zero_same refl refl refl r.levels)
            (all_set (KnowsItsWords key s.words state) (KnowsItsWords key words state) s.views id w (others_know key s.words state s.views r.levels r.knows id v at writer words state) r.knows record {
              own = record {
                noted = rebased_noted (with_note v.own.notes 1 n n) words (stored_noted v.own.notes s.words 1 n n (omega arith) within k.noted);
                free = λ e. absurd (writer_not_free v.own.level writer e);
                writer = (let m : writes v.own.level ≡ 1 = ap writes writer in omega arith);
                planned = λ c e. (let is : copy_of change ≡ c = some_same (copy_of change) c e in
                    subst (λ (d : ChangeCopy). IsUnderPlan (setting_of key v.own.level) (origin (known_of key w.own) words) words state (change_in d)) is record {
                      planned = plan;
                      rests = subst (λ (o : List ℕ). Resting key.geo key.segment o state) (sym own) (resting_same key.geo key.segment s.words 1 n state (omega arith) rest);
                      torn = torn_same key.geo s.words 1 n state change (omega arith) (resting_torn key.geo key.segment s.words state change.op change rest plan);
                    });
              };
              inherited = inherited_know key s.words state s.views r.levels r.knows id v at writer words state;
            })
            (λ h. absurd (omega arith))
            (record {
              change_number = (let a : get_or words 1 0 ≡ was.present + 1 = one_now in omega arith);
              within_limit = few_more (get_or s.words 1 0) (number_of r.list) (sum_by plans_in s.views) (sum_by plans_in (set s.views id w)) number (none_here ∙ mine_none) now_one not_last;
            })
            (record { events = omega arith; stores = omega arith; only_for_changes = λ z. absurd (omega arith) })
            (all_set (KnowsItsRound s.words (number_of r.list)) (KnowsItsRound words (number_of r.list)) s.views id w
            (λ j u ne h q. round_past u u refl (λ o e. (q o e).free) s.words words (number_of r.list) (number_of r.list) (omega arith) (omega arith) q) r.rounds
            (round_past v w refl (λ o e. absurd (no_round s r at o e)) s.words words (number_of r.list) (number_of r.list) (omega arith) (omega arith) round)),
        (refl, refl, next_odd),
      )
    where
      odd_next : (word : ℕ) → word % 2 ≡ 0 → word < 2 ^ 63 → IsOdd (word + 1)
      odd_next word even not_last = (omega arith, omega arith)

      few_more : (word w p q : ℕ) → word ≡ 2 * w + p → p ≡ 0 → q ≡ 1 → word < 2 ^ 63 → w + q ≤ 2 ^ 62
      few_more word w p q e idle one h = omega arith

  pub begins : (change : Change) (n : ℕ) → me.0.own.plan ≡ None → (was : Note) × (note_at me.0.own.notes 1 ≡ Some was) × (n ≡ was.present + 1) → HasEvenNumber (known_of key me.0.own) → IsPlanHere (known_of key me.0.own) change
      → Allows (Holds key) slots id me 1 (λ _. n) (λ _. BeginsChange change (step slots 1 n 0 none) me n)
  begins change n idle next even here =
      subst (λ (z : ℕ). Allows (Holds key) slots id me 1 (λ _. z) (λ _. BeginsChange change (step slots 1 z 0 none) me z)) (sym next.2) (begins_change change next.0 idle next.1 even here)

  -- a change ends
  ends_change : (c : ChangeCopy) (was : Note) → me.0.own.plan ≡ Some c → note_at me.0.own.notes 1 ≡ Some was → IsDone (known_of key me.0.own) (change_in c)
      → Allows (Holds key) slots id me 1 (λ _. was.present + 1) (λ _. EndsChange (step slots 1 (was.present + 1) 0 none) me (was.present + 1))
  ends_change c was under noted done s r _ at _ =
      let v = me.0 in
      let n : ℕ = was.present + 1 in
      let w = after_finish v c n in
      let state = last_state key.geo r.list in
      let list = longer r.list (change_in c) in
      let state' = last_state key.geo list in
      let k = (all_at (KnowsItsWords key s.words state) s.views id v at r.knows).own in
      let fits = fits_of key s.words state v.own r.are k in
      let words : List ℕ = set s.words 1 n in
      let stood : get_or s.words 1 0 ≡ was.present = k.noted 1 was noted in
      let u = k.planned c under in
      let rest = done s.words state fits u in
      let then : state' ≡ after key.geo (change_in c) state = state_after_push key.geo r.list.first r.list.changes (change_in c) in
      let rest_now : Resting key.geo key.segment words state' = subst (λ (z : State). Resting key.geo key.segment words z) (sym then) (resting_same key.geo key.segment s.words 1 n (after key.geo (change_in c) state) (omega arith) rest) in
      let mine_one : plans v.own.plan ≡ 1 = ap plans under in
      let one_here : sum_by plans_in s.views ≡ plans v.own.plan = only_plan key s.words state s.views r.levels r.knows id v at writer in
      let in_segment : 1 < words_in_segment key.geo = number_inside key.geo in
      let within : 1 < length s.words = subst (λ (z : ℕ). 1 < z) (sym r.are.length_is) in_segment in
      let zero_same : get_or words 0 0 ≡ get_or s.words 0 0 = get_or-set_other s.words 1 0 n 0 (λ z. omega arith) in
      let one_now : get_or words 1 0 ≡ n = get_or-set_same s.words 1 n 0 within in
      let plans_down = sum_set plans_in s.views id v w at in
      let more : length list.changes ≡ length r.list.changes + 1 = length-append r.list.changes (change_in c ∷ []) in
      let few = r.changes.within_limit in
      let number = r.changes.change_number in
      let listed = all_at (KnowsList key r.list) s.views id v at r.noted.each in
      let seen = listed.seen in
      let counts = all_at CountsEvents s.views id v at r.counts in
      let ce = counts.events in let cs = counts.stores in
      let round = all_at (KnowsItsRound s.words (number_of r.list)) s.views id v at r.rounds in
      let stood_odd : was.present ≡ 2 * number_of r.list + 1 = sym stood ∙ (number ∙ ap (λ z. 2 * number_of r.list + z) (one_here ∙ mine_one)) in
      let half : n / 2 ≡ number_of r.list + 1 = half_next was.present (number_of r.list) stood_odd in
      let small : n < 2 ^ 64 = small_next was.present (number_of r.list) stood_odd (few_with (number_of r.list) (sum_by plans_in s.views) few) in
      let entry : NumberedChange = record { number = n / 2; change = c } in
      let one_more : length (v.changes ++ entry ∷ []) ≡ length v.changes + 1 = length-append v.changes (entry ∷ []) in
      let now_listed : (e : NumberedChange) → IsListedChange r.list e → IsListedChange list e = listed_longer r.list (change_in c) in
      let others : (u : View) → KnowsList key r.list u → KnowsList key list u = λ u l. record {
        changes = All-weaker (IsListedChange r.list) (IsListedChange list) now_listed u.changes l.changes;
        answers = All-weaker (IsListedAnswer key r.list) (IsListedAnswer key list) (answer_longer key r.list (change_in c)) u.answers l.answers;
        seen = (let l0 = l.seen in omega arith);
        changes_seen = l.changes_seen;
        answers_seen = l.answers_seen;
      } in (
        w,
        keeps,
        tt,
        record {
          list = list;
          first_rests = r.first_rests;
          starts = r.starts;
          are = set_are key s.words 1 n small r.are;
          levels = levels_frame s.views id v w at s.words words zero_same refl refl refl r.levels;
          knows = all_set (KnowsItsWords key s.words state) (KnowsItsWords key words state') s.views id w (others_know key s.words state s.views r.levels r.knows id v at writer words state') r.knows record {
            own = record {
              noted = stored_noted v.own.notes s.words 1 n n (omega arith) within k.noted;
              free = λ e. absurd (writer_not_free v.own.level writer e);
              writer = omega arith;
              planned = λ d e. absurd (no_plan d e);
            };
            inherited = inherited_know key s.words state s.views r.levels r.knows id v at writer words state';
          };
          rests = λ h. rest_now;
          changes = record {
            change_number = (let a : get_or words 1 0 ≡ was.present + 1 = one_now in omega arith);
            within_limit = (let f : number_of r.list + sum_by plans_in s.views ≤ 2 ^ 62 = few in omega arith);
          };
          noted = record {
            planned = planned_push key.geo key.segment r.list.first r.list.changes (change_in c) r.noted.planned u.planned;
            each = All-set (KnowsList key list) s.views id w record {
              changes = All-push (IsListedChange list) v.changes entry (others v listed).changes record { place = length r.list.changes; number_is = half; there = get_last r.list.changes (change_in c) };
              answers = (others v listed).answers;
              seen = omega arith;
              changes_seen = All-push (λ (e : NumberedChange). e.number ≤ n / 2) v.changes entry (All-weaker (λ (e : NumberedChange). e.number ≤ v.seen) (λ (e : NumberedChange). e.number ≤ n / 2) (λ e l. omega arith) v.changes listed.changes_seen) (omega arith);
              answers_seen = All-weaker (λ (a : NumberedAnswer). a.number ≤ v.seen) (λ (a : NumberedAnswer). a.number ≤ n / 2) (λ a l. omega arith) v.answers listed.answers_seen;
            } (All-weaker (KnowsList key r.list) (KnowsList key list) others s.views r.noted.each);
            once = λ place h.
                (let number_at : ℕ = r.list.start + place + 1 in
                let t = sum_set (change_count number_at) s.views id v w at in let l = pushed number_at v.changes entry in elim (cases_eq place (length r.list.changes)) [
                  | inl last ↦ (let none_yet : sum_by (change_count number_at) s.views ≡ 0 = sum_none (change_count number_at) s.views (λ j u g. not_noted number_at u.changes (λ y e q is.
                      (let lg = all_at (IsListedChange r.list) u.changes y e q (all_at (KnowsList key r.list) s.views j u g r.noted.each).changes in
                      let lt = slice_get_within r.list.changes lg.place (change_in e.change) lg.there in let nb = lg.number_is in omega arith))) in
                      let g = one_if_same entry.number number_at (half ∙ ap (λ z. r.list.start + z + 1) (sym last)) in omega arith)
                  | inr ne ↦ (let old = r.noted.once place (omega arith) in let g = one_if_other entry.number number_at (λ z. ne (omega arith)) in omega arith)
                ]);
          };
          counts = All-set CountsEvents s.views id w record { events = omega arith; stores = omega arith; only_for_changes = λ z. absurd (omega arith) } r.counts;
          seats = seats_frame s.views r.seats id v at w live refl refl refl refl;
          rounds = all_set (KnowsItsRound s.words (number_of r.list)) (KnowsItsRound words (number_of list)) s.views id w
              (λ j u ne h q. round_past u u refl (λ o e. (q o e).free) s.words words (number_of r.list) (number_of list) (omega arith) (omega arith) q) r.rounds
              (round_past v w refl (λ o e. absurd (no_round s r at o e)) s.words words (number_of r.list) (number_of list) (omega arith) (omega arith) round);
        },
        (record { view = λ d e. ap (λ (z : ChangeCopy). after_finish v z n) (some_same c d (sym under ∙ e)); above = omega arith }, refl),
      )
    where
      half_next : (word w : ℕ) → word ≡ 2 * w + 1 → (word + 1) / 2 ≡ w + 1
      half_next word w e = omega arith

      small_next : (word w : ℕ) → word ≡ 2 * w + 1 → w ≤ 2 ^ 62 → word + 1 < 2 ^ 64
      small_next word w e few = omega arith

      few_with : (w p : ℕ) → w + p ≤ 2 ^ 62 → w ≤ 2 ^ 62
      few_with w p h = omega arith

      pushed : (m : ℕ) (es : List NumberedChange) (e : NumberedChange) → count_by (λ (d : NumberedChange). d.number == m) (es ++ e ∷ []) ≡ count_by (λ (d : NumberedChange). d.number == m) es + one_if e.number m
      pushed m es e = sum_by_push (λ (d : NumberedChange). one_if d.number m) es e

      not_noted : (m : ℕ) (es : List NumberedChange) → ((k : ℕ) (e : NumberedChange) → get_elem? es k ≡ some e → e.number ≢ m) → count_by (λ (d : NumberedChange). d.number == m) es ≡ 0
      not_noted m es h = sum_none (λ (d : NumberedChange). one_if d.number m) es (λ k e at. one_if_other e.number m (h k e at))

  pub ends : (n : ℕ) → IsSome me.0.own.plan → (was : Note) × (note_at me.0.own.notes 1 ≡ Some was) × (n ≡ was.present + 1) → ((change : Change) → plan_in me.0.own.plan ≡ Some change → IsDone (known_of key me.0.own) change)
      → Allows (Holds key) slots id me 1 (λ _. n) (λ _. EndsChange (step slots 1 n 0 none) me n)
  ends n under next done =
      let p = plan_of me.0.own.plan under in
      subst (λ (z : ℕ). Allows (Holds key) slots id me 1 (λ _. z) (λ _. EndsChange (step slots 1 z 0 none) me z)) (sym next.2) (ends_change p.0 next.0 p.1 next.1 (done (change_in p.0) (ap plan_in p.1)))

-- the lock word is in the table
pub lock_inside : (geo : Geo) (n : ℕ) → n ≡ words_in_segment geo → 0 < n
lock_inside geo n wide = let one = number_inside geo in omega arith
