-- Each event on the lock word keeps the rule.
use Rattle.std.proofs.Common.{◌≡◌, ◌≢◌, ℕ, ◌+◌, ◌-◌, ◌*◌, ◌%◌, ◌^◌, ◌<◌, ◌≤◌, eqb, Bool, List, [], All, length, set, get_or, sum_by, Option, Some, None, refl, sym, ap, ◌∙◌, subst, arith, length-set, get_or-set_other, get_or-set_same, inl, inr, eq-eqb, ne_eqb}
use Rattle.std.proofs.lemmas.Bool.{cases_eq}
use Rattle.std.proofs.lemmas.List.{set-get_or}
use Rattle.std.proofs.lemmas.List.Elements.{All-set, All-weaker}
use Rattle.std.proofs.lemmas.List.FromFn.{fill_by_all, get_or-map-range_with_len, length-map-range_with_len}
use mathlib.Core.Logic.{dite}
use mathlib.Core.Option.{none, some}
use native.Mathlib.Decide.{ℕ_discrete}
use lib.ListN.{get_elem?}
use prog.Atomic.{either}
use Rattle.atomic_table.specs.Table.{Allows, keeps, step}
use Rattle.cm_plain.specs.States.{State}
use Rattle.cm_plain.specs.Lawful.{Resting}
use Rattle.cm_plain.proofs.OutsideHead.{resting_same, torn_same}
use Rattle.cm_words.specs.Memory.{Note, first_or, origin}
use Rattle.cm_words.proofs.ListSums.{all_at, sum_part, sum_same, sum_set}
use Rattle.cm_words.proofs.MapPlaces.{number_inside}
use Rattle.cm_lock.specs.declared.view.Level.{Level}
use Rattle.cm_lock.specs.declared.view.Level.TheVariants.{Free, Read, Update, Write}
use Rattle.cm_lock.specs.declared.view.Key.{Key}
use Rattle.cm_lock.specs.declared.view.ChangeCopy.{ChangeCopy}
use Rattle.cm_lock.specs.declared.view.HeldLevel.{HeldLevel}
use Rattle.cm_lock.specs.declared.view.Round.{Round}
use Rattle.cm_lock.specs.declared.view.View.{View}
use Rattle.cm_lock.specs.ChangeLists.{KnowsList, last_state, number_of}
use Rattle.cm_lock.specs.Levels.{Permits, plans, plans_in, reads, reads_in, updates, updates_in, weight, writes, writes_in}
use Rattle.cm_lock.specs.Rounds.{KnowsItsRound}
use Rattle.cm_lock.specs.Rule.{CountsEvents, IsSharedSegment, KnowsItsWords, KnowsWords, known_of}
use Rattle.cm_lock.specs.Steps.{Looks, Lowers, Releases, SeatState, Takes}
use Rattle.cm_lock.specs.Views.{after_look, after_miss, after_release, change_in, note_at, with_level}
use Rattle.cm_lock.proofs.BesideWriter.{no_plan, only_writer, unnoted}
use Rattle.cm_lock.proofs.Frames.{changes_frame, event, levels_frame, round_same}
use Rattle.cm_lock.proofs.HeldEvents.{Holds, St, set_are}

-- the origin of words with another lock word, which is never noted
origin_lock : (key : Key) (h : HeldLevel) (words : List ℕ) (n : ℕ) → origin (known_of key h) (set words 0 n) ≡ set (origin (known_of key h) words) 0 n
unfolding origin
origin_lock key h words n =
    let f : List ℕ → ℕ → ℕ = λ ws at. first_or (note_at h.notes at) (get_or ws at 0) in
    let long : length (set words 0 n) ≡ length words = length-set words 0 n in
    let length_is : length (origin (known_of key h) words) ≡ length words = length-map-range_with_len (f words) 0 (length words) in
    fill_by_all (f (set words 0 n)) (origin (known_of key h) (set words 0 n)) (length words) 0 (length-map-range_with_len (f (set words 0 n)) 0 (length (set words 0 n)) ∙ long)
    (λ k less. get_or-map-range_with_len (f (set words 0 n)) 0 (length (set words 0 n)) k k 0 (subst (λ (z : ℕ). k < z) (sym long) less) (omega arith))
    ∙ sym (fill_by_all (f (set words 0 n)) (set (origin (known_of key h) words) 0 n) (length words) 0 (length-set (origin (known_of key h) words) 0 n ∙ length_is) (λ k less. elim (cases_eq k 0) [
      | inl lock ↦ ap (λ (j : ℕ). get_or (set (origin (known_of key h) words) 0 n) j 0) lock ∙ (get_or-set_same (origin (known_of key h) words) 0 n 0 (subst (λ (z : ℕ). 0 < z) (sym length_is) (omega arith))
          ∙ (sym (get_or-set_same words 0 n 0 (omega arith)) ∙ ap (f (set words 0 n)) (sym lock)))
      | inr ne ↦ get_or-set_other (origin (known_of key h) words) 0 k n 0 ne ∙ (get_or-map-range_with_len (f words) 0 (length words) k k 0 less (omega arith) ∙ ap (first_or (note_at h.notes k)) (sym (get_or-set_other words 0 k n 0 ne)))
    ]))

-- what a level knows, it knows beside another lock word
beside_lock : (key : Key) (words : List ℕ) (state : State) (n : ℕ) (h : HeldLevel) → KnowsWords key words state h → KnowsWords key (set words 0 n) state h
beside_lock key words state n h k = record {
  noted = λ a note e. get_or-set_other words 0 a n 0 (λ z. no_lock a note z e) ∙ k.noted a note e;
  free = k.free;
  writer = k.writer;
  planned = λ c e. (let u = k.planned c e in record {
    planned = u.planned;
    rests = subst (λ (o : List ℕ). Resting key.geo key.segment o state) (sym (origin_lock key h words n)) (resting_same key.geo key.segment (origin (known_of key h) words) 0 n state (omega arith) u.rests);
    torn = torn_same key.geo words 0 n state (change_in c) (omega arith) u.torn;
  });
}
  where
    no_lock : (a : ℕ) (note : Note) → a ≡ 0 → note_at h.notes a ≡ Some note → ⊥
    no_lock a note z e = grind arith

-- of all levels of a seat
all_beside_lock : (key : Key) (words : List ℕ) (state : State) (n : ℕ) (v : View) → KnowsItsWords key words state v → KnowsItsWords key (set words 0 n) state v
all_beside_lock key words state n v k = record {
  own = beside_lock key words state n v.own k.own;
  inherited = All-weaker (KnowsWords key words state) (KnowsWords key (set words 0 n) state) (beside_lock key words state n) v.inherited k.inherited;
}

module _ (key : Key) (s : St) (r : Holds key s) (id : ℕ) (v : View) (at : get_elem? s.views id ≡ some v) where
  -- an event that changes no word, and of the view neither levels nor numbers nor what it has entered
  pub quiet : (w : View) → v.own.number ≢ 65 → w.own ≡ v.own → w.inherited ≡ v.inherited → w.made ≡ v.made → w.due ≡ v.due → w.changes ≡ v.changes → w.answers ≡ v.answers → v.seen ≤ w.seen → w.seen ≤ number_of r.list
      → CountsEvents w → KnowsItsRound s.words (number_of r.list) w → IsSharedSegment key s.words (set s.views id w)
  quiet w live o i m d c a more few counts round =
      let state = last_state key.geo r.list in
      let k = all_at (KnowsItsWords key s.words state) s.views id v at r.knows in
      let p : plans_in w ≡ plans_in v = λ t. plans (o t).plan + sum_by (λ (h : HeldLevel). plans h.plan) (i t) in
      let x : reads_in w ≡ reads_in v = λ t. reads (o t).level + sum_by (λ (h : HeldLevel). reads h.level) (i t) in
      let y : updates_in w ≡ updates_in v = λ t. updates (o t).level + sum_by (λ (h : HeldLevel). updates h.level) (i t) in
      let z : writes_in w ≡ writes_in v = λ t. writes (o t).level + sum_by (λ (h : HeldLevel). writes h.level) (i t) in
      event key s.words s.words s.views id v w at r live (ap (λ (h : HeldLevel). h.number) o) m d i c a more few r.are
      (levels_frame s.views id v w at s.words s.words refl x y z r.levels)
      (All-set (KnowsItsWords key s.words state) s.views id w (record { own = subst (KnowsWords key s.words state) (sym o) k.own; inherited = subst (All (KnowsWords key s.words state)) (sym i) k.inherited }) r.knows)
      (λ h. r.rests (sym (sum_same plans_in s.views id v w at p) ∙ h))
      (changes_frame s.views id v w at s.words s.words (number_of r.list) refl p r.changes)
      counts
      (All-set (KnowsItsRound s.words (number_of r.list)) s.views id w round r.rounds)

  -- an event that changes the lock word and the seat's level: the sums stay within what the rule allows
  relocked : (n : ℕ) (w : View) → n < 2 ^ 64 → n + weight v.own.level ≡ get_or s.words 0 0 + weight w.own.level
      → (sum_by updates_in (set s.views id w) + sum_by writes_in (set s.views id w) ≤ 1) → (0 < sum_by writes_in (set s.views id w) → sum_by reads_in (set s.views id w) ≡ 0)
      → v.own.number ≢ 65 → w.own.number ≡ v.own.number → w.own.plan ≡ v.own.plan → w.inherited ≡ v.inherited → w.made ≡ v.made → w.due ≡ v.due → w.changes ≡ v.changes → w.answers ≡ v.answers → w.seen ≡ v.seen → w.round ≡ v.round
      → ((round : Round) → v.round ≡ Some round → ⊥) → CountsEvents w → KnowsWords key s.words (last_state key.geo r.list) w.own → IsSharedSegment key (set s.words 0 n) (set s.views id w)
  relocked n w small weights one alone live num p i m d c an sn rd no_round counts own =
      let state = last_state key.geo r.list in
      let k = all_at (KnowsItsWords key s.words state) s.views id v at r.knows in
      let a = sum_set reads_in s.views id v w at in
      let b = sum_set updates_in s.views id v w at in
      let e = sum_set writes_in s.views id v w at in
      let a' : sum_by (λ (h : HeldLevel). reads h.level) w.inherited ≡ sum_by (λ (h : HeldLevel). reads h.level) v.inherited = ap (sum_by (λ (h : HeldLevel). reads h.level)) i in
      let b' : sum_by (λ (h : HeldLevel). updates h.level) w.inherited ≡ sum_by (λ (h : HeldLevel). updates h.level) v.inherited = ap (sum_by (λ (h : HeldLevel). updates h.level)) i in
      let e' : sum_by (λ (h : HeldLevel). writes h.level) w.inherited ≡ sum_by (λ (h : HeldLevel). writes h.level) v.inherited = ap (sum_by (λ (h : HeldLevel). writes h.level)) i in
      let plans_same : plans_in w ≡ plans_in v = λ t. plans (p t) + sum_by (λ (h : HeldLevel). plans h.plan) (i t) in
      let within : 0 < length s.words = length_nonzero s r in
      let now : get_or (set s.words 0 n) 0 0 ≡ n = get_or-set_same s.words 0 n 0 within in
      let lock = r.levels.lock_word in
      let seen = (all_at (KnowsList key r.list) s.views id v at r.noted.each).seen in
      let others : (at : ℕ) → 0 < at → get_or (set s.words 0 n) at 0 ≡ get_or s.words at 0 = λ j pos. get_or-set_other s.words 0 j n 0 (λ z. omega arith) in
      event key s.words (set s.words 0 n) s.views id v w at r live num m d i c an (omega arith) (omega arith) (set_are key s.words 0 n small r.are)
      (record { lock_word = omega arith; at_most_one = one; no_reader = alone })
      (All-set (KnowsItsWords key (set s.words 0 n) state) s.views id w
      (record { own = beside_lock key s.words state n w.own own; inherited = subst (All (KnowsWords key (set s.words 0 n) state)) (sym i) (all_beside_lock key s.words state n v k).inherited })
      (All-weaker (KnowsItsWords key s.words state) (KnowsItsWords key (set s.words 0 n) state) (all_beside_lock key s.words state n) s.views r.knows))
      (λ z. resting_same key.geo key.segment s.words 0 n state (omega arith) (r.rests (sym (sum_same plans_in s.views id v w at plans_same) ∙ z)))
      (changes_frame s.views id v w at s.words (set s.words 0 n) (number_of r.list) (others 1 (omega arith)) plans_same r.changes)
      counts
      (All-set (KnowsItsRound (set s.words 0 n) (number_of r.list)) s.views id w
      (round_same v w rd (λ o q. absurd (no_round o q)) s.words (set s.words 0 n) (number_of r.list) others (all_at (KnowsItsRound s.words (number_of r.list)) s.views id v at r.rounds))
      (All-weaker (KnowsItsRound s.words (number_of r.list)) (KnowsItsRound (set s.words 0 n) (number_of r.list)) (λ u q. round_same u u refl (λ o e. (q o e).free) s.words (set s.words 0 n) (number_of r.list) others q) s.views r.rounds))
    where
      length_nonzero : (s : St) (r : Holds key s) → 0 < length s.words
      length_nonzero s r = let e = r.are.length_is in let one = number_inside key.geo in omega arith

-- from a level to another, this lock word keeps the sums within what the rule allows
abbrev pub KeepsSums : Level → Level → ℕ → Type 0
KeepsSums from to word = (readers updaters writers : ℕ) → word ≡ readers + 2 ^ 30 * updaters + 2 ^ 31 * writers → updaters + writers ≤ 1 → (0 < writers → readers ≡ 0)
    → reads from ≤ readers → updates from ≤ updaters → writes from ≤ writers
    → (updaters + updates to + writers + writes to ≤ 1 + updates from + writes from) × (writes from < writers + writes to → readers + reads to ≡ reads from)

keeps_read : (word : ℕ) → word < 2 ^ 31 → KeepsSums Free Read word
keeps_read word h a b c e one alone x y z = (grind arith, λ q. grind arith)

keeps_update : (word : ℕ) → word < 2 ^ 30 → KeepsSums Free Update word
keeps_update word h a b c e one alone x y z = (grind arith, λ q. grind arith)

keeps_write : (word : ℕ) → word ≡ 0 → KeepsSums Free Write word
keeps_write word h a b c e one alone x y z = (grind arith, λ q. grind arith)

keeps_raise : (word : ℕ) → word ≡ 2 ^ 30 → KeepsSums Update Write word
keeps_raise word h a b c e one alone x y z = (grind arith, λ q. grind arith)

-- a word that permits a take does so
keeps_take : (from to : Level) (word : ℕ) → Permits from to word → KeepsSums from to word
keeps_take Free Read word h = keeps_read word h
keeps_take Free Update word h = keeps_update word h
keeps_take Free Write word h = keeps_write word h
keeps_take Update Write word h = keeps_raise word h
keeps_take Free Free word h = absurd h
keeps_take Read to word h = absurd h
keeps_take Update Free word h = absurd h
keeps_take Update Read word h = absurd h
keeps_take Update Update word h = absurd h
keeps_take Write to word h = absurd h

-- a take goes up, and its word stays below 2^64
take_up : (from to : Level) (word next : ℕ) → Permits from to word → next + weight from ≡ word + weight to → (to ≢ Free) × (writes from ≤ writes to) × (next < 2 ^ 64)
take_up Free Read word next h e = ((λ e. absurd (cc)), omega arith, omega arith)
take_up Free Update word next h e = ((λ e. absurd (cc)), omega arith, omega arith)
take_up Free Write word next h e = ((λ e. absurd (cc)), omega arith, omega arith)
take_up Update Write word next h e = ((λ e. absurd (cc)), omega arith, omega arith)
take_up Free Free word next h e = absurd h
take_up Read to word next h e = absurd h
take_up Update Free word next h e = absurd h
take_up Update Read word next h e = absurd h
take_up Update Update word next h e = absurd h
take_up Write to word next h e = absurd h

-- every word does to go down
keeps_free : (level : Level) (word : ℕ) → KeepsSums level Free word
keeps_free level word a b c e one alone x y z = (omega arith, λ q. let r = alone (omega arith) in omega arith)

keeps_lower : (word : ℕ) → KeepsSums Write Update word
keeps_lower word a b c e one alone x y z = (omega arith, λ q. grind arith)

keeps_lower_to_read : (word : ℕ) → KeepsSums Update Read word
keeps_lower_to_read word a b c e one alone x y z = (omega arith, λ q. grind arith)

module _ (key : Key) (s : St) (r : Holds key s) (id : ℕ) (v : View) (at : get_elem? s.views id ≡ some v) where
  -- the level becomes another one
  releveled : (to : Level) (n : ℕ) (w : View) → n < 2 ^ 64 → KeepsSums v.own.level to (get_or s.words 0 0) → n + weight v.own.level ≡ get_or s.words 0 0 + weight to → w.own.level ≡ to
      → v.own.number ≢ 65 → w.own.number ≡ v.own.number → w.own.plan ≡ v.own.plan → w.inherited ≡ v.inherited → w.made ≡ v.made → w.due ≡ v.due → w.changes ≡ v.changes → w.answers ≡ v.answers → w.seen ≡ v.seen → w.round ≡ v.round
      → ((round : Round) → v.round ≡ Some round → ⊥) → CountsEvents w → KnowsWords key s.words (last_state key.geo r.list) w.own → IsSharedSegment key (set s.words 0 n) (set s.views id w)
  releveled to n w small ok e is live num p i m d c an sn rd no_round counts own =
      let a = sum_set reads_in s.views id v w at in
      let b = sum_set updates_in s.views id v w at in
      let f = sum_set writes_in s.views id v w at in
      let a' : reads_in w ≡ reads to + sum_by (λ (h : HeldLevel). reads h.level) v.inherited = λ k. reads (is k) + sum_by (λ (h : HeldLevel). reads h.level) (i k) in
      let b' : updates_in w ≡ updates to + sum_by (λ (h : HeldLevel). updates h.level) v.inherited = λ k. updates (is k) + sum_by (λ (h : HeldLevel). updates h.level) (i k) in
      let f' : writes_in w ≡ writes to + sum_by (λ (h : HeldLevel). writes h.level) v.inherited = λ k. writes (is k) + sum_by (λ (h : HeldLevel). writes h.level) (i k) in
      let x = sum_part reads_in s.views id v at in
      let y = sum_part updates_in s.views id v at in
      let z = sum_part writes_in s.views id v at in
      let o = ok (sum_by reads_in s.views) (sum_by updates_in s.views) (sum_by writes_in s.views) r.levels.lock_word r.levels.at_most_one r.levels.no_reader (omega arith) (omega arith) (omega arith) in
      let one = o.0 in let alone = o.1 in
      relocked key s r id v at n w small (e ∙ ap (λ (k : Level). get_or s.words 0 0 + weight k) (sym is)) (omega arith) (λ g. let q = alone (omega arith) in omega arith) live num p i m d c an sn rd no_round counts own

-- the origin doesn't depend on the level
origin_level : (key : Key) (h : HeldLevel) (l : Level) (words : List ℕ) → origin (known_of key h) words ≡ origin (known_of key (record h { level = l })) words
unfolding origin
origin_level key h l words = refl

-- one event more is counted
pub more_events : (v w : View) → w.stores ≡ v.stores → w.answers ≡ v.answers → w.changes ≡ v.changes → w.inherited ≡ v.inherited → w.own.plan ≡ v.own.plan → v.events ≤ w.events → CountsEvents v → CountsEvents w
more_events v w s a c i p e k =
    let x : plans_in w ≡ plans_in v = λ t. plans (p t) + sum_by (λ (h : HeldLevel). plans h.plan) (i t) in
    let la : length w.answers ≡ length v.answers = ap length a in let lc : length w.changes ≡ length v.changes = ap length c in
    let ke = k.events in let ks = k.stores in record {
      events = omega arith;
      stores = omega arith;
      only_for_changes = λ h. s ∙ k.only_for_changes (omega arith);
    }

-- a plan that counts for none is none
no_plan_by : (p : Option ChangeCopy) → plans p ≡ 0 → p ≡ None
no_plan_by None e = refl
no_plan_by (Some c) e = absurd (omega arith)

module _ (key : Key) (slots id : ℕ) (me : SeatState) (live : me.0.own.number ≢ 65) where
  -- a look
  pub looks : (is_first : Bool) → Allows (Holds key) slots id me 0 (λ n. n) (Looks is_first (step slots 0 0 0 none) me)
  looks is_first s r _ at _ =
      let v = me.0 in let n : ℕ = get_or s.words 0 0 in let w = after_look is_first v n in
      let counts = all_at CountsEvents s.views id v at r.counts in
      let round = all_at (KnowsItsRound s.words (number_of r.list)) s.views id v at r.rounds in
      let seen = (all_at (KnowsList key r.list) s.views id v at r.noted.each).seen in (
        w,
        keeps,
        tt,
        subst (λ (ws : List ℕ). IsSharedSegment key ws (set s.views id w)) (sym (set-get_or s.words 0 0))
            (quiet key s r id v at w live refl refl refl refl refl refl (omega arith) seen (more_events v w refl refl refl refl refl (omega arith) counts) (round_same v w refl (λ o e. (round o e).free) s.words s.words (number_of r.list) (λ a pos. refl) round)),
        (refl, refl),
      )

  -- the exchange of a take, behind a look at a word that permits the level
  pub takes : (from to : Level) (word next : ℕ) → (from ≡ Free → me.0.round ≡ None) → me.0.own.level ≡ from → Permits from to word → next + weight from ≡ word + weight to
      → Allows (Holds key) slots id me 0 (λ n. either (eqb n word) next n) (Takes to (step slots 0 word next none) me)
  takes from to word next closed is permits sum s r _ at _ =
      let v = me.0 in
      let found : ℕ = get_or s.words 0 0 in
      let k = (all_at (KnowsItsWords key s.words (last_state key.geo r.list)) s.views id v at r.knows).own in
      let counts = all_at CountsEvents s.views id v at r.counts in
      let round = all_at (KnowsItsRound s.words (number_of r.list)) s.views id v at r.rounds in
      let seen = (all_at (KnowsList key r.list) s.views id v at r.noted.each).seen in
      let none_open : (o : Round) → v.round ≡ Some o → ⊥ = λ o e. no_plan o (sym (closed (sym is ∙ (round o e).free)) ∙ e) in
      dite (ℕ_discrete found word)
      (λ hit. let w = with_level to v in let u = take_up from to word next permits sum in let more = u.1 in let few = k.writer in let wv : writes v.own.level ≡ writes from = ap writes is in (
        w,
        keeps,
        tt,
        subst (λ b. IsSharedSegment key (set s.words 0 (either b next found)) (set s.views id w)) (sym (eq-eqb found word hit))
            (releveled key s r id v at to next w u.2 (subst (λ (z : Level). KeepsSums z to found) (sym is) (subst (KeepsSums from to) (sym hit) (keeps_take from to word permits)))
            (ap (λ (z : Level). next + weight z) is ∙ (sum ∙ ap (λ z. z + weight to) (sym hit))) refl live refl refl refl refl refl refl refl refl refl none_open
            (more_events v w refl refl refl refl refl (omega arith) counts)
            record { noted = k.noted; free = λ e. absurd (u.0 e); writer = omega arith; planned = λ c e. (let p = k.planned c e in record { planned = p.planned; rests = subst (λ (o : List ℕ). Resting key.geo key.segment o (last_state key.geo r.list)) (origin_level key v.own to s.words) p.rests; torn = p.torn }) }),
        ((λ _. refl), (λ ne. absurd (ne hit)), refl),
      ))
      (λ other. let w = after_miss v found in (
        w,
        keeps,
        tt,
        subst (λ b. IsSharedSegment key (set s.words 0 (either b next found)) (set s.views id w)) (sym (ne_eqb found word other))
            (subst (λ (ws : List ℕ). IsSharedSegment key ws (set s.views id w)) (sym (set-get_or s.words 0 0))
            (quiet key s r id v at w live refl refl refl refl refl refl (omega arith) seen (more_events v w refl refl refl refl refl (omega arith) counts) (round_same v w refl (λ o e. (round o e).free) s.words s.words (number_of r.list) (λ a pos. refl) round))),
        ((λ e. absurd (other e)), (λ _. refl), refl),
      ))

  -- a seat with a level has no open round
  held_round : (s : St) (r : Holds key s) → get_elem? s.views id ≡ some me.0 → me.0.own.level ≢ Free → (round : Round) → me.0.round ≡ Some round → ⊥
  held_round s r at held round e = held ((all_at (KnowsItsRound s.words (number_of r.list)) s.views id me.0 at r.rounds) round e).free

  -- without a plan a level may become another one with the same notes
  leveled_knows : (s : St) (state : State) (to : Level) → me.0.own.plan ≡ None → to ≢ Free → KnowsWords key s.words state me.0.own → KnowsWords key s.words state (record me.0.own { level = to })
  leveled_knows s state to idle held k = record {
    noted = k.noted;
    free = λ e. absurd (held e);
    writer = (let z : plans me.0.own.plan ≡ 0 = ap plans idle in omega arith);
    planned = λ c e. absurd (no_plan c (sym idle ∙ e));
  }

  -- from Write to Update, by a swap
  pub lowers : me.0.own.level ≡ Write → me.0.own.plan ≡ None → Allows (Holds key) slots id me 0 (λ _. 1073741824) (Lowers Update (step slots 0 1073741824 0 none) me)
  lowers is idle s r _ at _ =
      let v = me.0 in let w = with_level Update v in let state = last_state key.geo r.list in
      let counts = all_at CountsEvents s.views id v at r.counts in
      let k = (all_at (KnowsItsWords key s.words state) s.views id v at r.knows).own in
      let all = only_writer key s.words state s.views r.levels r.knows id v at is in let a = all.0 in let b = all.1 in let c = all.2 in let lock = r.levels.lock_word in
      let full : get_or s.words 0 0 ≡ 2147483648 = omega arith in
      let wv : weight v.own.level ≡ 2147483648 = ap weight is in (
        w,
        keeps,
        tt,
        releveled key s r id v at Update 1073741824 w (omega arith) (subst (λ (z : Level). KeepsSums z Update (get_or s.words 0 0)) (sym is) (keeps_lower (get_or s.words 0 0))) (omega arith) refl live refl refl refl refl refl refl refl refl refl
            (held_round s r at (λ e. absurd (let q : Write ≡ Free = sym is ∙ e in cc))) (more_events v w refl refl refl refl refl (omega arith) counts)
            (leveled_knows s state Update idle (λ e. absurd (cc)) k),
        (refl, refl),
      )

  -- from Update to Read, by a subtraction
  pub lowers_to_read : me.0.own.level ≡ Update → Allows (Holds key) slots id me 0 (λ n. (n + (2 ^ 64 - 1073741823)) % 2 ^ 64) (Lowers Read (step slots 0 1073741823 0 none) me)
  lowers_to_read is s r _ at small =
      let v = me.0 in let w = with_level Read v in let state = last_state key.geo r.list in
      let counts = all_at CountsEvents s.views id v at r.counts in
      let k = (all_at (KnowsItsWords key s.words state) s.views id v at r.knows).own in
      let few = k.writer in let none_writes : writes v.own.level ≡ 0 = ap writes is in
      let idle = no_plan_by v.own.plan (omega arith) in
      let found : ℕ = get_or s.words 0 0 in
      let lock = r.levels.lock_word in let part = sum_part updates_in s.views id v at in let mine : updates v.own.level ≡ 1 = ap updates is in
      let enough : 1073741824 ≤ found = omega arith in
      let fits : found < 18446744073709551616 = small in
      let n : ℕ = found - 1073741823 in
      let less : n ≡ (found + (18446744073709551616 - 1073741823)) % 18446744073709551616 = omega arith in
      let wv : weight v.own.level ≡ 1073741824 = ap weight is in (
        w,
        keeps,
        tt,
        subst (λ (z : ℕ). IsSharedSegment key (set s.words 0 z) (set s.views id w)) less
            (releveled key s r id v at Read n w (omega arith) (subst (λ (z : Level). KeepsSums z Read found) (sym is) (keeps_lower_to_read found)) (omega arith) refl live refl refl refl refl refl refl refl refl refl
            (held_round s r at (λ e. absurd (let q : Update ≡ Free = sym is ∙ e in cc))) (more_events v w refl refl refl refl refl (omega arith) counts)
            (leveled_knows s state Read idle (λ e. absurd (cc)) k)),
        (refl, refl),
      )

  -- a release frees the level: the lock word falls by its weight
  released : (s : St) (r : Holds key s) (at : get_elem? s.views id ≡ some me.0) → me.0.own.level ≢ Free → me.0.own.plan ≡ None → (n : ℕ) → n + weight me.0.own.level ≡ get_or s.words 0 0 → n < 2 ^ 64
      → IsSharedSegment key (set s.words 0 n) (set s.views id (after_release me.0))
  released s r at held idle n e small =
      let v = me.0 in let w = after_release v in
      let counts = all_at CountsEvents s.views id v at r.counts in
      let found : ℕ = get_or s.words 0 0 in
      releveled key s r id v at Free n w small (keeps_free v.own.level found) (e ∙ plus_none found) refl live refl (sym idle) refl refl refl refl refl refl refl (held_round s r at held)
      (more_events v w refl refl refl refl (sym idle) (omega arith) counts)
      (record { noted = λ q note h. absurd (unnoted [] q note refl h); free = λ _. refl; writer = omega arith; planned = λ d h. absurd (no_plan d h) })
    where
      plus_none : (n : ℕ) → n ≡ n + weight Free
      plus_none n = omega arith

  -- the lock word is no less than the weight of a level that a seat holds
  weight_in : (s : St) (r : Holds key s) (at : get_elem? s.views id ≡ some me.0) → weight me.0.own.level ≤ get_or s.words 0 0
  weight_in s r at =
      let lock = r.levels.lock_word in
      let a = sum_part reads_in s.views id me.0 at in
      let b = sum_part updates_in s.views id me.0 at in
      let c = sum_part writes_in s.views id me.0 at in
      omega arith

  -- by a subtraction
  pub releases : me.0.own.level ≢ Free → me.0.own.plan ≡ None → (k : ℕ) → k ≡ weight me.0.own.level → Allows (Holds key) slots id me 0 (λ n. (n + (2 ^ 64 - k)) % 2 ^ 64) (Releases (step slots 0 k 0 none) me)
  releases held idle k is s r _ at small =
      let found : ℕ = get_or s.words 0 0 in
      let n : ℕ = found - k in
      let in_word = weight_in s r at in
      let enough : k ≤ found = omega arith in
      let fits : found < 18446744073709551616 = small in
      let less : n ≡ (found + (18446744073709551616 - k)) % 18446744073709551616 = omega arith in (
        after_release me.0,
        keeps,
        tt,
        subst (λ (z : ℕ). IsSharedSegment key (set s.words 0 z) (set s.views id (after_release me.0))) less (released s r at held idle n (omega arith) (omega arith)),
        (refl, refl),
      )

  -- by a swap, from Write
  pub releases_write : me.0.own.level ≡ Write → me.0.own.plan ≡ None → Allows (Holds key) slots id me 0 (λ _. 0) (Releases (step slots 0 0 0 none) me)
  releases_write is idle s r _ at _ =
      let v = me.0 in let state = last_state key.geo r.list in
      let all = only_writer key s.words state s.views r.levels r.knows id v at is in let a = all.0 in let b = all.1 in let c = all.2 in let lock = r.levels.lock_word in
      let full : get_or s.words 0 0 ≡ 2147483648 = omega arith in
      let wv : weight v.own.level ≡ 2147483648 = ap weight is in (
        after_release v,
        keeps,
        tt,
        released s r at (λ e. absurd (let q : Write ≡ Free = sym is ∙ e in cc)) idle 0 (omega arith) (omega arith),
        (refl, refl),
      )
