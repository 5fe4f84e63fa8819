-- Each load of a round keeps the rule.
use Rattle.std.proofs.Common.{◌≡◌, ◌≢◌, ℕ, ◌+◌, ◌*◌, ◌/◌, ◌%◌, ◌<◌, ◌≤◌, if◌then◌else◌, Bool, true, false, List, ◌∷◌, set, get_or, sum_by, Option, Some, None, IsSome, refl, sym, ap, ◌∙◌, subst, arith, inl, inr, eq-eqb, ne_eqb}
use Rattle.std.proofs.lemmas.List.{set-get_or}
use Rattle.std.proofs.lemmas.List.Elements.{All-cons, All-nil, All-set}
use mathlib.Core.Logic.{dite}
use mathlib.Core.Option.{none}
use native.Mathlib.Decide.{ℕ_discrete}
use Rattle.atomic_table.specs.Table.{Allows, keeps, step}
use Rattle.cm_plain.specs.declared.op.Op.{Op}
use Rattle.cm_plain.specs.declared.reply.Reply.{Reply}
use Rattle.cm_plain.specs.Steps.{Step}
use Rattle.cm_plain.proofs.OutsideHead.{resting_represents}
use Rattle.cm_words.specs.declared.peek.FoundWord.{FoundWord}
use Rattle.cm_words.specs.Peeks.{HasFound}
use Rattle.cm_words.proofs.ListSums.{all_at}
use Rattle.cm_lock.specs.declared.view.Key.{Key}
use Rattle.cm_lock.specs.declared.view.Level.TheVariants.{Free}
use Rattle.cm_lock.specs.declared.view.Round.{Round}
use Rattle.cm_lock.specs.declared.view.View.{View}
use Rattle.cm_lock.specs.ChangeLists.{KnowsList, last_state, number_of}
use Rattle.cm_lock.specs.Levels.{plans_in}
use Rattle.cm_lock.specs.Rounds.{IsFoundAtOnce, IsReplyToFound, KnowsItsRound, KnowsRound}
use Rattle.cm_lock.specs.Rule.{CountsEvents, IsSharedSegment, KnowsItsWords}
use Rattle.cm_lock.specs.Steps.{ClosesBy, OpensBy, Peeks, SeatState}
use Rattle.cm_lock.specs.Views.{after_close, after_failed_round, after_open, after_peek}
use Rattle.cm_lock.proofs.AnswerEvents.{counts_answer, last_answer, list_answer}
use Rattle.cm_lock.proofs.BesideWriter.{one_plan}
use Rattle.cm_lock.proofs.Frames.{changes_frame, levels_frame}
use Rattle.cm_lock.proofs.HeldEvents.{Holds, St}
use Rattle.cm_lock.proofs.LevelEvents.{more_events, quiet}
use Rattle.cm_lock.proofs.Numbering.{seats_frame}
use Rattle.cm_lock.proofs.Opening.{closed_round}

-- half of a change number is the number of changes
half_any : (word number p : ℕ) → word ≡ 2 * number + p → p ≤ 1 → word / 2 ≡ number
half_any word number p e few = omega arith

-- an even one is twice that
even_twice : (word number p : ℕ) → word ≡ 2 * number + p → p ≤ 1 → word % 2 ≡ 0 → word ≡ 2 * number
even_twice word number p e few even = omega arith

-- the round that is open
pub round_of : (o : Option Round) → IsSome o → (round : Round) × (o ≡ Some round)
round_of None h = absurd (let no : false ≡ true = h in cc)
round_of (Some round) h = (round, refl)

-- there is one
one_round : (o : Option Round) (a b : Round) → o ≡ Some a → o ≡ Some b → a ≡ b
one_round o a b e f = let s : Some a ≡ Some b = sym e ∙ f in cc

module _ (key : Key) (slots id : ℕ) (me : SeatState) (live : me.0.own.number ≢ 65) where
  -- the number of changes, by a load of the change number
  number_now : (s : St) (r : Holds key s) → get_or s.words 1 0 / 2 ≡ number_of r.list
  number_now s r = half_any (get_or s.words 1 0) (number_of r.list) (sum_by plans_in s.views) r.changes.change_number (one_plan key s.words (last_state key.geo r.list) s.views r.levels r.knows)

  -- the first load
  pub opens : me.0.own.level ≡ Free → Allows (Holds key) slots id me 1 (λ n. n) (OpensBy (step slots 1 0 0 none) me)
  opens is_free s r _ at _ =
      let v = me.0 in
      let n : ℕ = get_or s.words 1 0 in
      let half = number_now s r in
      let seen = (all_at (KnowsList key r.list) s.views id v at r.noted.each).seen in
      let counts = all_at CountsEvents s.views id v at r.counts in
      dite (ℕ_discrete (n % 2) 0)
      (λ even. let w = after_open v n in (
        w,
        keeps,
        tt,
        subst (λ (ws : List ℕ). IsSharedSegment key ws (set s.views id w)) (sym (set-get_or s.words 1 0))
            (quiet key s r id v at w live refl refl refl refl refl refl (omega arith) (omega arith) (more_events v w refl refl refl refl refl (omega arith) counts) (begun s r even)),
        (ap (λ (b : Bool). if b then after_open v n else after_failed_round v n) (sym (eq-eqb (n % 2) 0 even)), refl, omega arith),
      ))
      (λ odd. let w = after_failed_round v n in (
        w,
        keeps,
        tt,
        subst (λ (ws : List ℕ). IsSharedSegment key ws (set s.views id w)) (sym (set-get_or s.words 1 0))
            (quiet key s r id v at w live refl refl refl refl refl refl (omega arith) (omega arith) (more_events v w refl refl refl refl refl (omega arith) counts) (closed_round s.words (number_of r.list) w refl)),
        (ap (λ (b : Bool). if b then after_open v n else after_failed_round v n) (sym (ne_eqb (n % 2) 0 odd)), refl, omega arith),
      ))
    where
      some_same : {A : Type 0} (a b : A) → Some a ≡ Some b → a ≡ b
      some_same a b e = cc

      begun : (s : St) (r : Holds key s) → get_or s.words 1 0 % 2 ≡ 0 → KnowsItsRound s.words (number_of r.list) (after_open me.0 (get_or s.words 1 0))
      begun s r even round e =
          let twice = even_twice (get_or s.words 1 0) (number_of r.list) (sum_by plans_in s.views) r.changes.change_number (one_plan key s.words (last_state key.geo r.list) s.views r.levels r.knows) even in
          subst (λ (o : Round). KnowsRound s.words (number_of r.list) (after_open me.0 (get_or s.words 1 0)) o) (some_same _ round e) record {
            free = is_free;
            began = (number_of r.list, twice, omega arith);
            inner = All-nil (λ (f : FoundWord). 1 < f.at);
            stands = inr (All-nil (λ (f : FoundWord). get_or s.words f.at 0 ≡ f.word));
          }

  module _ (round : Round) (is_open : me.0.round ≡ Some round) where
    -- a load of another word
    peeks_round : (i : ℕ) → 1 < i → Allows (Holds key) slots id me i (λ n. n) (λ n m'. (m'.0 ≡ after_peek me.0 round i n) × (m'.1 ≡ me.1))
    peeks_round i inner s r _ at _ =
        let v = me.0 in
        let n : ℕ = get_or s.words i 0 in
        let w = after_peek v round i n in
        let seen = (all_at (KnowsList key r.list) s.views id v at r.noted.each).seen in
        let counts = all_at CountsEvents s.views id v at r.counts in
        let k = all_at (KnowsItsRound s.words (number_of r.list)) s.views id v at r.rounds round is_open in (
          w,
          keeps,
          tt,
          subst (λ (ws : List ℕ). IsSharedSegment key ws (set s.views id w)) (sym (set-get_or s.words i 0))
              (quiet key s r id v at w live refl refl refl refl refl refl (omega arith) seen (more_events v w refl refl refl refl refl (omega arith) counts) (λ o e. subst (λ (q : Round). KnowsRound s.words (number_of r.list) w q) (some_same _ o e) (more s r k))),
          (refl, refl),
        )
      where
        some_same : {A : Type 0} (a b : A) → Some a ≡ Some b → a ≡ b
        some_same a b e = cc

        more : (s : St) (r : Holds key s) → KnowsRound s.words (number_of r.list) me.0 round
            → KnowsRound s.words (number_of r.list) (after_peek me.0 round i (get_or s.words i 0)) (record round { found = record { at = i; word = get_or s.words i 0 } ∷ round.found })
        more s r k = record {
          free = k.free;
          began = k.began;
          inner = All-cons (λ (f : FoundWord). 1 < f.at) (record { at = i; word = get_or s.words i 0 }) round.found inner k.inner;
          stands = elim k.stands [
            | inl past ↦ inl past
            | inr there ↦ inr (All-cons (λ (f : FoundWord). get_or s.words f.at 0 ≡ f.word) (record { at = i; word = get_or s.words i 0 }) round.found refl there)
          ];
        }

    -- the last load
    closes_round : (Claim : Round → Type 0) (op : Op) (reply : Reply) → IsReplyToFound key round op reply → (IsFoundAtOnce key round → Claim round)
        → Allows (Holds key) slots id me 1 (λ n. n) (λ n m'. (n ≡ round.first → (m'.0 ≡ after_close me.0 op reply n) × Claim round) × (n ≢ round.first → m'.0 ≡ after_failed_round me.0 n) × (m'.1 ≡ me.1) × (me.0.seen ≤ n / 2))
    closes_round Claim op reply right claim s r _ at _ =
        let v = me.0 in
        let n : ℕ = get_or s.words 1 0 in
        let half = number_now s r in
        let state = last_state key.geo r.list in
        let seen = (all_at (KnowsList key r.list) s.views id v at r.noted.each).seen in
        let counts = all_at CountsEvents s.views id v at r.counts in
        let k = all_at (KnowsItsRound s.words (number_of r.list)) s.views id v at r.rounds round is_open in
        dite (ℕ_discrete n round.first)
        (λ same.
        let w = after_close v op reply n in
        let words_k = all_at (KnowsItsWords key s.words state) s.views id v at r.knows in
        let none_here = first_even s r k.began same in
        let there = still s r k same in
        let represents = resting_represents key.geo key.segment s.words state (r.rests none_here) in
        let step_here = right s.words state r.are there represents in
        let step_now = subst (λ (z : ℕ). StepsAt z op reply s r) (ap (λ (z : ℕ). z / 2) (sym same)) step_here in (
          w,
          keeps,
          tt,
          subst (λ (ws : List ℕ). IsSharedSegment key ws (set s.views id w)) (sym (set-get_or s.words 1 0)) record {
            list = r.list;
            first_rests = r.first_rests;
            starts = r.starts;
            are = r.are;
            levels = levels_frame s.views id v w at s.words s.words refl refl refl refl r.levels;
            knows = All-set (KnowsItsWords key s.words state) s.views id w (record { own = words_k.own; inherited = words_k.inherited }) r.knows;
            rests = λ h. r.rests none_here;
            changes = changes_frame s.views id v w at s.words s.words (number_of r.list) refl refl r.changes;
            noted = list_answer key r.list s.views id v w at op reply (n / 2) half (last_answer key r.list op reply (n / 2) half step_now) refl refl refl r.noted;
            counts = All-set CountsEvents s.views id w (counts_answer key r.list s.views id v w at _ refl refl refl refl refl counts) r.counts;
            seats = seats_frame s.views r.seats id v at w live refl refl refl refl;
            rounds = All-set (KnowsItsRound s.words (number_of r.list)) s.views id w (closed_round s.words (number_of r.list) w refl) r.rounds;
          },
          ((λ _. (refl, claim (record { words = s.words; state = state; are = r.are; found = there; represents = represents }))), (λ ne. absurd (ne same)), refl, omega arith),
        ))
        (λ other. let w = after_failed_round v n in (
          w,
          keeps,
          tt,
          subst (λ (ws : List ℕ). IsSharedSegment key ws (set s.views id w)) (sym (set-get_or s.words 1 0))
              (quiet key s r id v at w live refl refl refl refl refl refl (omega arith) (omega arith) (more_events v w refl refl refl refl refl (omega arith) counts) (closed_round s.words (number_of r.list) w refl)),
          ((λ e. absurd (other e)), (λ _. refl), refl, omega arith),
        ))
      where
        StepsAt : ℕ → Op → Reply → (s : St) (r : Holds key s) → Type 0
        StepsAt number op reply s r = Step key.geo key.segment (last_state key.geo r.list) number false op (last_state key.geo r.list) reply

        none_odd : (n number half first p : ℕ) → n ≡ 2 * number + p → p ≤ 1 → first ≡ 2 * half → n ≡ first → p ≡ 0
        none_odd n number half first p e few even same = omega arith

        first_even : (s : St) (r : Holds key s) → (half : ℕ) × (round.first ≡ 2 * half) × (half ≤ number_of r.list) → get_or s.words 1 0 ≡ round.first → sum_by plans_in s.views ≡ 0
        first_even s r began same =
            none_odd (get_or s.words 1 0) (number_of r.list) began.0 round.first (sum_by plans_in s.views) r.changes.change_number (one_plan key s.words (last_state key.geo r.list) s.views r.levels r.knows) began.1 same

        still : (s : St) (r : Holds key s) → KnowsRound s.words (number_of r.list) me.0 round → get_or s.words 1 0 ≡ round.first → HasFound s.words round.found
        still s r k same = elim k.stands [
          | inl past ↦ absurd (omega arith)
          | inr there ↦ there
        ]

  pub peeks : (i : ℕ) → 1 < i → IsSome me.0.round → Allows (Holds key) slots id me i (λ n. n) (Peeks (step slots i 0 0 none) me)
  peeks i inner is_some s r h at small =
      let o = round_of me.0.round is_some in
      let a = peeks_round o.0 o.1 i inner s r h at small in
      (a.0, a.1, a.2, a.3, ((λ round e. subst (λ (q : Round). a.0 ≡ after_peek me.0 q i (get_or s.words i 0)) (one_round me.0.round o.0 round o.1 e) a.4.0), a.4.1))

  pub closes : (Claim : Round → Type 0) (op : Op) (reply : Reply) → IsSome me.0.round → ((round : Round) → me.0.round ≡ Some round → IsReplyToFound key round op reply) → ((round : Round) → IsFoundAtOnce key round → Claim round)
      → Allows (Holds key) slots id me 1 (λ n. n) (ClosesBy Claim op reply (step slots 1 0 0 none) me)
  closes Claim op reply is_some right claim s r h at small =
      let o = round_of me.0.round is_some in
      let n : ℕ = get_or s.words 1 0 in
      let a = closes_round o.0 o.1 Claim op reply (right o.0 o.1) (claim o.0) s r h at small in (
        a.0,
        a.1,
        a.2,
        a.3,
        (
          (λ round e. subst (λ (q : Round). n ≡ q.first → (a.0 ≡ after_close me.0 op reply n) × Claim q) (one_round me.0.round o.0 round o.1 e) a.4.0),
          (λ round e. subst (λ (q : Round). n ≢ q.first → a.0 ≡ after_failed_round me.0 n) (one_round me.0.round o.0 round o.1 e) a.4.1),
          a.4.2,
          a.4.3,
        ),
      )

-- what a closing load leaves of a view, whatever it loaded
pub round_ended : (v w : View) (first n : ℕ) (op : Op) (reply : Reply) → (n ≡ first → w ≡ after_close v op reply n) → (n ≢ first → w ≡ after_failed_round v n) → (w.own ≡ v.own) × (w.due ≡ v.due) × (w.round ≡ None)
round_ended v w first n op reply same other = dite (ℕ_discrete n first)
    (λ e. let is = same e in (ap (λ (u : View). u.own) is, ap (λ (u : View). u.due) is, ap (λ (u : View). u.round) is))
    (λ ne. let is = other ne in (ap (λ (u : View). u.own) is, ap (λ (u : View). u.due) is, ap (λ (u : View). u.round) is))
