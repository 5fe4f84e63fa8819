-- What stands beside a writer, and where no plan is under way.
use Rattle.std.proofs.Common.{◌≡◌, ◌≢◌, ℕ, ◌≤◌, List, [], All, Some, None, sum_by, get_or, refl, ap, ◌∙◌, subst, arith}
use mathlib.Core.Option.{some}
use mathlib.Core.Logic.{dite}
use native.Mathlib.Decide.{ℕ_discrete}
use lib.ListN.{get_elem?}
use Rattle.cm_plain.specs.States.{State}
use Rattle.cm_words.specs.Memory.{Note}
use Rattle.cm_words.proofs.ListSums.{all_at, at_get, sum_gap, sum_le, sum_part, sum_two}
use Rattle.cm_lock.specs.declared.view.Level.{Level}
use Rattle.cm_lock.specs.declared.view.Level.TheVariants.{Free, Read, Update, Write}
use Rattle.cm_lock.specs.declared.view.Key.{Key}
use Rattle.cm_lock.specs.declared.view.NotedWord.{NotedWord}
use Rattle.cm_lock.specs.declared.view.HeldLevel.{HeldLevel}
use Rattle.cm_lock.specs.declared.view.View.{View}
use Rattle.cm_lock.specs.Levels.{CountsLevels, plans, plans_in, reads, reads_in, updates, updates_in, writes, writes_in}
use Rattle.cm_lock.specs.Rule.{KnowsItsWords, KnowsWords}
use Rattle.cm_lock.specs.Views.{note_at}

-- a level that counts for none is Free
free_by : (l : Level) → reads l ≡ 0 → updates l ≡ 0 → writes l ≡ 0 → l ≡ Free
free_by Free a b c = refl
free_by Read a b c = absurd (omega arith)
free_by Update a b c = absurd (omega arith)
free_by Write a b c = absurd (omega arith)

-- without notes nothing is noted
pub unnoted : (notes : List NotedWord) (at : ℕ) (note : Note) → notes ≡ [] → note_at notes at ≡ Some note → ⊥
unnoted notes at note e n = none_at at note (subst (λ (ns : List NotedWord). note_at ns at ≡ Some note) e n)
  where
    none_at : (at : ℕ) (note : Note) → note_at [] at ≡ Some note → ⊥
    none_at at note m = grind arith

-- where no plan is under way, none is
pub no_plan : {A : Type 0} (c : A) → None ≡ Some c → ⊥
no_plan c e = cc

-- a level that is Free knows nothing, and that of any words
pub free_knows : (key : Key) (words words' : List ℕ) (state state' : State) (h : HeldLevel) → h.level ≡ Free → KnowsWords key words state h → KnowsWords key words' state' h
free_knows key words words' state state' h e k =
    let w : writes h.level ≡ 0 = ap writes e in let few = k.writer in record {
      noted = λ a note n. absurd (unnoted h.notes a note (k.free e) n);
      free = k.free;
      writer = k.writer;
      planned = λ c p. (let one : plans h.plan ≡ 1 = ap plans p in absurd (omega arith));
    }

module _ (key : Key) (words : List ℕ) (state : State) (views : List View) (levels : CountsLevels words views) (knows : All (KnowsItsWords key words state) views) where
  knows_at : (j : ℕ) (u : View) → get_elem? views j ≡ some u → KnowsItsWords key words state u
  knows_at j u at = all_at (KnowsItsWords key words state) views j u at knows

  -- a view has no more plans than it has levels of a writer
  few_plans : (j : ℕ) (u : View) → get_elem? views j ≡ some u → plans_in u ≤ writes_in u
  few_plans j u at =
      let k = knows_at j u at in let o = k.own.writer in
      let r = sum_le (λ (h : HeldLevel). plans h.plan) (λ (h : HeldLevel). writes h.level) u.inherited (λ i h there. (all_at (KnowsWords key words state) u.inherited i h there k.inherited).writer) in
      omega arith

  all_few : sum_by plans_in views ≤ sum_by writes_in views
  all_few = sum_le plans_in writes_in views few_plans

  -- without a writer there is no plan
  pub no_writer : sum_by writes_in views ≡ 0 → sum_by plans_in views ≡ 0
  no_writer e = let h = all_few in omega arith

  -- there is at most one plan
  pub one_plan : sum_by plans_in views ≤ 1
  one_plan = let h = all_few in let one = levels.at_most_one in omega arith

  module _ (id : ℕ) (v : View) (at : get_elem? views id ≡ some v) where
    module _ (writer : v.own.level ≡ Write) where
      writes_own : writes v.own.level ≡ 1
      writes_own = ap writes writer

      -- it is the one writer, and there are no other levels
      pub only_writer : (sum_by writes_in views ≡ 1) × (sum_by updates_in views ≡ 0) × (sum_by reads_in views ≡ 0)
      only_writer =
          let a = sum_part writes_in views id v at in let m = writes_own in let one = levels.at_most_one in
          let w : sum_by writes_in views ≡ 1 = omega arith in
          (w, omega arith, levels.no_reader (omega arith))

      -- so each other seat's level is Free
      other_free : (j : ℕ) (u : View) → j ≢ id → get_elem? views j ≡ some u → (writes_in u ≡ 0) × (updates_in u ≡ 0) × (reads_in u ≡ 0)
      other_free j u ne h =
          let all = only_writer in let a0 = all.0 in let a1 = all.1 in let a2 = all.2 in let m = writes_own in
          let a = sum_two writes_in views j id u v ne h at in
          let b = sum_part updates_in views j u h in
          let c = sum_part reads_in views j u h in
          (omega arith, omega arith, omega arith)

      -- levels that are free know what they knew, of any words
      all_free : (words' : List ℕ) (state' : State) (hs : List HeldLevel) → sum_by (λ (h : HeldLevel). writes h.level) hs ≡ 0 → sum_by (λ (h : HeldLevel). updates h.level) hs ≡ 0 → sum_by (λ (h : HeldLevel). reads h.level) hs ≡ 0
          → All (KnowsWords key words state) hs → All (KnowsWords key words' state') hs
      all_free words' state' hs a b c all i d less =
          let h : HeldLevel = get_or hs i d in let there = at_get hs i d less in
          let x = sum_part (λ (h : HeldLevel). writes h.level) hs i h there in
          let y = sum_part (λ (h : HeldLevel). updates h.level) hs i h there in
          let z = sum_part (λ (h : HeldLevel). reads h.level) hs i h there in
          free_knows key words words' state state' h (free_by h.level (omega arith) (omega arith) (omega arith)) (all i d less)

      -- beside a writer all other seats know what they knew, of any words
      pub others_know : (words' : List ℕ) (state' : State) (j : ℕ) (u : View) → j ≢ id → get_elem? views j ≡ some u → KnowsItsWords key words state u → KnowsItsWords key words' state' u
      others_know words' state' j u ne h k =
          let f = other_free j u ne h in let f0 = f.0 in let f1 = f.1 in let f2 = f.2 in record {
            own = free_knows key words words' state state' u.own (free_by u.own.level (omega arith) (omega arith) (omega arith)) k.own;
            inherited = all_free words' state' u.inherited (omega arith) (omega arith) (omega arith) k.inherited;
          }

      -- and so do the levels that the writer inherited
      pub inherited_know : (words' : List ℕ) (state' : State) → All (KnowsWords key words' state') v.inherited
      inherited_know words' state' =
          let all = only_writer in let a0 = all.0 in let a1 = all.1 in let a2 = all.2 in let m = writes_own in
          let a = sum_part writes_in views id v at in
          let b = sum_part updates_in views id v at in
          let c = sum_part reads_in views id v at in
          all_free words' state' v.inherited (omega arith) (omega arith) (omega arith) (knows_at id v at).inherited

      -- only this one's plan counts
      pub only_plan : sum_by plans_in views ≡ plans v.own.plan
      only_plan =
          let all = only_writer in let a0 = all.0 in let m = writes_own in
          let k = knows_at id v at in
          let r = sum_le (λ (h : HeldLevel). plans h.plan) (λ (h : HeldLevel). writes h.level) v.inherited (λ i h there. (all_at (KnowsWords key words state) v.inherited i h there k.inherited).writer) in
          let g = sum_gap plans_in writes_in views id v few_plans at in
          let part = sum_part plans_in views id v at in
          let some_left = sum_part writes_in views id v at in
          omega arith

    -- where a seat holds a level and has no plan, there is none
    pub held_no_plan : (l : Level) → v.own.level ≡ l → l ≢ Free → v.own.plan ≡ None → sum_by plans_in views ≡ 0
    held_no_plan Free is ne idle = absurd (ne refl)
    held_no_plan Read is ne idle =
        let a = sum_part reads_in views id v at in let e : reads v.own.level ≡ 1 = ap reads is in
        no_writer (dite (ℕ_discrete (sum_by writes_in views) 0) (λ z. z) (λ z. let q = levels.no_reader (omega arith) in absurd (omega arith)))
    held_no_plan Update is ne idle = let a = sum_part updates_in views id v at in let e : updates v.own.level ≡ 1 = ap updates is in let one = levels.at_most_one in no_writer (omega arith)
    held_no_plan Write is ne idle = only_plan is ∙ ap plans idle
