-- What is left of a segment at the end.
use Rattle.std.proofs.Common.{◌≡◌, ◌⊎◌, ℕ, zero, suc, ◌<◌, ◌≤◌, List, [], ◌∷◌, get_or, All, Any, Option, Some, None, inl, inr, refl, ap, ◌∙◌, arith, sum_by}
use Rattle.std.proofs.lemmas.List.Elements.{All-cons, All-head, All-tail}
use Rattle.std.proofs.lemmas.List.Sums.{sum_by-cons}
use Rattle.cm_plain.specs.Lawful.{Lawful, LawfulApart, Resting}
use Rattle.cm_plain.specs.States.{State}
use Rattle.cm_geo.specs.declared.geo.Geo.{Geo}
use Rattle.cm_lock.specs.declared.view.ChangeCopy.{ChangeCopy}
use Rattle.cm_lock.specs.declared.view.HeldLevel.{HeldLevel}
use Rattle.cm_lock.specs.declared.view.Key.{Key}
use Rattle.cm_lock.specs.declared.view.Level.{Level}
use Rattle.cm_lock.specs.declared.view.Level.TheVariants.{Free, Read, Update, Write}
use Rattle.cm_lock.specs.declared.view.View.{View}
use Rattle.cm_lock.specs.ChangeLists.{last_state, number_of}
use Rattle.cm_lock.specs.Levels.{plans, plans_in, reads, reads_in, updates, updates_in, writes, writes_in}
use Rattle.cm_lock.specs.Rule.{KnowsItsWords, KnowsWords}
use Rattle.cm_lock.specs.Tables.{Closes}
use Rattle.cm_laws.specs.Laws.{LeavesNothing, LeavesWords, TearsBy}

pub sum_one : {X : Type 0} (f : X → ℕ) (x : X) → sum_by f (x ∷ []) ≡ f x
sum_one f x = let c = sum_by-cons f x [] in omega arith

-- a list whose elements count nothing
sum_none : (f : HeldLevel → ℕ) (hs : List HeldLevel) → All (λ (h : HeldLevel). f h ≡ 0) hs → sum_by f hs ≡ 0
sum_none f [] all = refl
sum_none f (h ∷ hs) all =
    let c = sum_by-cons f h hs in let a = All-head (λ (x : HeldLevel). f x ≡ 0) h hs all in let r = sum_none f hs (All-tail (λ (x : HeldLevel). f x ≡ 0) h hs all) in omega arith

pub rests_apart : (geo : Geo) (segment : ℕ) (words : List ℕ) (state : State) → Resting geo segment words state → LawfulApart geo segment words state
unfolding Resting
rests_apart geo segment words state rests = rests

free_counts : (level : Level) → level ≡ Free → (reads level ≡ 0) × (updates level ≡ 0) × (writes level ≡ 0)
free_counts level is = rw is (refl, refl, refl)

is_writer : (level : Level) → 1 ≤ writes level → level ≡ Write
is_writer Free h = absurd (omega arith)
is_writer Read h = absurd (omega arith)
is_writer Update h = absurd (omega arith)
is_writer Write h = refl

planned_or_none : (p : Option ChangeCopy) → (plans p ≡ 0) ⊎ ((c : ChangeCopy) × (p ≡ Some c))
planned_or_none None = inl refl
planned_or_none (Some c) = inr (c, refl)

module _ (key : Key) (words : List ℕ) (state : State) where
  tears : (h : HeldLevel) (c : ChangeCopy) → h.plan ≡ Some c → KnowsWords key words state h → TearsBy key words state h
  tears h c is knows =
      let one : plans h.plan ≡ 1 = ap plans is in
      let most = knows.writer in
      let under = knows.planned c is in
      record { change = c; plan_is = is; writer = is_writer h.level (omega arith); planned = under.planned; torn = under.torn }

  first_of : (h : HeldLevel) (hs : List HeldLevel) → TearsBy key words state h → Any (TearsBy key words state) (h ∷ hs)
  first_of h hs t = (0, h, omega arith, refl, t)

  later_of : (h : HeldLevel) (hs : List HeldLevel) → Any (TearsBy key words state) hs → Any (TearsBy key words state) (h ∷ hs)
  later_of h hs (k, x, inside, is, t) = (suc k, x, omega arith, is, t)

  torn_among : (hs : List HeldLevel) → All (KnowsWords key words state) hs → 0 < sum_by (λ (h : HeldLevel). plans h.plan) hs → Any (TearsBy key words state) hs
  torn_among [] all some = absurd (omega arith)
  torn_among (h ∷ hs) all some = elim (planned_or_none h.plan) [
    | inl none ↦ (let c = sum_by-cons (λ (x : HeldLevel). plans x.plan) h hs in
        later_of h hs (torn_among hs (All-tail (KnowsWords key words state) h hs all) (omega arith)))
    | inr (c, is) ↦ first_of h hs (tears h c is (All-head (KnowsWords key words state) h hs all))
  ]

  -- a level plans no more than it writes
  few_plans : (hs : List HeldLevel) → All (KnowsWords key words state) hs → sum_by (λ (h : HeldLevel). plans h.plan) hs ≤ sum_by (λ (h : HeldLevel). writes h.level) hs
  few_plans [] all = omega arith
  few_plans (h ∷ hs) all =
      let c = sum_by-cons (λ (x : HeldLevel). plans x.plan) h hs in let d = sum_by-cons (λ (x : HeldLevel). writes x.level) h hs in
      let one = (All-head (KnowsWords key words state) h hs all).writer in
      let rest = few_plans hs (All-tail (KnowsWords key words state) h hs all) in omega arith

module _ (key : Key) (v : View) (words : List ℕ) (closes : Closes key v words) where
  knows_own : KnowsWords key words (last_state key.geo closes.list) v.own
  knows_own = (All-head (KnowsItsWords key words (last_state key.geo closes.list)) v [] closes.knows).own

  knows_all : All (KnowsWords key words (last_state key.geo closes.list)) (v.own ∷ v.inherited)
  knows_all = All-cons (KnowsWords key words (last_state key.geo closes.list)) v.own v.inherited knows_own (All-head (KnowsItsWords key words (last_state key.geo closes.list)) v [] closes.knows).inherited

  plans_all : sum_by (λ (h : HeldLevel). plans h.plan) (v.own ∷ v.inherited) ≡ plans_in v
  plans_all = sum_by-cons (λ (h : HeldLevel). plans h.plan) v.own v.inherited

  writes_all : sum_by (λ (h : HeldLevel). writes h.level) (v.own ∷ v.inherited) ≡ writes_in v
  writes_all = sum_by-cons (λ (h : HeldLevel). writes h.level) v.own v.inherited

  one_plan : plans_in v ≤ 1
  one_plan =
      let few = few_plans key words (last_state key.geo closes.list) (v.own ∷ v.inherited) knows_all in
      let p = plans_all in let w = writes_all in
      let most = closes.levels.at_most_one in
      let u = sum_one updates_in v in let s = sum_one writes_in v in
      omega arith

  pub ends_whole_or_torn : LeavesWords key words closes.list v
  ends_whole_or_torn = elim (zero_or_one (plans_in v) one_plan) [
    | inl none ↦ LeavesWords.whole
        (let n = closes.changes.change_number in let s = sum_one plans_in v in omega arith)
        (let n = closes.changes.within_limit in omega arith)
        (rests_apart key.geo key.segment words (last_state key.geo closes.list) (closes.rests (sum_one plans_in v ∙ none)))
    | inr one ↦ LeavesWords.torn
        (let n = closes.changes.change_number in let s = sum_one plans_in v in omega arith)
        (let n = closes.changes.within_limit in let s = sum_one plans_in v in omega arith)
        (torn_among key words (last_state key.geo closes.list) (v.own ∷ v.inherited) knows_all (let p = plans_all in omega arith))
  ]
    where
      zero_or_one : (n : ℕ) → n ≤ 1 → (n ≡ 0) ⊎ (n ≡ 1)
      zero_or_one zero h = inl refl
      zero_or_one (suc n) h = inr (omega arith)

  pub ends_lawful : LeavesNothing v → Lawful key.geo key.segment words (number_of closes.list) (last_state key.geo closes.list)
  ends_lawful nothing =
      let own = free_counts v.own.level nothing.own in
      let reads_none = sum_none (λ (h : HeldLevel). reads h.level) v.inherited (λ i h below. (free_counts (get_or v.inherited i h).level (nothing.inherited i h below)).0) in
      let updates_none = sum_none (λ (h : HeldLevel). updates h.level) v.inherited (λ i h below. (free_counts (get_or v.inherited i h).level (nothing.inherited i h below)).1) in
      let writes_none = sum_none (λ (h : HeldLevel). writes h.level) v.inherited (λ i h below. (free_counts (get_or v.inherited i h).level (nothing.inherited i h below)).2) in
      let reads_is : reads_in v ≡ 0 = let o = own.0 in omega arith in
      let updates_is : updates_in v ≡ 0 = let o = own.1 in omega arith in
      let writes_is : writes_in v ≡ 0 = let o = own.2 in omega arith in
      let few = few_plans key words (last_state key.geo closes.list) (v.own ∷ v.inherited) knows_all in
      let none : plans_in v ≡ 0 = let p = plans_all in let w = writes_all in omega arith in
      let r = sum_one reads_in v in let u = sum_one updates_in v in let w = sum_one writes_in v in let p = sum_one plans_in v in
      record {
        lock = let l = closes.levels.lock_word in omega arith;
        number_is = let n = closes.changes.change_number in omega arith;
        number_within_limit = let n = closes.changes.within_limit in omega arith;
        apart = rests_apart key.geo key.segment words (last_state key.geo closes.list) (closes.rests (p ∙ none));
      }
