-- What tries of a take do, one after the other.
use Rattle.std.proofs.Common.{◌≡◌, ◌≢◌, ℕ, zero, suc, ◌+◌, ◌<◌, ◌≤◌, ◌==◌, Bool, false, if◌then◌else◌, [], ◌∷◌, All, length, refl, sym, ap, ◌∙◌, subst, arith, inl, inr, ne_eqb}
use Rattle.std.proofs.lemmas.List.Elements.{All-cons, All-nil}
use Rattle.cm_lock.specs.declared.view.Level.{Level}
use Rattle.cm_lock.specs.declared.view.View.{View}
use Rattle.cm_lock.specs.declared.take.Tried.TheVariants.{Taken, Missed}
use Rattle.cm_lock.specs.Levels.{Permits}
use Rattle.cm_lock.specs.Takes.{AnswersTry, GetsLevel, HasFailed, HasFailedAll, HasTaken, HasTried, MakesLooks, last_found}
use Rattle.cm_lock.specs.Views.{after_look, after_miss, with_level}

-- nothing was tried yet
pub tried_none : (v : View) → HasTried 0 v v
tried_none v = record { view = refl; counts = record { looks = omega arith; within = omega arith; events = omega arith; exchanges = omega arith } }

looks_transitive : (m n : ℕ) (u v w : View) → MakesLooks m u v → MakesLooks n v w → MakesLooks (m + n) u w
looks_transitive m n u v w p q =
    let a = p.looks in let b = p.within in let c = p.events in let d = p.exchanges in
    let e = q.looks in let f = q.within in let g = q.events in let h = q.exchanges in record {
      looks = omega arith;
      within = omega arith;
      events = omega arith;
      exchanges = omega arith;
    }

-- more were allowed
looks_within : (m n : ℕ) (u v : View) → m ≤ n → MakesLooks m u v → MakesLooks n u v
looks_within m n u v more p = let b = p.within in record { looks = p.looks; within = omega arith; events = p.events; exchanges = p.exchanges }

pub tried_within : (m n : ℕ) (u v : View) → m ≤ n → HasTried m u v → HasTried n u v
tried_within m n u v more p = record { view = p.view; counts = looks_within m n u v more p.counts }

-- tries, and tries after them
pub tried_transitive : (m n : ℕ) (u v w : View) → HasTried m u v → HasTried n v w → HasTried (m + n) u w
tried_transitive m n u v w p q = record {
  view = q.view ∙ ap (λ (x : View). record x { tries = w.tries; looks = w.looks; events = w.events }) p.view;
  counts = looks_transitive m n u v w p.counts q.counts;
}

-- and then the level was taken
tried_then_taken : (to : Level) (m n most : ℕ) (u v w : View) → m + n ≤ most → HasTried m u v → GetsLevel to n v w → GetsLevel to most u w
tried_then_taken to m n most u v w more p q = record {
  view = q.view ∙ ap (λ (x : View). record x { tries = w.tries; looks = w.looks; events = w.events; own = record x.own { level = to } }) p.view;
  counts = looks_within (m + n) most u w more (looks_transitive m n u v w p.counts q.counts);
  looked = (let a = p.counts.looks in let b = q.looked in omega arith);
  exchanged = (let a = p.counts.events in let b = q.exchanged in omega arith);
}

-- a look alone
pub tried_look : (is_first : Bool) (v w : View) (n : ℕ) → w ≡ after_look is_first v n → HasTried 1 v w
tried_look is_first v w n e = subst (HasTried 1 v) (sym e) (record { view = refl; counts = one_look v (after_look is_first v n) refl refl })
  where
    one_look : (v w : View) → w.looks ≡ v.looks + 1 → w.events ≡ v.events + 1 → MakesLooks 1 v w
    one_look v w l e = record { looks = omega arith; within = omega arith; events = omega arith; exchanges = omega arith }

-- a look at a word that doesn't permit the level
pub try_forbidden : (from to : Level) (is_first : Bool) (v w : View) (n : ℕ) → w ≡ after_look is_first v n → ¬ (Permits from to n) → AnswersTry from to is_first v w (Missed n)
try_forbidden from to is_first v w n e forbids =
    subst (λ (z : View). AnswersTry from to is_first v z (Missed n)) (sym e)
    (record { view = refl; counts = record { looks = omega arith; within = omega arith; events = omega arith; exchanges = omega arith } }, refl, (record { looked = n; found = n }, refl, inl forbids, refl))

-- an exchange that found another word than the look
pub try_missed : (from to : Level) (is_first : Bool) (v u w : View) (word n : ℕ) → u ≡ after_look is_first v word → w ≡ after_miss u n → n ≢ word → AnswersTry from to is_first v w (Missed n)
try_missed from to is_first v u w word n e f ne =
    subst (λ (z : View). AnswersTry from to is_first v z (Missed n)) (sym (f ∙ ap (λ (z : View). after_miss z n) e))
    (record { view = refl; counts = record { looks = omega arith; within = omega arith; events = omega arith; exchanges = omega arith } }, refl, (record { looked = word; found = n }, refl, inr ne, refl))

-- an exchange that found the word of the look
pub try_taken : (from to : Level) (is_first : Bool) (v u w : View) (word : ℕ) → Permits from to word → u ≡ after_look is_first v word → w ≡ with_level to u → AnswersTry from to is_first v w Taken
try_taken from to is_first v u w word permits e f =
    subst (λ (z : View). AnswersTry from to is_first v z Taken) (sym (f ∙ ap (with_level to) e)) (
      record { view = refl; counts = record { looks = omega arith; within = omega arith; events = omega arith; exchanges = omega arith }; looked = omega arith; exchanged = omega arith },
      (record { looked = word; found = word }, permits, refl),
    )

-- so many tries were made, and all failed
pub record IsTrying (from to : Level) (i last : ℕ) (old now : View) : Type 0 where
  pub tried : HasTried i old now
  pub looks : now.looks ≡ old.looks + i
  pub made : 0 < i → length now.tries ≡ i
  pub failed : 0 < i → All (HasFailed from to) now.tries
  pub last_is : 0 < i → last_found now.tries ≡ last

pub trying_none : (from to : Level) (last : ℕ) (v : View) → IsTrying from to 0 last v v
trying_none from to last v = record { tried = tried_none v; looks = omega arith; made = λ h. absurd (omega arith); failed = λ h. absurd (omega arith); last_is = λ h. absurd (omega arith) }

later : (i : ℕ) → (suc i == 0) ≡ false
later i = ne_eqb (suc i) 0 (λ e. omega arith)

-- the next one gave the level
pub trying_taken : (from to : Level) (i last most : ℕ) (u v w : View) → i < most → IsTrying from to i last u v → AnswersTry from to (i == 0) v w Taken → HasTaken from to most u w
trying_taken from to zero last most u v w more k a =
    let is = a.1.2 in let l = k.looks in let m = a.0.looked in let n = a.0.counts.within in record {
      gets = tried_then_taken to 0 1 most u v w (omega arith) k.tried a.0;
      made = (let e : length w.tries ≡ 1 = ap length is in omega arith);
      permits = subst (Permits from to) (sym (ap last_found is)) a.1.1;
    }
trying_taken from to (suc i) last most u v w more k a =
    let t = a.1.0 in let is : w.tries ≡ t ∷ v.tries = a.1.2 ∙ ap (λ (b : Bool). t ∷ (if b then [] else v.tries)) (later i) in
    let l = k.looks in let m = a.0.looked in let n = a.0.counts.within in let c = k.made (omega arith) in record {
      gets = tried_then_taken to (suc i) 1 most u v w (omega arith) k.tried a.0;
      made = (let e : length w.tries ≡ suc (length v.tries) = ap length is in omega arith);
      permits = subst (Permits from to) (sym (ap last_found is)) a.1.1;
    }

-- one more failed
pub trying_more : (from to : Level) (i last n : ℕ) (u v w : View) → IsTrying from to i last u v → AnswersTry from to (i == 0) v w (Missed n) → IsTrying from to (i + 1) n u w
trying_more from to zero last n u v w k a =
    let t = a.2.0 in let is = a.2.3 in let l = k.looks in let m = a.1 in record {
      tried = tried_transitive 0 1 u v w k.tried a.0;
      looks = omega arith;
      made = λ _. ap length is;
      failed = λ _. subst (All (HasFailed from to)) (sym is) (All-cons (HasFailed from to) t [] a.2.2 (All-nil (HasFailed from to)));
      last_is = λ _. ap last_found is ∙ a.2.1;
    }
trying_more from to (suc i) last n u v w k a =
    let t = a.2.0 in let is : w.tries ≡ t ∷ v.tries = a.2.3 ∙ ap (λ (b : Bool). t ∷ (if b then [] else v.tries)) (later i) in let l = k.looks in let m = a.1 in let c = k.made (omega arith) in record {
      tried = tried_transitive (suc i) 1 u v w k.tried a.0;
      looks = omega arith;
      made = λ _. (let e : length w.tries ≡ suc (length v.tries) = ap length is in omega arith);
      failed = λ _. subst (All (HasFailed from to)) (sym is) (All-cons (HasFailed from to) t v.tries a.2.2 (k.failed (omega arith)));
      last_is = λ _. ap last_found is ∙ a.2.1;
    }

-- all that were allowed
pub trying_all : (from to : Level) (tries last : ℕ) (old now : View) → 0 < tries → IsTrying from to tries last old now → HasFailedAll from to tries last old now
trying_all from to tries last old now some k = record { tried = k.tried; made = k.made some; looks = k.looks; failed = k.failed some; last_is = k.last_is some }
