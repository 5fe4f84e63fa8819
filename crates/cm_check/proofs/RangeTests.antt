-- Tests of the numbers of a range.
use Rattle.std.proofs.Common.{◌≡◌, ℕ, ◌+◌, ◌<◌, ◌||◌, Bool, true, false, List, [], ◌∷◌, ◌++◌, refl, ap, sym, ◌∙◌, arith, zero, suc, inl, inr}
use Rattle.std.specs.List.{list_any, range_with_len}
use Rattle.std.proofs.lemmas.Bool.{cases_Bool}
use Rattle.std.proofs.lemmas.List.Folds.{list_any-append}
use Rattle.cm_plain.proofs.Each.{each_fails}
use Rattle.cm_plain.proofs.ListElements.{In, all_in, in_has, in_range, none_any, range_from, some_any}

-- one number more
more_from : (low count : ℕ) → range_with_len low (suc count) ≡ range_with_len low count ++ (low + count) ∷ []
more_from low zero = ap (λ (n : ℕ). n ∷ []) (omega arith)
more_from low (suc count) = let e : low + 1 + count ≡ low + suc count = omega arith in ap (λ (xs : List ℕ). low ∷ xs) (more_from (low + 1) count ∙ ap (λ (n : ℕ). range_with_len (low + 1) count ++ n ∷ []) e)

pub range_more : (count : ℕ) → range_with_len 0 (count + 1) ≡ range_with_len 0 count ++ count ∷ []
range_more count = let e : count + 1 ≡ suc count = omega arith in let f : 0 + count ≡ count = omega arith in ap (range_with_len 0) e ∙ (more_from 0 count ∙ ap (λ (n : ℕ). range_with_len 0 count ++ n ∷ []) f)

-- an element passes
pub any_some : {X : Type 0} (test : X → Bool) (xs : List X) (x : X) → In x xs → test x ≡ true → list_any test xs ≡ true
any_some test xs x i passes = elim (cases_Bool (list_any test xs)) [
  | inl yes' ↦ yes'
  | inr none ↦ absurd (clash (test x) passes (in_has (λ y. test y ≡ false) xs x (each_fails test xs none) i))
]
  where
    clash : (b : Bool) → b ≡ true → b ≡ false → ⊥
    clash b one other = cc (sym one ∙ other)

-- none does
pub any_none : {X : Type 0} (test : X → Bool) (xs : List X) → ((x : X) → In x xs → test x ≡ false) → list_any test xs ≡ false
any_none test xs fails = none_any test xs (all_in (λ x. test x ≡ false) xs fails)

pub fails_in : {X : Type 0} (test : X → Bool) (xs : List X) (x : X) → list_any test xs ≡ false → In x xs → test x ≡ false
fails_in test xs x none i = in_has (λ y. test y ≡ false) xs x (each_fails test xs none) i

-- the same of numbers below a count
pub below_some : (test : ℕ → Bool) (count at : ℕ) → at < count → test at ≡ true → list_any test (range_with_len 0 count) ≡ true
below_some test count at below passes = any_some test (range_with_len 0 count) at (in_range 0 count at (omega arith) (omega arith)) passes

pub below_none : (test : ℕ → Bool) (count : ℕ) → ((at : ℕ) → at < count → test at ≡ false) → list_any test (range_with_len 0 count) ≡ false
below_none test count fails = any_none test (range_with_len 0 count) (λ at i. fails at (omega (arith, (range_from 0 count at i).1)))

pub below_fails : (test : ℕ → Bool) (count at : ℕ) → list_any test (range_with_len 0 count) ≡ false → at < count → test at ≡ false
below_fails test count at none below = fails_in test (range_with_len 0 count) at none (in_range 0 count at (omega arith) (omega arith))

pub below_found : (test : ℕ → Bool) (count : ℕ) → list_any test (range_with_len 0 count) ≡ true → (at : ℕ) × (at < count) × (test at ≡ true)
below_found test count e = let found = some_any test (range_with_len 0 count) e in (found.0, omega (arith, (range_from 0 count found.0 found.1).1), found.2)

pub below_more : (test : ℕ → Bool) (count : ℕ) → list_any test (range_with_len 0 (count + 1)) ≡ (list_any test (range_with_len 0 count) || test count)
below_more test count = ap (list_any test) (range_more count) ∙ (list_any-append test (range_with_len 0 count) (count ∷ []) ∙ ap (λ b. list_any test (range_with_len 0 count) || b) (or_false (test count)))
  where
    or_false : (b : Bool) → (b || false) ≡ b
    or_false true = refl
    or_false false = refl
