-- What holds of each element of a list, and of each element with each later one, by recursion on the list.
use Rattle.std.proofs.Common.{◌≡◌, ℕ, ◌<◌, Bool, true, false, List, [], ◌∷◌, ◌++◌, length, filter, find, get_or, Some, refl, sym, subst, arith, zero, suc, inl, inr}
use Rattle.std.specs.List.{AllByRecursion, AllPairs, list_any}
use Rattle.std.proofs.lemmas.List.Elements.{All-from_recursion, recursion_from_All}
use Rattle.std.proofs.lemmas.Bool.{cases_Bool}
use Rattle.std.proofs.lemmas.Option.{same_Some}

-- each earlier one is so related to each later one
abbrev pub Pairs : {X : Type 0} → (X → X → Type 0) → List X → Type 0
Pairs R [] = Unit {0}
Pairs R (x ∷ xs) = AllByRecursion (R x) xs × Pairs R xs

-- what holds of each two by their places holds by recursion
pub pairs_from_all : {X : Type 0} (R : X → X → Type 0) (xs : List X) → AllPairs R xs → Pairs R xs
pairs_from_all R [] h = tt
pairs_from_all R (x ∷ xs) h =
    (recursion_from_All (R x) xs (λ k d below. h 0 (suc k) d (omega arith) (omega arith)), pairs_from_all R xs (λ i j d before below. h (suc i) (suc j) d (omega arith) (omega arith)))

-- two elements of a list with a first one more, by their places
pair_at : {X : Type 0} (R : X → X → Type 0) (x : X) (xs : List X) → AllByRecursion (R x) xs → AllPairs R xs
    → (i j : ℕ) (d : X) → i < j → j < length (x ∷ xs) → R (get_or (x ∷ xs) i d) (get_or (x ∷ xs) j d)
pair_at R x xs first later i zero d before below = absurd (omega arith)
pair_at R x xs first later zero (suc j) d before below = All-from_recursion (R x) xs first j d (omega arith)
pair_at R x xs first later (suc i) (suc j) d before below = later i j d (omega arith) (omega arith)

-- and back
pub all_from_pairs : {X : Type 0} (R : X → X → Type 0) (xs : List X) → Pairs R xs → AllPairs R xs
all_from_pairs R [] h = λ i j d before below. absurd (omega arith)
all_from_pairs R (x ∷ xs) h = pair_at R x xs h.0 (all_from_pairs R xs h.1)

-- what holds of each holds of those that a test keeps, where the test's answer may be used
pub each_kept : {X : Type 0} (P Q : X → Type 0) (test : X → Bool) → ((x : X) → P x → test x ≡ true → Q x)
    → (xs : List X) → AllByRecursion P xs → AllByRecursion Q (filter test xs)
each_kept P Q test gives [] h = tt
each_kept P Q test gives (x ∷ xs) h = elim (cases_Bool (test x)) [
  | inl passes ↦ rw passes (gives x h.0 passes, each_kept P Q test gives xs h.1)
  | inr fails ↦ rw fails (each_kept P Q test gives xs h.1)
]

-- what holds of each holds of those that a test keeps
pub each_filter : {X : Type 0} (P : X → Type 0) (test : X → Bool) (xs : List X) → AllByRecursion P xs → AllByRecursion P (filter test xs)
each_filter P test = each_kept P P test (λ x h e. h)

-- what follows from what holds of each holds of each
pub each_weaker : {X : Type 0} (P Q : X → Type 0) → ((x : X) → P x → Q x) → (xs : List X) → AllByRecursion P xs → AllByRecursion Q xs
each_weaker P Q gives [] h = tt
each_weaker P Q gives (x ∷ xs) h = (gives x h.0, each_weaker P Q gives xs h.1)

-- what follows from two things that hold of each holds of each
pub each_both : {X : Type 0} (P Q S : X → Type 0) → ((x : X) → P x → Q x → S x) → (xs : List X) → AllByRecursion P xs → AllByRecursion Q xs → AllByRecursion S xs
each_both P Q S gives [] h k = tt
each_both P Q S gives (x ∷ xs) h k = (gives x h.0 k.0, each_both P Q S gives xs h.1 k.1)

-- what holds of each of two lists holds of each of both together
pub each_append : {X : Type 0} (P : X → Type 0) (xs ys : List X) → AllByRecursion P xs → AllByRecursion P ys → AllByRecursion P (xs ++ ys)
each_append P [] ys h k = k
each_append P (x ∷ xs) ys h k = (h.0, each_append P xs ys h.1 k)

-- two that a test keeps are related as before
pub pairs_kept : {X : Type 0} (R : X → X → Type 0) (test : X → Bool) (xs : List X) → Pairs R xs → Pairs R (filter test xs)
pairs_kept R test [] h = tt
pairs_kept R test (x ∷ xs) h = elim (cases_Bool (test x)) [
  | inl passes ↦ rw passes (each_filter (R x) test xs h.0, pairs_kept R test xs h.1)
  | inr fails ↦ rw fails (pairs_kept R test xs h.1)
]

-- two lists together, where each of the first is so related to each of the second
pub pairs_append : {X : Type 0} (R : X → X → Type 0) (xs ys : List X) → Pairs R xs → Pairs R ys → AllByRecursion (λ x. AllByRecursion (R x) ys) xs → Pairs R (xs ++ ys)
pairs_append R [] ys h k across = k
pairs_append R (x ∷ xs) ys h k across = (each_append (R x) xs ys h.0 across.0, pairs_append R xs ys h.1 k across.1)

-- no element passes a test
pub each_fails : {X : Type 0} (test : X → Bool) (xs : List X) → list_any test xs ≡ false → AllByRecursion (λ x. test x ≡ false) xs
each_fails test [] e = tt
each_fails test (x ∷ xs) e = elim (cases_Bool (test x)) [
  | inl passes ↦ let h = rw passes at e in cc h
  | inr fails ↦ (fails, each_fails test xs (rw fails at e))
]

-- a first element that passes is what was found
pub found_first : {X : Type 0} (test : X → Bool) (x : X) (xs : List X) (found : X) → test x ≡ true → find test (x ∷ xs) ≡ Some found → x ≡ found
found_first test x xs found passes e = same_Some x found (rw passes at e)

-- what was found passes
pub found_passes : {X : Type 0} (test : X → Bool) (xs : List X) (x : X) → find test xs ≡ Some x → test x ≡ true
found_passes test [] x e = cc e
found_passes test (y ∷ xs) x e = elim (cases_Bool (test y)) [
  | inl passes ↦ subst (λ z. test z ≡ true) (found_first test y xs x passes e) passes
  | inr fails ↦ found_passes test xs x (rw fails at e)
]

-- what holds of each element holds of the one that was found
pub found_has : {X : Type 0} (P : X → Type 0) (test : X → Bool) (xs : List X) (x : X) → AllByRecursion P xs → find test xs ≡ Some x → P x
found_has P test [] x h e = cc e
found_has P test (y ∷ xs) x h e = elim (cases_Bool (test y)) [
  | inl passes ↦ subst P (found_first test y xs x passes e) h.0
  | inr fails ↦ found_has P test xs x h.1 (rw fails at e)
]

-- each of one list is so related to each of another
abbrev pub Across : {X : Type 0} → (X → X → Type 0) → List X → List X → Type 0
Across R xs ys = AllByRecursion (λ x. AllByRecursion (R x) ys) xs

-- the same of equal lists
across_as : {X : Type 0} (R : X → X → Type 0) (xs xs' ys ys' : List X) → xs ≡ xs' → ys ≡ ys' → Across R xs' ys' → Across R xs ys
across_as {X} R xs xs' ys ys' e f h =
    subst (λ (zs : List X). Across R zs ys) (sym e) (subst (λ (zs : List X). Across R xs' zs) (sym f) h)

-- those that pass one test against those that pass another, which excludes it
pub across_tests : {X : Type 0} (R : X → X → Type 0) (symmetric : (x y : X) → R x y → R y x) (test other : X → Bool) (excludes : (x : X) → test x ≡ true → other x ≡ false)
    → (xs : List X) → Pairs R xs → Across R (filter test xs) (filter other xs)
across_tests R symmetric test other excludes [] h = tt
across_tests R symmetric test other excludes (x ∷ xs) h =
    let later = across_tests R symmetric test other excludes xs h.1 in
    elim (cases_Bool (test x)) [
      | inl passes ↦
          across_as R (filter test (x ∷ xs)) (x ∷ filter test xs) (filter other (x ∷ xs)) (filter other xs) (rw passes refl) (rw (excludes x passes) refl)
          (each_filter (R x) other xs h.0, later)
      | inr fails ↦ elim (cases_Bool (other x)) [
        | inl taken ↦
            across_as R (filter test (x ∷ xs)) (filter test xs) (filter other (x ∷ xs)) (x ∷ filter other xs) (rw fails refl) (rw taken refl)
            (each_both (λ y. R x y) (λ y. AllByRecursion (R y) (filter other xs)) (λ y. AllByRecursion (R y) (x ∷ filter other xs))
            (λ y r rest. (symmetric x y r, rest)) (filter test xs) (each_filter (R x) test xs h.0) later)
        | inr left ↦
            across_as R (filter test (x ∷ xs)) (filter test xs) (filter other (x ∷ xs)) (filter other xs) (rw fails refl) (rw left refl) later
      ]
    ]

-- what follows from a relation of each two holds of each two
pub pairs_weaker : {X : Type 0} (R S : X → X → Type 0) → ((x y : X) → R x y → S x y) → (xs : List X) → Pairs R xs → Pairs S xs
pairs_weaker R S gives [] h = tt
pairs_weaker R S gives (x ∷ xs) h = (each_weaker (R x) (S x) (gives x) xs h.0, pairs_weaker R S gives xs h.1)
