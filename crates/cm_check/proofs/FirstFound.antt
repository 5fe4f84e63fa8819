-- The first element of a list that is made from others: by a test, by a function of each, or by both.
use Rattle.std.proofs.Common.{◌≡◌, ◌≢◌, ℕ, ◌+◌, ◌<◌, ◌≤◌, ◌==◌, not, Bool, true, false, List, [], ◌∷◌, ◌++◌, filter, map, length, get_or, refl, ap, sym, subst, ◌∙◌, arith, zero, suc, inl, inr}
use Rattle.std.specs.List.{flat_map, range_with_len}
use Rattle.std.proofs.lemmas.Bool.{cases_Bool, cases_eq, cases_lt}
use Rattle.cm_plain.proofs.Each.{each_kept}
use Rattle.cm_plain.proofs.ListElements.{In, all_in, in_has, in_kept_from, range_from}
use Rattle.std.proofs.lemmas.List.FromFn.{get_or-range_with_len, length-range_with_len}
use Rattle.cm_plain.specs.Slots.{word_at}
use Rattle.cm_check.specs.Findings.{Begins}
use Rattle.cm_check.specs.HeadLaws.{where_nonzero}
use Rattle.std.proofs.lemmas.Bool.Decides.{nat_tests}

-- ---- lists that are empty

pub append_none : {X : Type 0} (xs ys : List X) → xs ++ ys ≡ [] → (xs ≡ []) × (ys ≡ [])
append_none [] ys e = (refl, e)
append_none (x ∷ xs) ys e = cc e

-- no element passes a test
pub filter_none : {X : Type 0} (test : X → Bool) (xs : List X) → ((x : X) → In x xs → test x ≡ false) → filter test xs ≡ []
filter_none test [] fails = refl
filter_none test (x ∷ xs) fails = rw (fails x (inl refl)) (filter_none test xs (λ y i. fails y (inr i)))

pub none_passes : {X : Type 0} (test : X → Bool) (xs : List X) (x : X) → filter test xs ≡ [] → In x xs → test x ≡ false
none_passes test [] x e i = absurd i
none_passes {X} test (y ∷ xs) x e i = elim (cases_Bool (test y)) [
  | inl passes ↦ (let clash : y ∷ filter test xs ≡ [] = rw passes at e in cc clash)
  | inr fails ↦ at i fails (λ j. none_passes test xs x (rw fails at e) j)
]
  where
    at : In x (y ∷ xs) → test y ≡ false → (In x xs → test x ≡ false) → test x ≡ false
    at (inl same) fails rest = ap test same ∙ fails
    at (inr j) fails rest = rest j

-- no element gives any
pub joined_none : {X Y : Type 0} (f : X → List Y) (xs : List X) → ((x : X) → In x xs → f x ≡ []) → flat_map f xs ≡ []
joined_none f [] none = refl
joined_none f (x ∷ xs) none = rw (none x (inl refl)) (joined_none f xs (λ y i. none y (inr i)))

pub none_joined : {X Y : Type 0} (f : X → List Y) (xs : List X) (x : X) → flat_map f xs ≡ [] → In x xs → f x ≡ []
none_joined f [] x e i = absurd i
none_joined f (y ∷ xs) x e (inl same) = ap f same ∙ (append_none (f y) (flat_map f xs) e).0
none_joined f (y ∷ xs) x e (inr i) = none_joined f xs x (append_none (f y) (flat_map f xs) e).1 i

pub mapped_none : {X Y : Type 0} (h : X → Y) (xs : List X) → map h xs ≡ [] → xs ≡ []
mapped_none h [] e = refl
mapped_none h (x ∷ xs) e = cc e

-- an element that a test kept passes
pub passes : {X : Type 0} (test : X → Bool) (xs : List X) (x : X) → In x (filter test xs) → test x ≡ true
passes test xs x i = in_has (λ x. test x ≡ true) (filter test xs) x (each_kept (λ x. Unit {0}) (λ x. test x ≡ true) test (λ x u e. e) xs (all_in (λ x. Unit {0}) xs (λ x j. tt))) i

-- ---- first elements

-- of one list before another
pub begins_left : {X : Type 0} (xs ys : List X) (x : X) → Begins xs x → Begins (xs ++ ys) x
begins_left xs ys x begins = (begins.0 ++ ys, ap (λ zs. zs ++ ys) begins.1)

pub begins_right : {X : Type 0} (xs ys : List X) (x : X) → xs ≡ [] → Begins ys x → Begins (xs ++ ys) x
begins_right xs ys x none begins = (begins.0, ap (λ zs. zs ++ ys) none ∙ begins.1)

-- of the numbers of a range that pass a test
pub first_passing : {Y : Type 0} (h : ℕ → Y) (test : ℕ → Bool) (low count at : ℕ) → ((number : ℕ) → low ≤ number → number < at → test number ≡ false)
    → low ≤ at → at < low + count → test at ≡ true → Begins (map h (filter test (range_with_len low count))) (h at)
first_passing h test low zero at before from below passes = absurd (omega arith)
first_passing h test low (suc count) at before from below passes = elim (cases_Bool (test low)) [
  | inl here ↦ (let same : low ≡ at = first low at here (λ less. before low (omega arith) less) from in rw here (subst (λ (k : ℕ). Begins (h low ∷ map h (filter test (range_with_len (low + 1) count))) (h k)) same (map h (filter test (range_with_len (low + 1) count)), refl)))
  | inr fails ↦ (let more : low + 1 ≤ at = beyond low at fails passes from in rw fails (first_passing h test (low + 1) count at (λ number l b. before number (omega arith) b) more (omega arith) passes))
]
  where
    both : (b : Bool) → b ≡ true → b ≡ false → ⊥
    both b one other = cc (sym one ∙ other)

    first : (low at : ℕ) → test low ≡ true → (low < at → test low ≡ false) → low ≤ at → low ≡ at
    first low at here fails from = elim (cases_lt low at) [
      | inl less ↦ absurd (both (test low) here (fails less))
      | inr not_less ↦ omega arith
    ]

    beyond : (low at : ℕ) → test low ≡ false → test at ≡ true → low ≤ at → low + 1 ≤ at
    beyond low at fails passes from = elim (cases_eq low at) [
      | inl same ↦ absurd (both (test at) passes (ap test (sym same) ∙ fails))
      | inr differ ↦ omega arith
    ]

-- of what the elements of a list give
pub first_joined : {X Y : Type 0} (f : X → List Y) (xs : List X) (at : ℕ) (d : X) (y : Y) → ((k : ℕ) → k < at → f (get_or xs k d) ≡ []) → at < length xs
    → Begins (f (get_or xs at d)) y → Begins (flat_map f xs) y
first_joined f [] at d y before below begins = absurd (omega arith)
first_joined f (x ∷ xs) zero d y before below begins = begins_left (f x) (flat_map f xs) y begins
first_joined f (x ∷ xs) (suc at) d y before below begins =
    begins_right (f x) (flat_map f xs) y (before 0 (omega arith)) (first_joined f xs at d y (λ k h. before (suc k) (omega arith)) (omega arith) begins)

-- of what the numbers of a range that pass a test give
pub first_given : {Y : Type 0} (f : ℕ → List Y) (test : ℕ → Bool) (low count at : ℕ) (y : Y) → ((number : ℕ) → low ≤ number → number < at → test number ≡ true → f number ≡ [])
    → low ≤ at → at < low + count → test at ≡ true → Begins (f at) y → Begins (flat_map f (filter test (range_with_len low count))) y
first_given f test low zero at y before from below passes begins = absurd (omega arith)
first_given {Y} f test low (suc count) at y before from below passes begins = elim (cases_eq low at) [
  | inl same ↦ (let here : test low ≡ true = ap test same ∙ passes in rw here (begins_left (f low) (flat_map f (filter test (range_with_len (low + 1) count))) y (subst (λ (k : ℕ). Begins (f k) y) (sym same) begins)))
  | inr differ ↦
      (let later = first_given f test (low + 1) count at y (λ number l b e. before number (omega arith) b e) (omega arith) (omega arith) passes begins in
      elim (cases_Bool (test low)) [
        | inl here ↦ rw here (begins_right (f low) (flat_map f (filter test (range_with_len (low + 1) count))) y (before low (omega arith) (omega arith) here) later)
        | inr fails ↦ rw fails later
      ])
]

-- ---- what is asked of the numbers below a count, one after the other

-- of those that pass a test: none gives any
pub asked_all : {Y : Type 0} (f : ℕ → List Y) (test : ℕ → Bool) (count at : ℕ) → ((number : ℕ) → number < at → test number ≡ true → f number ≡ []) → count ≤ at → flat_map f (filter test (range_with_len 0 count)) ≡ []
asked_all f test count at none above =
    joined_none f (filter test (range_with_len 0 count)) (λ number i. none number (omega (arith, (range_from 0 count number (in_kept_from test (range_with_len 0 count) number i)).1)) (passes test (range_with_len 0 count) number i))

-- this one is the first that does
pub asked_first : {Y : Type 0} (f : ℕ → List Y) (test : ℕ → Bool) (count at : ℕ) (y : Y) → ((number : ℕ) → number < at → test number ≡ true → f number ≡ [])
    → at < count → test at ≡ true → Begins (f at) y → Begins (flat_map f (filter test (range_with_len 0 count))) y
asked_first f test count at y none below passes begins = first_given f test 0 count at y (λ number from l e. none number l e) (omega arith) (omega arith) passes begins

-- of those of a test alone: none passes
pub tested_all : {Y : Type 0} (h : ℕ → Y) (test : ℕ → Bool) (count at : ℕ) → ((number : ℕ) → number < at → test number ≡ false) → count ≤ at → map h (filter test (range_with_len 0 count)) ≡ []
tested_all h test count at fails above =
    ap (map h) (filter_none test (range_with_len 0 count) (λ number i. fails number (omega (arith, (range_from 0 count number i).1))))

-- this one is the first that does
pub tested_first : {Y : Type 0} (h : ℕ → Y) (test : ℕ → Bool) (count at : ℕ) → ((number : ℕ) → number < at → test number ≡ false) → at < count → test at ≡ true → Begins (map h (filter test (range_with_len 0 count))) (h at)
tested_first h test count at fails below passes = first_passing h test 0 count at (λ number from l. fails number l) (omega arith) (omega arith) passes

-- of the elements of a list: none gives any
pub joined_all : {X Y : Type 0} (f : X → List Y) (xs : List X) (at : ℕ) (d : X) → ((k : ℕ) → k < at → f (get_or xs k d) ≡ []) → length xs ≤ at → flat_map f xs ≡ []
joined_all f [] at d none above = refl
joined_all f (x ∷ xs) zero d none above = absurd (omega arith)
joined_all f (x ∷ xs) (suc at) d none above = rw (none 0 (omega arith)) (joined_all f xs at d (λ k h. none (suc k) (omega arith)) (omega arith))

-- ---- words that aren't 0

map_same : (xs : List ℕ) → map (λ x. x) xs ≡ xs
map_same [] = refl
map_same (x ∷ xs) = ap (λ ys. x ∷ ys) (map_same xs)

pub none_nonzero : (words : List ℕ) (from count at : ℕ) → ((other : ℕ) → from ≤ other → other < at → word_at words other ≡ 0) → from + count ≤ at → where_nonzero words (range_with_len from count) ≡ []
none_nonzero words from count at zeros above =
    filter_none (λ at. not (word_at words at == 0)) (range_with_len from count) (λ other i. (let inside = range_from from count other i in is_zero (word_at words other) (zeros other inside.0 (omega (arith, inside.1)))))
  where
    is_zero : (word : ℕ) → word ≡ 0 → not (word == 0) ≡ false
    is_zero word e = rw e refl

pub first_nonzero : (words : List ℕ) (from count at : ℕ) → ((other : ℕ) → from ≤ other → other < at → word_at words other ≡ 0) → from ≤ at → at < from + count → word_at words at ≢ 0 → Begins (where_nonzero words (range_with_len from count)) at
first_nonzero words from count at zeros above below some =
    unmapped (filter (λ at. not (word_at words at == 0)) (range_with_len from count)) at
    (first_passing (λ at. at) (λ at. not (word_at words at == 0)) from count at (λ other f l. is_zero (word_at words other) (zeros other f l)) above below (is_some (word_at words at) some))
  where
    is_zero : (word : ℕ) → word ≡ 0 → not (word == 0) ≡ false
    is_zero word e = rw e refl

    is_some : (word : ℕ) → word ≢ 0 → not (word == 0) ≡ true
    is_some word ne = grind (arith, nat_tests)

    unmapped : (xs : List ℕ) (x : ℕ) → Begins (map (λ at. at) xs) x → Begins xs x
    unmapped xs x begins = (begins.0, sym (map_same xs) ∙ begins.1)

-- of all numbers below a count: none gives any
pub numbers_all : {Y : Type 0} (f : ℕ → List Y) (count at : ℕ) → ((number : ℕ) → number < at → f number ≡ []) → count ≤ at → flat_map f (range_with_len 0 count) ≡ []
numbers_all f count at none above = joined_none f (range_with_len 0 count) (λ number i. none number (omega (arith, (range_from 0 count number i).1)))

-- this one is the first that does
pub numbers_first : {Y : Type 0} (f : ℕ → List Y) (count at : ℕ) (y : Y) → ((number : ℕ) → number < at → f number ≡ []) → at < count → Begins (f at) y → Begins (flat_map f (range_with_len 0 count)) y
numbers_first {Y} f count at y none below begins =
    first_joined f (range_with_len 0 count) at 0 y (λ k h. ap f (number_at k (omega (arith, h, below))) ∙ none k h) (omega (arith, below, length-range_with_len 0 count)) (subst (λ (n : ℕ). Begins (f n) y) (sym (number_at at below)) begins)
  where
    number_at : (k : ℕ) → k < count → get_or (range_with_len 0 count) k 0 ≡ k
    number_at k h = get_or-range_with_len 0 count k 0 h ∙ omega arith
