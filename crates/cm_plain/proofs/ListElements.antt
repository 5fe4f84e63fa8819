-- The elements of a list, by recursion on it, and those of a list that is made from others.
use Rattle.std.proofs.Common.{◌≡◌, ◌≢◌, ℕ, ◌+◌, ◌<◌, ◌≤◌, ◌⊎◌, Bool, true, false, List, [], ◌∷◌, ◌++◌, Contains, length, filter, get_or, Option, Some, None, refl, sym, subst, arith, zero, suc, inl, inr}
use Rattle.std.specs.List.{AllByRecursion, cons_option, filter_map, flat_map, list_any, range_with_len}
use Rattle.std.proofs.lemmas.Bool.{cases_Bool, cases_eq}
use Rattle.cm_plain.proofs.Each.{Pairs, pairs_append}

-- an element of a list, by recursion
abbrev pub In : {X : Type 0} → X → List X → Type 0
In x [] = ⊥
In x (y ∷ ys) = (x ≡ y) ⊎ In x ys

-- the elements by place are those
pub in_from : {X : Type 0} (xs : List X) (x : X) → Contains xs x → In x xs
in_from xs x c = at xs x c.0 c.1 c.2
  where
    at : {X : Type 0} (xs : List X) (x : X) (k : ℕ) → k < length xs → get_or xs k x ≡ x → In x xs
    at [] x k below e = absurd (omega arith)
    at (y ∷ ys) x zero below e = inl (sym e)
    at (y ∷ ys) x (suc k) below e = inr (at ys x k (omega arith) e)

-- and those are elements by place
pub in_to : {X : Type 0} (xs : List X) (x : X) → In x xs → Contains xs x
in_to [] x h = absurd h
in_to (y ∷ ys) x (inl e) = (0, omega arith, sym e)
in_to (y ∷ ys) x (inr h) = let c = in_to ys x h in (suc c.0, omega (arith, c.1), c.2)

-- what holds of each element holds of one
pub in_has : {X : Type 0} (P : X → Type 0) (xs : List X) (x : X) → AllByRecursion P xs → In x xs → P x
in_has P [] x h i = absurd i
in_has P (y ∷ ys) x h (inl e) = subst P (sym e) h.0
in_has P (y ∷ ys) x h (inr i) = in_has P ys x h.1 i

-- what a list has it has with one more in front
pub contains_more : {X : Type 0} (x y : X) (xs : List X) → Contains xs x → Contains (y ∷ xs) x
contains_more x y xs c = (suc c.0, omega (arith, c.1), c.2)

-- what holds of each element by its being one holds of each
pub all_in : {X : Type 0} (P : X → Type 0) (xs : List X) → ((x : X) → In x xs → P x) → AllByRecursion P xs
all_in P [] h = tt
all_in P (x ∷ xs) h = (h x (inl refl), all_in P xs (λ y i. h y (inr i)))

-- an element of those that a test kept is one of all
pub in_kept_from : {X : Type 0} (test : X → Bool) (xs : List X) (x : X) → In x (filter test xs) → In x xs
in_kept_from test [] x i = absurd i
in_kept_from test (y ∷ xs) x i = elim (cases_Bool (test y)) [
  | inl passes ↦ first (in_kept_from test xs x) (rw passes at i)
  | inr fails ↦ inr (in_kept_from test xs x (rw fails at i))
]
  where
    first : (In x (filter test xs) → In x xs) → In x (y ∷ filter test xs) → In x (y ∷ xs)
    first rest (inl e) = inl e
    first rest (inr j) = inr (rest j)

-- and one that passes is kept
pub in_kept_to : {X : Type 0} (test : X → Bool) (xs : List X) (x : X) → In x xs → test x ≡ true → In x (filter test xs)
in_kept_to test [] x i passes = absurd i
in_kept_to {X} test (y ∷ xs) x (inl e) passes = let here : test y ≡ true = subst (λ (z : X). test z ≡ true) e passes in rw here (inl e)
in_kept_to test (y ∷ xs) x (inr i) passes = elim (cases_Bool (test y)) [
  | inl here ↦ rw here (inr (in_kept_to test xs x i passes))
  | inr fails ↦ rw fails (in_kept_to test xs x i passes)
]

-- a test that none passes
pub none_any : {X : Type 0} (test : X → Bool) (xs : List X) → AllByRecursion (λ x. test x ≡ false) xs → list_any test xs ≡ false
none_any test [] h = refl
none_any test (x ∷ xs) h = rw (h.0, none_any test xs h.1) refl

-- an element that passes
pub some_any : {X : Type 0} (test : X → Bool) (xs : List X) → list_any test xs ≡ true → (x : X) × In x xs × (test x ≡ true)
some_any test [] e = cc e
some_any test (x ∷ xs) e = elim (cases_Bool (test x)) [
  | inl passes ↦ (x, inl refl, passes)
  | inr fails ↦ (let later = some_any test xs (rw fails at e) in (later.0, inr later.1, later.2))
]

-- two elements of a list are one, or one of them stands before the other
pub one_or_pair : {X : Type 0} (R : X → X → Type 0) (xs : List X) (x y : X) → Pairs R xs → In x xs → In y xs → (x ≡ y) ⊎ (R x y ⊎ R y x)
one_or_pair R [] x y pairs i j = absurd i
one_or_pair R (z ∷ xs) x y pairs (inl e) (inl f) = inl (rw (e, f) refl)
one_or_pair {X} R (z ∷ xs) x y pairs (inl e) (inr j) = inr (inl (subst (λ (w : X). R w y) (sym e) (in_has (R z) xs y pairs.0 j)))
one_or_pair {X} R (z ∷ xs) x y pairs (inr i) (inl f) = inr (inr (subst (λ (w : X). R w x) (sym f) (in_has (R z) xs x pairs.0 i)))
one_or_pair R (z ∷ xs) x y pairs (inr i) (inr j) = one_or_pair R xs x y pairs.1 i j

-- an element of the first of two lists is one of both together
pub in_left : {X : Type 0} (xs ys : List X) (x : X) → In x xs → In x (xs ++ ys)
in_left [] ys x i = absurd i
in_left (y ∷ xs) ys x (inl e) = inl e
in_left (y ∷ xs) ys x (inr i) = inr (in_left xs ys x i)

-- and so is one of the second
pub in_right : {X : Type 0} (xs ys : List X) (x : X) → In x ys → In x (xs ++ ys)
in_right [] ys x i = i
in_right (y ∷ xs) ys x i = inr (in_right xs ys x i)

-- and each of both together is one of the two
pub in_either : {X : Type 0} (xs ys : List X) (x : X) → In x (xs ++ ys) → In x xs ⊎ In x ys
in_either [] ys x i = inr i
in_either (y ∷ xs) ys x (inl e) = inl (inl e)
in_either (y ∷ xs) ys x (inr i) = elim (in_either xs ys x i) [
  | inl j ↦ inl (inr j)
  | inr j ↦ inr j
]

-- the numbers of a range
pub in_range : (low count x : ℕ) → low ≤ x → x < low + count → In x (range_with_len low count)
in_range low zero x h k = absurd (omega arith)
in_range low (suc count) x h k = elim (cases_eq x low) [
  | inl e ↦ inl e
  | inr ne ↦ inr (in_range (low + 1) count x (omega arith) (omega arith))
]

-- and a number of a range is within it
pub range_from : (low count x : ℕ) → In x (range_with_len low count) → (low ≤ x) × (x < low + count)
range_from low zero x i = absurd i
range_from low (suc count) x (inl e) = (omega arith, omega arith)
range_from low (suc count) x (inr i) = let later = range_from (low + 1) count x i in (omega (arith, later.0), omega (arith, later.1))

-- they differ
pub range_differs : (low count : ℕ) → Pairs (λ x y. x ≢ y) (range_with_len low count)
range_differs low zero = tt
range_differs low (suc count) =
    (all_in (λ y. low ≢ y) (range_with_len (low + 1) count) (λ y i e. absurd (let later = range_from (low + 1) count y i in omega (arith, later.0, e))), range_differs (low + 1) count)

-- an element that one of a list gives
pub record IsMapped {X Y : Type 0} (h : X → Option Y) (xs : List X) (y : Y) : Type 0 where
  pub from : X
  pub is_in : In from xs
  pub gives : h from ≡ Some y

-- with one more in front
mapped_later : {X Y : Type 0} (h : X → Option Y) (x : X) (xs : List X) (y : Y) → IsMapped h xs y → IsMapped h (x ∷ xs) y
mapped_later h x xs y is = record { from = is.from; is_in = inr is.is_in; gives = is.gives }

-- each element of what a list gives is given by one of it
pub mapped_from : {X Y : Type 0} (h : X → Option Y) (xs : List X) (y : Y) → In y (filter_map h xs) → IsMapped h xs y
mapped_from h [] y i = absurd i
mapped_from {X} {Y} h (x ∷ xs) y i = by (mapped_from h xs y) (h x) refl i
  where
    by : (In y (filter_map h xs) → IsMapped h xs y) → (made : Option Y) → h x ≡ made → In y (cons_option made (filter_map h xs)) → IsMapped h (x ∷ xs) y
    by rest None e i = mapped_later h x xs y (rest i)
    by rest (Some z) e (inl same) = record { from = x; is_in = inl refl; gives = subst (λ (w : Y). h x ≡ Some w) (sym same) e }
    by rest (Some z) e (inr i) = mapped_later h x xs y (rest i)

-- and what one of it gives is one
pub mapped_to : {X Y : Type 0} (h : X → Option Y) (xs : List X) (x : X) (y : Y) → In x xs → h x ≡ Some y → In y (filter_map h xs)
mapped_to h [] x y i e = absurd i
mapped_to {X} {Y} h (z ∷ xs) x y (inl same) e = let here : h z ≡ Some y = subst (λ (w : X). h w ≡ Some y) same e in rw here (inl refl)
mapped_to {X} {Y} h (z ∷ xs) x y (inr i) e = by (h z) (mapped_to h xs x y i e)
  where
    by : (made : Option Y) → In y (filter_map h xs) → In y (cons_option made (filter_map h xs))
    by None j = j
    by (Some w) j = inr j

-- what different elements give is so related
pub pairs_mapped : {X Y : Type 0} (R : Y → Y → Type 0) (h : X → Option Y) (xs : List X) → ((x x' : X) (y y' : Y) → x ≢ x' → h x ≡ Some y → h x' ≡ Some y' → R y y')
    → Pairs (λ x x'. x ≢ x') xs → Pairs R (filter_map h xs)
pairs_mapped R h [] gives differ = tt
pairs_mapped {X} {Y} R h (x ∷ xs) gives differ = by (h x) refl (pairs_mapped R h xs gives differ.1)
  where
    by : (made : Option Y) → h x ≡ made → Pairs R (filter_map h xs) → Pairs R (cons_option made (filter_map h xs))
    by None e rest = rest
    by (Some y) e rest =
        (all_in (R y) (filter_map h xs) (λ y' i. (let m = mapped_from h xs y' i in gives x m.from y y' (in_has (λ x'. x ≢ x') xs m.from differ.0 m.is_in) e m.gives)), rest)

-- an element of one of the lists that a list's elements give
pub record IsJoined {X Y : Type 0} (f : X → List Y) (xs : List X) (y : Y) : Type 0 where
  pub from : X
  pub is_in : In from xs
  pub within : In y (f from)

-- each element of lists in a row is one of one of them
pub joined_from : {X Y : Type 0} (f : X → List Y) (xs : List X) (y : Y) → In y (flat_map f xs) → IsJoined f xs y
joined_from f [] y i = absurd i
joined_from f (x ∷ xs) y i = elim (in_either (f x) (flat_map f xs) y i) [
  | inl j ↦ record { from = x; is_in = inl refl; within = j }
  | inr j ↦ (let is = joined_from f xs y j in record { from = is.from; is_in = inr is.is_in; within = is.within })
]

-- and one of one of them is one
pub joined_to : {X Y : Type 0} (f : X → List Y) (xs : List X) (x : X) (y : Y) → In x xs → In y (f x) → In y (flat_map f xs)
joined_to f [] x y i j = absurd i
joined_to {X} {Y} f (z ∷ xs) x y (inl same) j = in_left (f z) (flat_map f xs) y (subst (λ (w : X). In y (f w)) same j)
joined_to f (z ∷ xs) x y (inr i) j = in_right (f z) (flat_map f xs) y (joined_to f xs x y i j)

-- elements of all these lists are so related
pub pairs_joined : {X Y : Type 0} (R : Y → Y → Type 0) (f : X → List Y) (xs : List X) → ((x : X) → Pairs R (f x))
    → ((x x' : X) (y y' : Y) → x ≢ x' → In y (f x) → In y' (f x') → R y y') → Pairs (λ x x'. x ≢ x') xs → Pairs R (flat_map f xs)
pairs_joined R f [] each across differ = tt
pairs_joined R f (x ∷ xs) each across differ =
    pairs_append R (f x) (flat_map f xs) (each x) (pairs_joined R f xs each across differ.1)
    (all_in (λ y. AllByRecursion (R y) (flat_map f xs)) (f x) (λ y i. all_in (R y) (flat_map f xs)
    (λ y' j. (let is = joined_from f xs y' j in across x is.from y y' (in_has (λ x'. x ≢ x') xs is.from differ.0 is.is_in) i is.within))))
