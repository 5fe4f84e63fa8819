-- Numbers that differ and are below another are no more than it.
use Rattle.std.proofs.Common.{◌≡◌, ◌≢◌, ℕ, ◌<◌, ◌≤◌, ◌∙◌, true, false, List, [], ◌∷◌, length, eqb, get_or, map, sym, subst, arith}
use Rattle.std.specs.List.{AllByRecursion, IsDistinct, range_with_len}
use Rattle.std.proofs.lemmas.Bool.Decides.{nat_tests}
use Rattle.std.proofs.lemmas.List.Elements.{recursion_from_All}
use Rattle.std.proofs.lemmas.List.FromFn.{get_or-map-range_with_len, length-map-range_with_len}
use Rattle.std.proofs.lemmas.Map.Steps.{length-le_from_distinct_below}
use Rattle.cm_plain.proofs.Each.{Pairs, each_weaker, pairs_from_all}
use Rattle.cm_plain.proofs.ListElements.{in_has, some_any}

-- numbers that differ, by std's word
pub distinct_is : (xs : List ℕ) → Pairs (λ x y. x ≢ y) xs → IsDistinct eqb xs
unfolding IsDistinct
distinct_is [] differ = tt
distinct_is (x ∷ xs) differ = (each_weaker (λ y. x ≢ y) (λ y. eqb x y ≡ false) (λ y ne. other x y ne) xs differ.0, distinct_is xs differ.1)
  where
    other : (x y : ℕ) → x ≢ y → eqb x y ≡ false
    other x y ne = grind (arith, nat_tests)

-- numbers below another that differ are no more than it
pub distinct_below : (xs : List ℕ) (n : ℕ) → AllByRecursion (λ x. x < n) xs → Pairs (λ x y. x ≢ y) xs → length xs ≤ n
distinct_below xs n below differ = length-le_from_distinct_below xs n (distinct_is xs differ)
    (λ q e. (let one = some_any (eqb q) xs e in is_below q one.0 n one.2 (in_has (λ x. x < n) xs one.0 below one.1)))
  where
    is_below : (q x n : ℕ) → eqb q x ≡ true → x < n → q < n
    is_below q x n e h = grind (arith, nat_tests)

-- so a function on so many numbers that keeps them apart has as many values
pub injective_below : (f : ℕ → ℕ) (m n : ℕ) → ((k : ℕ) → k < m → f k < n) → ((i j : ℕ) → i < j → j < m → f i ≢ f j) → m ≤ n
injective_below f m n below apart =
    let xs : List ℕ = map f (range_with_len 0 m) in
    let long : length xs ≡ m = length-map-range_with_len f 0 m in
    let at : (k d : ℕ) → k < m → get_or xs k d ≡ f k = λ k d h. get_or-map-range_with_len f 0 m k k d h (omega arith) in
    let all : AllByRecursion (λ x. x < n) xs = recursion_from_All (λ x. x < n) xs (λ k d h. subst (λ (x : ℕ). x < n) (sym (at k d (low k m (length xs) long h))) (below k (low k m (length xs) long h))) in
    let pairs : Pairs (λ x y. x ≢ y) xs = pairs_from_all (λ x y. x ≢ y) xs (λ i j d before h.
    (let j_below = low j m (length xs) long h in λ same. apart i j before j_below (sym (at i d (first i j m before j_below)) ∙ (same ∙ at j d j_below)))) in
    by_length (length xs) m n long (distinct_below xs n all pairs)
  where
    low : (k m l : ℕ) → l ≡ m → k < l → k < m
    low k m l e h = omega arith

    first : (i j m : ℕ) → i < j → j < m → i < m
    first i j m h k = omega arith

    by_length : (l m n : ℕ) → l ≡ m → l ≤ n → m ≤ n
    by_length l m n e h = omega arith
