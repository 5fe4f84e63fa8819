-- Sums over the segments so far.
use Rattle.std.proofs.Common.{◌≡◌, ℕ, zero, suc, ◌+◌, ◌-◌, ◌<◌, ◌≤◌, [], ◌∷◌, map, sum, sum_by, ap, arith}
use Rattle.std.specs.List.{range_with_len}
use Rattle.std.proofs.lemmas.List.Sums.{sum-map, sum_by-append, sum_by-cons}
use Rattle.cm_run.proofs.Askers.{range_next}

pub sum_next : (f : ℕ → ℕ) (n : ℕ) → sum (map f (range_with_len 0 (n + 1))) ≡ sum (map f (range_with_len 0 n)) + f n
sum_next f n =
    let a = sum-map f (range_with_len 0 (n + 1)) in
    let b = sum-map f (range_with_len 0 n) in
    let more = ap (sum_by f) (range_next n) in
    let both = sum_by-append f (range_with_len 0 n) (n ∷ []) in
    let one = sum_by-cons f n [] in
    omega arith

-- a sum is no more than one of more numbers
sum_grows : (f : ℕ → ℕ) (n gap : ℕ) → sum (map f (range_with_len 0 n)) ≤ sum (map f (range_with_len 0 (n + gap)))
sum_grows f n zero = let e : sum (map f (range_with_len 0 (n + 0))) ≡ sum (map f (range_with_len 0 n)) = ap (λ (k : ℕ). sum (map f (range_with_len 0 k))) (same n) in omega arith
  where
    same : (n : ℕ) → n + 0 ≡ n
    same n = omega arith
sum_grows f n (suc gap) =
    let r = sum_grows f n gap in
    let s = sum_next f (n + gap) in
    let e : sum (map f (range_with_len 0 (n + suc gap))) ≡ sum (map f (range_with_len 0 (n + gap + 1))) = ap (λ (k : ℕ). sum (map f (range_with_len 0 k))) (one_on n gap) in omega arith
  where
    one_on : (n gap : ℕ) → n + suc gap ≡ n + gap + 1
    one_on n gap = omega arith

pub sum_most : (f : ℕ → ℕ) (n all : ℕ) → n < all → sum (map f (range_with_len 0 n)) + f n ≤ sum (map f (range_with_len 0 all))
sum_most f n all below =
    let s = sum_next f n in
    let g = sum_grows f (n + 1) (all - (n + 1)) in
    let e : sum (map f (range_with_len 0 (n + 1 + (all - (n + 1))))) ≡ sum (map f (range_with_len 0 all)) = ap (λ (k : ℕ). sum (map f (range_with_len 0 k))) (let h : n + 1 + (all - (n + 1)) ≡ all = omega arith in h) in
    omega arith
