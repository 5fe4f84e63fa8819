-- Sums over the numbers below one.
use Rattle.std.proofs.Common.{◌≡◌, ℕ, zero, suc, ◌+◌, ◌<◌, ◌≤◌, List, [], ◌∷◌, ◌++◌, sum_by, ap, ◌∙◌, arith}
use Rattle.std.specs.List.{range_with_len}
use Rattle.std.proofs.lemmas.List.Sums.{sum_by_push}
use Rattle.cm_store.proofs.Starting.{range_more}

-- a sum with one number more
pub sum_more : (f : ℕ → ℕ) (n : ℕ) → sum_by f (range_with_len 0 (suc n)) ≡ sum_by f (range_with_len 0 n) + f n
sum_more f n = let here : 0 + n ≡ n = omega arith in
    ap (sum_by f) (range_more 0 n ∙ ap (λ (k : ℕ). range_with_len 0 n ++ k ∷ []) here) ∙ sum_by_push f (range_with_len 0 n) n

pub sum_zero : (f : ℕ → ℕ) (n : ℕ) → ((s : ℕ) → s < n → f s ≡ 0) → sum_by f (range_with_len 0 n) ≤ 0
sum_zero f zero none = omega arith
sum_zero f (suc n) none = let r = sum_zero f n (λ s below. none s (omega arith)) in let e = none n (omega arith) in let a = sum_more f n in omega arith
