-- A search through a range of numbers, one step on.
use Rattle.std.proofs.Common.{◌≡◌, ◌+◌, ◌-◌, ◌<◌, ◌≤◌, ℕ, ◌∷◌, [], Bool, true, false, find, Some, None, refl, arith, suc}
use Rattle.std.specs.List.{range_with_len, position_or_len}

-- the rest of a range is its first number and the rest behind it
pub range_step : (low high : ℕ) → low < high → range_with_len low (high - low) ≡ low ∷ range_with_len (low + 1) (high - (low + 1))
range_step low high below = let e : high - low ≡ suc (high - (low + 1)) = omega arith in rw e refl

-- nothing is left of a range at its end
pub range_end : (low high : ℕ) → high ≤ low → range_with_len low (high - low) ≡ []
range_end low high past = let e : high - low ≡ 0 = omega arith in rw e refl

-- a number that passes is the first of the rest
pub find_here : (test : ℕ → Bool) (low high : ℕ) → low < high → test low ≡ true → find test (range_with_len low (high - low)) ≡ Some low
find_here test low high below passes = rw (range_step low high below, passes) refl

-- one that does not is passed over
pub find_next : (test : ℕ → Bool) (low high : ℕ) → low < high → test low ≡ false
    → find test (range_with_len low (high - low)) ≡ find test (range_with_len (low + 1) (high - (low + 1)))
find_next test low high below fails = rw (range_step low high below, fails) refl

-- at the end there is none
pub find_none : (test : ℕ → Bool) (low high : ℕ) → high ≤ low → find test (range_with_len low (high - low)) ≡ None
find_none test low high past = rw (range_end low high past) refl

-- the same for a place
pub position_here : (test : ℕ → Bool) (low high : ℕ) → low < high → test low ≡ true → position_or_len test (range_with_len low (high - low)) ≡ 0
position_here test low high below passes = rw (range_step low high below, passes) refl

-- a place that fails is passed over
pub position_next : (test : ℕ → Bool) (low high : ℕ) → low < high → test low ≡ false
    → position_or_len test (range_with_len low (high - low)) ≡ 1 + position_or_len test (range_with_len (low + 1) (high - (low + 1)))
position_next test low high below fails = rw (range_step low high below, fails) refl

-- at the end there is no place
pub position_none : (test : ℕ → Bool) (low high : ℕ) → high ≤ low → position_or_len test (range_with_len low (high - low)) ≡ 0
position_none test low high past = rw (range_end low high past) refl
