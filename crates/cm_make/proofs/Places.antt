-- A hexadecimal digit has four bits.
use Rattle.std.proofs.Common.{◌≡◌, ◌+◌, ◌-◌, ◌*◌, ◌^◌, ◌≤◌, ℕ, zero, suc, arith, refl}
use Rattle.std.proofs.Math.Nat.{pow-succ'}
use Rattle.std.proofs.lemmas.Nat.{pow-add}

-- a power of 16 has four times as many bits
power_of_16 : (k : ℕ) → 2 ^ (4 * k) ≡ 16 ^ k
power_of_16 zero = refl
power_of_16 (suc k) =
    let bits : 4 * suc k ≡ 4 + 4 * k = omega arith in
    rw (bits, pow-add 2 4 (4 * k), power_of_16 k, pow-succ' 16 k) refl

pub place_of : (place : ℕ) → place ≤ 15 → 2 ^ (60 - 4 * place) ≡ 16 ^ (15 - place)
place_of place below =
    let bits : 60 - 4 * place ≡ 4 * (15 - place) = omega arith in
    rw bits (power_of_16 (15 - place))
