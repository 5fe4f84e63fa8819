-- The bits of one word of 64.
use Rattle.std.proofs.Common.{◌≡◌, ℕ, suc, ◌+◌, ◌-◌, ◌*◌, ◌/◌, ◌%◌, ◌^◌, ◌<◌, ◌≤◌, min, IsBitSet, sym, ap, ◌∙◌, arith, inl, inr, bit_and}
use Rattle.std.specs.Int.{bit_at, trailing_zeros, leading_zeros, w64}
use Rattle.std.specs.Int.Count.{trailing_of_zero}
use Rattle.std.proofs.lemmas.Bool.{cases_eq, cases_lt}
use Rattle.std.proofs.lemmas.Nat.{div_below, le-div, leading_length, leading_top, pow-add, pow_pos, trailing_le}
use Rattle.std.proofs.lemmas.Nat.Bits.{and_pow, bit_at-lt, bit_at-trailing_zeros, bit_at-zero, bit_at_above, bit_at_and, bit_at_mask_above, bit_at_mask_below, bit_at_mask_inside, ones_shr, same_from_bits}
use Rattle.std.proofs.Math.Nat.{min-eq_left, min-eq_right, mod-eq_of_lt, suc-mul, zero-mul, pow-le-pow_right}

-- a bit that is set is a 1
pub one_of_set : (n k : ℕ) → IsBitSet n k → bit_at n k ≡ 1
one_of_set n k set = elim (cases_eq (bit_at n k) 0) [
  | inl zero ↦ absurd (set (and_pow n k ∙ (ap (λ (b : ℕ). b * 2 ^ k) zero ∙ zero-mul (2 ^ k))))
  | inr nonzero ↦ omega (arith, bit_at-lt n k)
]

pub set_of_one : (n k : ℕ) → bit_at n k ≡ 1 → IsBitSet n k
set_of_one n k one zero =
    let e : 1 * 2 ^ k ≡ 0 = ap (λ (b : ℕ). b * 2 ^ k) (sym one) ∙ (sym (and_pow n k) ∙ zero) in
    absurd (omega (arith, pow_pos k, e))

-- a bit that is clear is a 0
pub zero_of_clear : (n k : ℕ) → (IsBitSet n k → ⊥) → bit_at n k ≡ 0
zero_of_clear n k clear = elim (cases_eq (bit_at n k) 0) [
  | inl zero ↦ zero
  | inr nonzero ↦ absurd (clear (set_of_one n k (omega (arith, bit_at-lt n k))))
]

pub clear_of_zero : (n k : ℕ) → bit_at n k ≡ 0 → IsBitSet n k → ⊥
clear_of_zero n k zero set = let one = one_of_set n k set in absurd (omega (arith, zero, one))

pub power_grows : (i j : ℕ) → i ≤ j → 2 ^ i ≤ 2 ^ j
power_grows i j h = pow-le-pow_right {n = 2} (let nonzero : 0 < 2 = omega arith in nonzero) h

-- ---- the clear bits at either end

pub trailing_short : (n : ℕ) → trailing_zeros w64 n ≤ 64
trailing_short n = trailing_le 64 n

pub trailing_clear : (n other : ℕ) → n < 2 ^ 64 → other < trailing_zeros w64 n → bit_at n other ≡ 0
trailing_clear n other small before = elim (cases_eq n 0) [
  | inl zero ↦ ap (λ (m : ℕ). bit_at m other) zero ∙ bit_at-zero other
  | inr nonzero ↦ (bit_at-trailing_zeros w64 n (omega arith) small).2 other before
]

pub trailing_set : (n : ℕ) → n < 2 ^ 64 → trailing_zeros w64 n < 64 → bit_at n (trailing_zeros w64 n) ≡ 1
trailing_set n small in_one_word = elim (cases_eq n 0) [
  | inl zero ↦ (let all : trailing_zeros w64 n ≡ 64 = ap (trailing_zeros w64) zero ∙ trailing_of_zero 64 in absurd (omega (arith, all, in_one_word)))
  | inr nonzero ↦ (bit_at-trailing_zeros w64 n (omega arith) small).1
]

pub leading_short : (n : ℕ) → n < 2 ^ 64 → leading_zeros w64 n ≤ 64
leading_short n small = let found = leading_length 64 n small in omega (arith, found.1)

pub leading_clear : (n other : ℕ) → n < 2 ^ 64 → 64 ≤ other + leading_zeros w64 n → bit_at n other ≡ 0
leading_clear n other small not_before = let found = leading_length 64 n small in bit_at_above n found.0 other found.2 (omega (arith, found.1))

pub leading_set : (n : ℕ) → n < 2 ^ 64 → leading_zeros w64 n < 64 → bit_at n (63 - leading_zeros w64 n) ≡ 1
leading_set n small in_one_word = elim (cases_eq n 0) [
  | inl zero ↦ absurd (none n zero (leading_length 64 n small) in_one_word)
  | inr nonzero ↦ top n (leading_top 64 n (omega arith) small)
]
  where
    none : (n : ℕ) → n ≡ 0 → ((m : ℕ) × (leading_zeros w64 n + m ≡ 64) × (n < 2 ^ m) × (2 ^ m ≤ 2 * n + 1)) → leading_zeros w64 n < 64 → ⊥
    none n zero found in_one_word =
        let two : 2 ^ 1 ≤ 2 ^ found.0 = power_grows 1 found.0 (omega (arith, found.1)) in
        omega (arith, zero, found.3, two)

    one : (n power : ℕ) → 0 < power → power ≤ n → n < 2 * power → n / power % 2 ≡ 1
    one n power nonzero low high =
        let above = le-div 1 n power nonzero (omega arith) in
        let below = div_below n power 2 nonzero high in
        omega (arith, above, below)

    top : (n : ℕ) → ((j : ℕ) × (leading_zeros w64 n + suc j ≡ 64) × (2 ^ j ≤ n) × (n < 2 ^ suc j)) → bit_at n (63 - leading_zeros w64 n) ≡ 1
    top n found =
        let place : 63 - leading_zeros w64 n ≡ found.0 = omega (arith, found.1) in
        let twice : 2 ^ suc found.0 ≡ 2 * 2 ^ found.0 = (let next : suc found.0 ≡ 1 + found.0 = omega arith in ap (λ (k : ℕ). 2 ^ k) next ∙ pow-add 2 1 found.0) in
        ap (bit_at n) place ∙ one n (2 ^ found.0) (pow_pos found.0) found.2 (omega (arith, found.3, twice))

-- ---- the bits between two places

less_one : (a b : ℕ) → 0 < a → (a - 1) * b + b ≡ a * b
less_one a b nonzero = let is : suc (a - 1) ≡ a = omega arith in sym (suc-mul (a - 1) b) ∙ ap (λ (m : ℕ). m * b) is

-- so they are computed
pub between : (low high : ℕ) → low < high → high ≤ 64 → (2 ^ 64 - 1) / 2 ^ (64 - (high - low)) * 2 ^ low % 2 ^ 64 ≡ 2 ^ high - 2 ^ low
between low high nonzero inside =
    let count : 64 - (64 - (high - low)) ≡ high - low = omega arith in
    let shifted : (2 ^ 64 - 1) / 2 ^ (64 - (high - low)) ≡ 2 ^ (high - low) - 1 =
    ones_shr 64 (64 - (high - low)) (omega arith) ∙ ap (λ (k : ℕ). 2 ^ k - 1) count in
    let power : 2 ^ (high - low) * 2 ^ low ≡ 2 ^ high = sym (pow-add 2 (high - low) low) ∙ (let e : high - low + low ≡ high = omega arith in ap (λ (k : ℕ). 2 ^ k) e) in
    let product : (2 ^ (high - low) - 1) * 2 ^ low ≡ 2 ^ high - 2 ^ low =
    (let less = less_one (2 ^ (high - low)) (2 ^ low) (pow_pos (high - low)) in omega (arith, less, power)) in
    let limit : 2 ^ high ≤ 2 ^ 64 = power_grows high 64 inside in
    let small : 2 ^ high - 2 ^ low < 2 ^ 64 = omega (arith, limit, pow_pos low) in
    ap (λ (m : ℕ). m * 2 ^ low % 2 ^ 64) shifted ∙ (ap (λ (m : ℕ). m % 2 ^ 64) product ∙ mod-eq_of_lt small)

-- a word has none of them
pub none_between : (word low high bit : ℕ) → bit_and word (2 ^ high - 2 ^ low) ≡ 0 → low ≤ bit → bit < high → bit_at word bit ≡ 0
none_between word low high bit none from to =
    let within : bit_at word bit ≤ 1 = omega (arith, bit_at-lt word bit) in
    sym (min-eq_left within)
    ∙ (ap (λ (b : ℕ). min (bit_at word bit) b) (sym (bit_at_mask_inside low high bit from to))
    ∙ (sym (bit_at_and word (2 ^ high - 2 ^ low) bit) ∙ (ap (λ (m : ℕ). bit_at m bit) none ∙ bit_at-zero bit)))

pub between_none : (word low high : ℕ) → ((bit : ℕ) → low ≤ bit → bit < high → bit_at word bit ≡ 0) → bit_and word (2 ^ high - 2 ^ low) ≡ 0
between_none word low high clear = same_from_bits (bit_and word (2 ^ high - 2 ^ low)) 0 (λ bit. bit_at_and word (2 ^ high - 2 ^ low) bit ∙ (each bit ∙ sym (bit_at-zero bit)))
  where
    outside : (bit : ℕ) → bit_at (2 ^ high - 2 ^ low) bit ≡ 0 → min (bit_at word bit) (bit_at (2 ^ high - 2 ^ low) bit) ≡ 0
    outside bit zero = rw zero (let least : 0 ≤ bit_at word bit = omega arith in min-eq_right least)

    each : (bit : ℕ) → min (bit_at word bit) (bit_at (2 ^ high - 2 ^ low) bit) ≡ 0
    each bit = elim (cases_lt bit low) [
      | inl below ↦ outside bit (bit_at_mask_below low high bit below)
      | inr from ↦ elim (cases_lt bit high) [
        | inl to ↦ rw (clear bit from to) (let least : 0 ≤ bit_at (2 ^ high - 2 ^ low) bit = omega arith in min-eq_left least)
        | inr above ↦ outside bit (bit_at_mask_above low high bit above)
      ]
    ]
