-- A zero byte multiplies the state of the hash by its prime.
use Rattle.std.proofs.Common.{◌≡◌, ℕ, ◌*◌, ◌%◌, ◌^◌, sym, ap, ◌∙◌, arith}
use Rattle.std.specs.Int.Bits.{xor_zero_r}
use Rattle.std.proofs.lemmas.Nat.{mul-mod_first, mul-mod_second}
use Rattle.cm_geo.specs.Hash.{hash_byte}

zero_byte : (state : ℕ) → hash_byte state 0 ≡ (state * 0x100000001b3) % 2 ^ 64
unfolding hash_byte
zero_byte state = ap (λ (n : ℕ). (n * 0x100000001b3) % 2 ^ 64) (xor_zero_r state)

-- a product, and then one with the prime
then_prime : (state factor : ℕ) → ((state * factor) % 2 ^ 64 * 0x100000001b3) % 2 ^ 64 ≡ (state * (factor * 0x100000001b3 % 2 ^ 64)) % 2 ^ 64
then_prime state factor =
    let same : state * factor * 0x100000001b3 ≡ state * (factor * 0x100000001b3) = omega arith in
    mul-mod_first (state * factor) 0x100000001b3 (2 ^ 64) ∙ (ap (λ (n : ℕ). n % 2 ^ 64) same ∙ sym (mul-mod_second state (factor * 0x100000001b3) (2 ^ 64)))

two_zeros : (state : ℕ) → hash_byte (hash_byte state 0) 0 ≡ (state * 0x366000002e329) % 2 ^ 64
two_zeros state =
    zero_byte (hash_byte state 0) ∙ (ap (λ (n : ℕ). (n * 0x100000001b3) % 2 ^ 64) (zero_byte state) ∙ then_prime state 0x100000001b3)

-- two bytes that are zero are one product with the prime's square
pub then_two : (before state third fourth : ℕ) → state ≡ before → third ≡ 0 → fourth ≡ 0 → (state * 0x366000002e329) % 2 ^ 64 ≡ hash_byte (hash_byte before third) fourth
then_two before state third fourth same three four =
    sym (two_zeros state) ∙ (ap (λ (s : ℕ). hash_byte (hash_byte s 0) 0) same
    ∙ (ap (λ (n : ℕ). hash_byte (hash_byte before n) 0) (sym three) ∙ ap (λ (n : ℕ). hash_byte (hash_byte before third) n) (sym four)))
