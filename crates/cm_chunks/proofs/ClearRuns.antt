-- Runs of clear bits in one word.
use Rattle.std.proofs.Common.{◌≡◌, ◌≢◌, ℕ, ◌+◌, ◌/◌, ◌%◌, ◌^◌, ◌<◌, ◌≤◌, min, IsBitSet, sym, subst, ap, ◌∙◌, arith, inl, inr, bit_and}
use Rattle.std.specs.Int.{bit_at, bit_not, trailing_zeros, w64}
use Rattle.std.proofs.lemmas.Bool.{cases_lt}
use Rattle.std.proofs.lemmas.Nat.{shr-shr}
use Rattle.std.proofs.lemmas.Nat.Bits.{bit_at-lt, bit_at-trailing_zeros, bit_at_above, bit_at_and, bit_at_not}
use Rattle.std.proofs.Math.Nat.{min-eq_left, min-eq_right}
use Rattle.cm_chunks.specs.Bits.{AreClear, IsFirstClear}
use Rattle.cm_chunks.proofs.WordBits.{clear_of_zero, zero_of_clear}

-- a bit tells whether so many bits of the word from it on are clear
pub record TellsRuns (word runs bits : ℕ) : Type 0 where
  pub only : (bit : ℕ) → bit_at runs bit ≡ 1 → AreClear word bit bits
  pub all : (bit : ℕ) → AreClear word bit bits → bit_at runs bit ≡ 1

-- one bit
pub tells_one : (word : ℕ) → word < 2 ^ 64 → TellsRuns word (bit_not w64 word) 1
tells_one word small = record {
  only = λ bit one. elim (cases_lt bit 64) [
    | inl inside ↦ record {
      inside = omega arith;
      clear = λ other from to. (let same : bit ≡ other = omega arith in
          subst (λ (k : ℕ). IsBitSet word k → ⊥) same (clear_of_zero word bit (let not_is = bit_at_not w64 word bit small inside in omega (arith, bit_at-lt word bit, not_is, one))));
    }
    | inr above ↦ (let none : bit_at (bit_not w64 word) bit ≡ 0 = bit_at_above (bit_not w64 word) 64 bit (omega arith) above in absurd (omega (arith, none, one)))
  ];
  all = λ bit run. (let not_is = bit_at_not w64 word bit small (omega (arith, run.inside)) in
      let zero = zero_of_clear word bit (run.clear bit (omega arith) (omega arith)) in omega (arith, not_is, zero));
}

both : (a b : ℕ) → a < 2 → b < 2 → min a b ≡ 1 → (a ≡ 1) × (b ≡ 1)
both a b p q e = elim (cases_lt a b) [
  | inl less ↦ (let k : a ≤ b = omega arith in let l = sym (min-eq_left k) ∙ e in (l, omega (arith, l)))
  | inr more ↦ (let l = sym (min-eq_right more) ∙ e in (omega (arith, l), l))
]

-- more bits, where the further ones are known from no farther on
pub tells_more : (word runs bits more : ℕ) → more ≤ bits → TellsRuns word runs bits → TellsRuns word (bit_and runs (runs / 2 ^ more)) (bits + more)
tells_more word runs bits more in_one_word knows = record {
  only = λ bit one. (let parts = both (bit_at runs bit) (bit_at (runs / 2 ^ more) bit) (bit_at-lt runs bit) (bit_at-lt (runs / 2 ^ more) bit) (sym (bit_at_and runs (runs / 2 ^ more) bit) ∙ one) in
      let near = knows.only bit parts.0 in
      let far = knows.only (more + bit) (sym (behind bit) ∙ parts.1) in record {
        inside = omega (arith, far.inside);
        clear = λ other from to. elim (cases_lt other (bit + bits)) [
          | inl less ↦ near.clear other from less
          | inr past ↦ far.clear other (omega arith) (omega arith)
        ];
      });
  all = λ bit run.
      let near : bit_at runs bit ≡ 1 = knows.all bit (record { inside = omega (arith, run.inside); clear = λ other from to. run.clear other from (omega arith) }) in
      let far : bit_at (runs / 2 ^ more) bit ≡ 1 = behind bit ∙ knows.all (more + bit) (record { inside = omega (arith, run.inside); clear = λ other from to. run.clear other (omega arith) (omega arith) }) in
      let same : bit_at runs bit ≤ bit_at (runs / 2 ^ more) bit = omega (arith, near, far) in
      bit_at_and runs (runs / 2 ^ more) bit ∙ (min-eq_left same ∙ near);
}
  where
    behind : (bit : ℕ) → bit_at (runs / 2 ^ more) bit ≡ bit_at runs (more + bit)
    behind bit = ap (λ (n : ℕ). n % 2) (shr-shr runs more bit)

-- the lowest that does is the first
pub first_clear : (word runs bits : ℕ) → runs < 2 ^ 64 → runs ≢ 0 → TellsRuns word runs bits → IsFirstClear word bits (trailing_zeros w64 runs)
first_clear word runs bits small nonzero knows =
    let lowest = bit_at-trailing_zeros w64 runs (omega arith) small in
    record {
      run = knows.only (trailing_zeros w64 runs) lowest.1;
      least = λ other run. elim (cases_lt other (trailing_zeros w64 runs)) [
        | inl less ↦ (let zero = lowest.2 other less in let one = knows.all other run in absurd (omega (arith, zero, one)))
        | inr more ↦ more
      ];
    }
