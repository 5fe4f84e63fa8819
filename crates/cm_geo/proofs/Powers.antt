-- A geometry's segments, slots of a tier and words of a chunk are powers of two: a mask takes the remainder by them, and a shift the quotient.
use Rattle.std.proofs.Common.{◌≡◌, ℕ, ◌-◌, ◌*◌, ◌/◌, ◌%◌, ◌^◌, ◌==◌, List, [], ◌∷◌, IsTrue, arith, bit_and, refl, ap, inl, inr}
use Rattle.std.specs.List.{AllByRecursion, list_any}
use lib.Count.{count_trailing_zeros}
use Rattle.std.specs.Int.{trailing_zeros, w32}
use Rattle.std.proofs.lemmas.Bool.{cases_Bool}
use Rattle.std.proofs.lemmas.Bool.Decides.{nat_tests}
use Rattle.std.proofs.lemmas.Nat.{and_mask}
use Rattle.cm_geo.specs.Limits.{is_segments, is_chunks, is_chunk_words}

-- what holds of each of some numbers holds of a number that is one of them
among : (P : ℕ → Type 0) (n : ℕ) (numbers : List ℕ) → AllByRecursion P numbers → IsTrue (list_any (λ number. n == number) numbers) → P n
among P n [] all is = cc is
among P n (number ∷ numbers) all is = elim (cases_Bool (n == number)) [
  | inl same ↦ (let e : n ≡ number = grind (arith, nat_tests) in rw e all.0)
  | inr other ↦ among P n numbers all.1 (rw other at is)
]

-- a number is 2 to the number of its zeros behind the last 1
abbrev IsPower : ℕ → Type 0
IsPower n = 2 ^ trailing_zeros w32 n ≡ n

-- so are the segments
segments_power : (n : ℕ) → IsTrue (is_segments n) → IsPower n
unfolding count_trailing_zeros
segments_power n fits = among IsPower n (1 ∷ 2 ∷ 4 ∷ 8 ∷ 16 ∷ 32 ∷ 64 ∷ []) (refl, (refl, (refl, (refl, (refl, (refl, (refl, tt))))))) fits

-- and the words of a chunk
chunk_words_power : (n : ℕ) → IsTrue (is_chunk_words n) → IsPower n
unfolding count_trailing_zeros
chunk_words_power n fits = among IsPower n (4 ∷ 8 ∷ 16 ∷ []) (refl, (refl, (refl, tt))) fits

-- and the slots of a tier
slots_power : (n : ℕ) → IsTrue (is_chunks n) → IsPower (2 * n)
unfolding count_trailing_zeros
slots_power n fits =
    among (λ chunks. IsPower (2 * chunks)) n (64 ∷ 128 ∷ 256 ∷ 512 ∷ 1024 ∷ 2048 ∷ 4096 ∷ []) (refl, (refl, (refl, (refl, (refl, (refl, (refl, tt))))))) fits

-- a mask takes the remainder by a power
mask_of_power : (n size : ℕ) → IsPower size → bit_and n (size - 1) ≡ n % size
mask_of_power n size is = let e : bit_and n (2 ^ trailing_zeros w32 size - 1) ≡ n % 2 ^ trailing_zeros w32 size = and_mask n (trailing_zeros w32 size) in rw is at e

-- the remainder by the segments
pub mask_of_segments : (n segments : ℕ) → IsTrue (is_segments segments) → bit_and n (segments - 1) ≡ n % segments
mask_of_segments n segments fits = mask_of_power n segments (segments_power segments fits)

-- the quotient by the segments
pub shift_of_segments : (n segments : ℕ) → IsTrue (is_segments segments) → n / 2 ^ trailing_zeros w32 segments ≡ n / segments
shift_of_segments n segments fits = ap (λ (size : ℕ). n / size) (segments_power segments fits)

-- the remainder by the slots of a tier
pub mask_of_slots : (n chunks : ℕ) → IsTrue (is_chunks chunks) → bit_and n (2 * chunks - 1) ≡ n % (2 * chunks)
mask_of_slots n chunks fits = mask_of_power n (2 * chunks) (slots_power chunks fits)

-- the quotient by the words of a chunk
pub shift_of_chunk_words : (n chunk_words : ℕ) → IsTrue (is_chunk_words chunk_words) → n / 2 ^ trailing_zeros w32 chunk_words ≡ n / chunk_words
shift_of_chunk_words n chunk_words fits = ap (λ (size : ℕ). n / size) (chunk_words_power chunk_words fits)
