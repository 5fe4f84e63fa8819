-- What a test of two keys' bytes tells.
use Rattle.std.proofs.Common.{◌≡◌, ◌≢◌, ℕ, List, true, false, ◌⊎◌, inl, inr}
use Rattle.std.specs.Str.{bytes_eq}
use Rattle.std.proofs.lemmas.Bool.{cases_Bool}
use Rattle.std.proofs.lemmas.Bool.Decides.{not_from_Decides}
use Rattle.std.proofs.lemmas.Slice.Eq.{bytes_eq-Decides}

-- keys that fail the test are two
pub keys_apart : (one other : List ℕ) → bytes_eq one other ≡ false → one ≢ other
keys_apart one other e = not_from_Decides (bytes_eq one other) (bytes_eq-Decides one other) e

-- two keys are the same, or they are not, with the test's answer
pub key_tells : (one other : List ℕ) → ((bytes_eq one other ≡ true) × (one ≡ other)) ⊎ ((bytes_eq one other ≡ false) × (one ≢ other))
key_tells one other = elim (cases_Bool (bytes_eq one other)) [
  | inl same ↦ inl (same, (bytes_eq-Decides one other).0 same)
  | inr differs ↦ inr (differs, keys_apart one other differs)
]
