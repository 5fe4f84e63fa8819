-- Texts that a byte parts.
use Rattle.std.specs.Prelude.{decimal}
use Rattle.std.proofs.Common.{◌≡◌, ◌≢◌, ◌<◌, ◌^◌, ◌++◌, [], ◌∷◌, ℕ, List, length, get_or, suc, arith, refl}
use Rattle.std.proofs.lemmas.Fmt.{decimal_is_IsNumeral}
use Rattle.std.proofs.lemmas.Str.Parse.{digit_at}

-- the text doesn't have this byte
abbrev pub HasNo : ℕ → List ℕ → Type 0
HasNo byte text = (i : ℕ) → i < length text → get_or text i 0 ≢ byte

-- the digits of a number have no comma (44)
pub no-comma : (number : ℕ) → number < 2 ^ 64 → HasNo 44 (decimal number)
no-comma number small i inside = λ e.
    let digit = digit_at (decimal number) i (decimal_is_IsNumeral number small).0.1 inside in
    omega (arith, digit.0, e)

-- and no colon (58)
pub no-colon : (number : ℕ) → number < 2 ^ 64 → HasNo 58 (decimal number)
no-colon number small i inside = λ e.
    let digit = digit_at (decimal number) i (decimal_is_IsNumeral number small).0.1 inside in
    omega (arith, digit.1, e)

-- a text begins with a digit, and isn't empty
pub digit-first : (number : ℕ) (first : ℕ) (rest : List ℕ) → number < 2 ^ 64 → decimal number ≡ first ∷ rest → first ≢ 45
digit-first number first rest small is = λ e.
    let numeral = decimal_is_IsNumeral number small in
    let inside : 0 < length (decimal number) = numeral.0.0 in
    let digit = digit_at (decimal number) 0 numeral.0.1 inside in
    let here : get_or (decimal number) 0 0 ≡ first = rw is refl in
    omega (arith, digit.0, here, e)

-- what stands before the byte, and behind it
pub apart : (byte : ℕ) (xs ys rs ss : List ℕ) → HasNo byte xs → HasNo byte ys → xs ++ (byte ∷ rs) ≡ ys ++ (byte ∷ ss) → (xs ≡ ys) × (rs ≡ ss)
apart byte [] [] rs ss f g e = let same : rs ≡ ss = cc e in (refl, same)
apart byte [] (y ∷ ys) rs ss f g e = let here : y ≡ byte = cc e in absurd (g 0 (omega arith) here)
apart byte (x ∷ xs) [] rs ss f g e = let here : x ≡ byte = cc e in absurd (f 0 (omega arith) here)
apart byte (x ∷ xs) (y ∷ ys) rs ss f g e =
    let heads : x ≡ y = cc e in
    let tails : xs ++ (byte ∷ rs) ≡ ys ++ (byte ∷ ss) = cc e in
    let parts = apart byte xs ys rs ss (λ i inside. f (suc i) (omega (arith, inside))) (λ i inside. g (suc i) (omega (arith, inside))) tails in
    (rw (heads, parts.0) refl, parts.1)
