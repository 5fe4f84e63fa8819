-- Which number below a limit a text is of.
use Rattle.std.specs.Prelude.{ℕ, ◌≡◌, ◌+◌, ◌^◌, ◌<◌, ◌≤◌, zero, suc, List, find, decimal, Option, Some, None, Result, Ok, Err}
use Rattle.std.specs.List.{range_with_len}
use Rattle.std.specs.Str.{IsUtf8, bytes_eq}
use Rattle.std.specs.Str.Parse.{ParsesUnsigned}
use Rattle.std.proofs.Common.{◌∙◌, ap, arith, inl, inr, refl, subst, sym}
use Rattle.std.proofs.lemmas.Bool.{cases_Bool}
use Rattle.std.proofs.lemmas.Fmt.{IsAscii-decimal, decimal_injective, parse-decimal}
use Rattle.std.proofs.lemmas.Slice.Eq.{bytes_eq-Decides}
use Rattle.std.proofs.lemmas.Str.{IsUtf8-from_ascii}
use Rattle.cm_script.specs.Numbers.{IsNoNumber, IsNumberOf, number_below}

-- the first number from here on whose text this is
first_of_text : ℕ → ℕ → List ℕ → Option ℕ
first_of_text from count text = find (λ number. bytes_eq (decimal number) text) (range_with_len from count)

-- a number in the range is found by its text
found : (count from number : ℕ) (text : List ℕ) → from + count ≤ 2 ^ 64 → from ≤ number → number < from + count → text ≡ decimal number
    → first_of_text from count text ≡ Some number
unfolding first_of_text
found zero from number text fits low high same = absurd (omega arith)
found (suc count) from number text fits low high same = elim (cases_Bool (bytes_eq (decimal from) text)) [
  | inl hit ↦
      let texts : decimal from ≡ decimal number = (bytes_eq-Decides (decimal from) text).0 hit ∙ same in
      rw hit (ap Some (decimal_injective from number (omega arith) (omega arith) texts))
  | inr miss ↦
      let other : from ≡ number → ⊥ = λ e. let yes = (bytes_eq-Decides (decimal from) text).1 (ap decimal e ∙ sym same) in cc in
      rw miss (found count (from + 1) number text (omega arith) (omega arith) (omega arith) same)
]

-- nothing is found where the text is of no number in the range
nothing : (count from : ℕ) (text : List ℕ) → ((number : ℕ) → number < from + count → text ≡ decimal number → ⊥) → first_of_text from count text ≡ None
unfolding first_of_text
nothing zero from text none = refl
nothing (suc count) from text none = elim (cases_Bool (bytes_eq (decimal from) text)) [
  | inl hit ↦ absurd (none from (omega arith) (sym ((bytes_eq-Decides (decimal from) text).0 hit)))
  | inr miss ↦ rw miss (nothing count (from + 1) text (λ number less. none number (omega arith)))
]

-- the number whose text it is
pub number-found : (limit number : ℕ) (text : List ℕ) → limit ≤ 2 ^ 32 → number < limit → decimal number ≡ text → number_below limit text ≡ Some number
unfolding number_below first_of_text
number-found limit number text fits less same = found limit 0 number text (omega arith) (omega arith) (omega arith) (sym same)

-- no number, as no number below the limit has this text
no-number : (limit : ℕ) (text : List ℕ) → ((number : ℕ) → number < limit → text ≡ decimal number → ⊥) → number_below limit text ≡ None
unfolding number_below first_of_text
no-number limit text none = nothing limit 0 text (λ number less. none number (omega arith))

-- the text of no number is of none below the limit
pub no-number-below : (limit : ℕ) (text : List ℕ) → limit ≤ 2 ^ 32 → IsNoNumber text → number_below limit text ≡ None
no-number-below limit text fits none = no-number limit text (λ number less same. none number (omega arith, same))

-- nor is that of a number at the limit or above it
pub number-beyond : (limit number : ℕ) (text : List ℕ) → limit ≤ 2 ^ 32 → IsNumberOf text number → limit ≤ number → number_below limit text ≡ None
number-beyond limit number text fits is beyond =
    no-number limit text (λ other less same.
    let numbers : number ≡ other = decimal_injective number other (omega (arith, is.0)) (omega arith) (sym is.1 ∙ same) in
    omega (arith, numbers, beyond, less))

-- bytes that are no UTF-8 are the text of no number
pub not-text : (text : List ℕ) → ¬ (IsUtf8 text) → IsNoNumber text
not-text text bad = λ number is. bad (subst IsUtf8 (sym is.1) (IsUtf8-from_ascii (decimal number) (IsAscii-decimal number (omega (arith, is.0)))))

-- nor is what `parse` refuses
pub not-parsed : {E : Type 0} → (text : List ℕ) (why : E) → ParsesUnsigned 32 10 text (Err why) → IsNoNumber text
not-parsed text why parsed = λ number is.
    let read : Err why ≡ Ok number = parse-decimal 32 number text (Err why) is.0 (omega (arith, is.0)) is.1 parsed in
    cc read

-- what `parse` reads is the number, or there is none
pub not-number : (number : ℕ) (text : List ℕ) → ParsesUnsigned {E = ℕ} 32 10 text (Ok number) → (decimal number ≡ text → ⊥) → IsNoNumber text
not-number number text parsed other = λ read is.
    let parse : Result ℕ ℕ = Ok number in
    let results : parse ≡ Ok read = parse-decimal 32 read text (Ok number) is.0 (omega (arith, is.0)) is.1 parsed in
    let numbers : number ≡ read = cc results in
    other (ap decimal numbers ∙ sym is.1)
