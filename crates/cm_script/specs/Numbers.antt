-- Decimal numbers in texts (own): digits alone, and no leading zero but in `0` itself.
use Rattle.std.specs.Prelude.{ℕ, ◌≡◌, ◌^◌, ◌<◌, List, Option, find, decimal}
use Rattle.std.specs.List.{range_with_len}
use Rattle.std.specs.Str.{bytes_eq}

-- the text of a number of 32 bits
abbrev pub IsNumberOf : List ℕ → ℕ → Type 0
IsNumberOf text number = (number < 2 ^ 32) × (text ≡ decimal number)

-- of none
abbrev pub IsNoNumber : List ℕ → Type 0
IsNoNumber text = (number : ℕ) → IsNumberOf text number → ⊥

-- the number below a limit whose decimal text this is
unfoldable pub number_below : ℕ → List ℕ → Option ℕ
number_below limit text = find (λ number. bytes_eq (decimal number) text) (range_with_len 0 limit)
