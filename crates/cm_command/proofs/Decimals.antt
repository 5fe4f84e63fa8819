-- Which number a text is of.
use Rattle.std.specs.Prelude.{ℕ, ◌≡◌, ◌^◌, ◌<◌, List, Result, Ok, Err}
use Rattle.std.specs.Str.Parse.{ParsesUnsigned}
use Rattle.std.proofs.Common.{arith}
use Rattle.std.proofs.lemmas.Fmt.{parse-decimal}
use Rattle.cm_command.specs.Texts.{IsNoNumberTo, IsNumberTo}

-- what `parse` refuses is the text of no number
pub not-parsed : {E : Type 0} → (limit : ℕ) (text : List ℕ) (why : E) → limit < 2 ^ 64 → ParsesUnsigned 64 10 text (Err why) → IsNoNumberTo limit text
not-parsed limit text why fits parsed = λ number is.
    let read : Err why ≡ Ok number = parse-decimal 64 number text (Err why) (omega (arith, is.0)) (omega (arith, is.0)) is.1 parsed in
    cc read

-- the number that `parse` reads is the text's, or there is none
pub parsed-same : (limit number other : ℕ) (text : List ℕ) → limit < 2 ^ 64 → ParsesUnsigned {E = ℕ} 64 10 text (Ok number) → IsNumberTo limit text other → number ≡ other
parsed-same limit number other text fits parsed is =
    let parse : Result ℕ ℕ = Ok number in
    let results : parse ≡ Ok other = parse-decimal 64 other text (Ok number) (omega (arith, is.0)) (omega (arith, is.0)) is.1 parsed in
    cc results
