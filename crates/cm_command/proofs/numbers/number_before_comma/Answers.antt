use Rattle.std.proofs.Common.{◌∙◌, ◌++◌, ◌∷◌, ℕ, List, Some, None, ap, append_assoc, arith, sym}
use Rattle.std.specs.Prelude.{codes, decimal}
use Rattle.std.proofs.lemmas.Str.Pattern.{split_parts}
use Rattle.cm_command.proofs.ReadNumbers.{begins_cut}
use Rattle.cm_command.proofs.numbers.number_before_comma.Goals as goal

pub returns-in_err-digits : goal.returns-in_err-digits
returns-in_err-digits c = rw c.from_residual.ensures (λ number rest begins. begins_cut c.args.text.now number rest None c.in_err-digits.ensures.cases begins)

pub returns-in_err-number : goal.returns-in_err-number
returns-in_err-number c = rw c.from_residual-in_err-number.ensures (λ number rest begins.
    let cut = begins_cut c.args.text.now number rest (Some (c.in_ok-digits.digits, c.in_ok-digits.rest)) c.in_ok-digits.ensures.cases begins in
    c.in_err-number.ensures number (omega (arith, begins.0), cut.0))

pub returns : goal.returns
returns c =
    let parts = split_parts 44 c.args.text.now (Some (c.in_ok-digits.digits, c.in_ok-digits.rest)) c.in_ok-digits.ensures.cases (omega arith) in
    let rest = c.in_ok-digits.rest.now in
    let is = c.in_ok-number.ensures in (
      omega (arith, is.0),
      parts.0 ∙ ap (λ (digits : List ℕ). digits ++ (44 ∷ rest)) is.1 ∙ sym (append_assoc (decimal c.in_ok-number.number) (codes ",") rest),
    )
