-- What `parse` reads of the text is the number, where the number's own text is this text.
use Rattle.std.proofs.Common.{arith, sym, ◌∙◌}
use Rattle.std.proofs.lemmas.Slice.Eq.{bytes_eq-Decides}
use Rattle.cm_script.proofs.Decimals.{not-number, not-parsed, not-text}
use Rattle.cm_script.proofs.number.number_of.Goals as goal

pub returns-in_default : goal.returns-in_default
returns-in_default c = not-text c.args.text.now c.in_default.ensures.cases.0

pub returns-in_default-parse : goal.returns-in_default-parse
returns-in_default-parse c =
    let parsed = rw c.in-Ok.ensures.cases.0 at c.in_default-parse.ensures.value.0 in
    not-parsed c.args.text.now c.in_default-parse.field-0 parsed

pub returns-then-eq : goal.returns-then-eq
returns-then-eq c =
    let parsed = rw c.in-Ok.ensures.cases.0 at c.in-Ok-parse.ensures.value.0 in
    let same = (bytes_eq-Decides c.as_bytes.result.now c.args.text.now).0 (sym c.if-eq.ensures) in
    (omega (arith, parsed.0.1, parsed.1), sym same ∙ c.as_bytes.ensures.value ∙ c.format.ensures.text)

pub returns-else-eq : goal.returns-else-eq
returns-else-eq c =
    let parsed = rw c.in-Ok.ensures.cases.0 at c.in-Ok-parse.ensures.value.0 in
    not-number c.in-Ok-parse.number c.args.text.now parsed (λ same.
    let hit = (bytes_eq-Decides c.as_bytes.result.now c.args.text.now).1 (c.as_bytes.ensures.value ∙ c.format.ensures.text ∙ same) in
    cc (c.if-eq.ensures, hit))
