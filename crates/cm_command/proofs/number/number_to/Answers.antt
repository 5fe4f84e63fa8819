-- What `parse` reads of the text is the number, where the number's own text is this text.
use Rattle.std.specs.Prelude.{decimal}
use Rattle.std.proofs.Common.{ap, arith, sym, ◌∙◌}
use Rattle.std.proofs.lemmas.Slice.Eq.{bytes_eq-Decides}
use Rattle.cm_command.proofs.Decimals.{not-parsed, parsed-same}
use Rattle.cm_command.proofs.number.number_to.Goals as goal
use Rattle.cm_command.proofs.number.number_to.Goals.{else-number-limit-via-then-number-limit+else-eq, else-number-limit-via-else-number-limit}

pub returns-in_default : goal.returns-in_default
returns-in_default c = not-parsed c.args.limit c.args.text.now c.in_default.field-0 (omega arith) c.in_default.ensures.value.0

pub returns-else-number-limit : goal.returns-else-number-limit
returns-else-number-limit c = λ number is.
    let same = parsed-same c.args.limit c.in-Ok.number number c.args.text.now (omega arith) c.in-Ok.ensures.value.0 is in
    elim c.else-number-limit.branch [
      | else-number-limit-via-then-number-limit+else-eq w ↦
          let hit = (bytes_eq-Decides w.format.result.now c.args.text.now).1 (w.format.ensures.text ∙ ap decimal same ∙ sym is.1) in
          cc (w.if-eq.ensures, hit)
      | else-number-limit-via-else-number-limit w ↦ omega (arith, w.if-number-limit.false, same, is.0)
    ]
