-- The number of the text, where it is below the limit.
use Rattle.std.proofs.Common.{arith, sym}
use Rattle.cm_script.proofs.Decimals.{no-number-below, number-beyond, number-found}
use Rattle.cm_script.proofs.number.number_below.Goals as goal

pub returns-in_default : goal.returns-in_default
returns-in_default c = sym (no-number-below c.args.limit c.args.text.now (omega arith) c.in_default.ensures)

pub returns-then-number-limit : goal.returns-then-number-limit
returns-then-number-limit c =
    let is = c.in-Some.ensures in
    sym (number-found c.args.limit c.in-Some.number c.args.text.now (omega arith) c.if-number-limit.true (sym is.1))

pub returns-else-number-limit : goal.returns-else-number-limit
returns-else-number-limit c = sym (number-beyond c.args.limit c.in-Some.number c.args.text.now (omega arith) c.in-Some.ensures c.if-number-limit.false)
