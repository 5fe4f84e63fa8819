-- Where a key or a value is refused, so is the operation.
use Rattle.cm_script.proofs.Exits.{at-exit}
use Rattle.cm_script.proofs.arguments.op_of_three.Goals as goal

pub returns-in_err-expected-in-ReplaceIf-clause-err : goal.returns-in_err-expected-in-ReplaceIf-clause-err
returns-in_err-expected-in-ReplaceIf-clause-err c lists =
    at-exit _ _ c.from_residual.ensures.1 (rw (c.in-ReplaceIf.is) (λ cause same. c.in_err-expected-in-ReplaceIf.ensures.err cause same _))

pub returns-in_err-key-in-ReplaceIf-clause-err : goal.returns-in_err-key-in-ReplaceIf-clause-err
returns-in_err-key-in-ReplaceIf-clause-err c lists =
    at-exit _ _ c.from_residual-in_err-key-in-ReplaceIf.ensures.1 (rw (c.in-ReplaceIf.is, c.in_ok-expected-in-ReplaceIf.ensures.ok _) (λ cause same. c.in_err-key-in-ReplaceIf.ensures.err cause same _))
