-- Where a key, a value or the segment is refused, so is the operation.
use Rattle.cm_script.proofs.Exits.{at-exit}
use Rattle.cm_script.proofs.arguments.op_of_two.Goals as goal

pub returns-in_err-key-in-Put-clause-err : goal.returns-in_err-key-in-Put-clause-err
returns-in_err-key-in-Put-clause-err c lists =
    at-exit _ _ c.from_residual.ensures.1 (rw (c.in-Put.is) (λ cause same. c.in_err-key-in-Put.ensures.err cause same _))

pub returns-in_err-key-in-PutIfAbsent-clause-err : goal.returns-in_err-key-in-PutIfAbsent-clause-err
returns-in_err-key-in-PutIfAbsent-clause-err c lists =
    at-exit _ _ c.from_residual-in_err-key-in-PutIfAbsent.ensures.1 (rw (c.in-PutIfAbsent.is) (λ cause same. c.in_err-key-in-PutIfAbsent.ensures.err cause same _))

pub returns-in_err-key-in-Replace-clause-err : goal.returns-in_err-key-in-Replace-clause-err
returns-in_err-key-in-Replace-clause-err c lists =
    at-exit _ _ c.from_residual-in_err-key-in-Replace.ensures.1 (rw (c.in-Replace.is) (λ cause same. c.in_err-key-in-Replace.ensures.err cause same _))

pub returns-in_err-expected-in-RemoveIf-clause-err : goal.returns-in_err-expected-in-RemoveIf-clause-err
returns-in_err-expected-in-RemoveIf-clause-err c lists =
    at-exit _ _ c.from_residual-in_err-expected-in-RemoveIf.ensures.1 (rw (c.in-RemoveIf.is) (λ cause same. c.in_err-expected-in-RemoveIf.ensures.err cause same _))

pub returns-in_err-key-in-RemoveIf-clause-err : goal.returns-in_err-key-in-RemoveIf-clause-err
returns-in_err-key-in-RemoveIf-clause-err c lists =
    at-exit _ _ c.from_residual-in_err-key-in-RemoveIf.ensures.1 (rw (c.in-RemoveIf.is, c.in_ok-expected-in-RemoveIf.ensures.ok _) (λ cause same. c.in_err-key-in-RemoveIf.ensures.err cause same _))

pub returns-in_err-segment-in-Sweep-clause-err : goal.returns-in_err-segment-in-Sweep-clause-err
returns-in_err-segment-in-Sweep-clause-err c lists =
    at-exit _ _ c.from_residual-in_err-segment-in-Sweep.ensures.1 (rw (c.in-Sweep.is) (λ cause same. c.in_err-segment-in-Sweep.ensures.err cause same _))
