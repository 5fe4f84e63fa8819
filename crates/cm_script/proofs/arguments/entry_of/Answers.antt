-- Where the key is refused, so is the entry.
use Rattle.cm_script.proofs.Exits.{at-exit}
use Rattle.cm_script.proofs.arguments.entry_of.Goals as goal

pub returns-in_err-check_key-clause-err : goal.returns-in_err-check_key-clause-err
returns-in_err-check_key-clause-err c =
    at-exit _ _ c.from_residual.ensures.1 (λ cause same asked. rw (← c.is_too_large.ensures) (c.in_err-check_key.ensures.err cause same _))
