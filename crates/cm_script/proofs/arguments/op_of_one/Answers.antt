-- Where the key or the segment is refused, so is the operation.
use Rattle.cm_script.proofs.Exits.{at-exit}
use Rattle.cm_script.proofs.arguments.op_of_one.Goals as goal

pub returns-in_err-key_of-in-Get-clause-err : goal.returns-in_err-key_of-in-Get-clause-err
returns-in_err-key_of-in-Get-clause-err c =
    at-exit _ _ c.from_residual.ensures.1 (rw (c.in-Get.is) (λ cause same. c.in_err-key_of-in-Get.ensures.err cause same _))

pub returns-in_err-key_of-in-Remove-clause-err : goal.returns-in_err-key_of-in-Remove-clause-err
returns-in_err-key_of-in-Remove-clause-err c =
    at-exit _ _ c.from_residual-in_err-key_of-in-Remove.ensures.1 (rw (c.in-Remove.is) (λ cause same. c.in_err-key_of-in-Remove.ensures.err cause same _))

pub returns-in_err-segment_of-in-List-clause-err : goal.returns-in_err-segment_of-in-List-clause-err
returns-in_err-segment_of-in-List-clause-err c =
    at-exit _ _ c.from_residual-in_err-segment_of-in-List.ensures.1 (rw (c.in-List.is) (λ cause same. c.in_err-segment_of-in-List.ensures.err cause same _))

pub returns-in_err-segment_of-in-Count-clause-err : goal.returns-in_err-segment_of-in-Count-clause-err
returns-in_err-segment_of-in-Count-clause-err c =
    at-exit _ _ c.from_residual-in_err-segment_of-in-Count.ensures.1 (rw c.in-Count.is (λ cause same. c.in_err-segment_of-in-Count.ensures.err cause same _))
