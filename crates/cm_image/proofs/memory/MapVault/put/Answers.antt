use Rattle.std.proofs.Common.{arith}
use Rattle.std.proofs.lemmas.Map.Text.{text_keys}
use Rattle.std.proofs.lemmas.Result.{err_from_is_err_and}
use Rattle.cm_image.specs.InMemory.{files_in}
use Rattle.cm_image.proofs.memory.MapVault.put.Goals as goal

pub returns-in_err-insert-clause-others : goal.returns-in_err-insert-clause-others
unfolding files_in
returns-in_err-insert-clause-others c = λ name other. grind (arith, text_keys)

pub returns-in_err-insert-clause-unchanged : goal.returns-in_err-insert-clause-unchanged
unfolding files_in
returns-in_err-insert-clause-unchanged c =
    let stop = err_from_is_err_and c.from_residual-in_err-insert.result c.from_residual-in_err-insert.ensures.1 in
    rw stop.1 (λ name. grind (arith, text_keys))

pub returns-clause-set : goal.returns-clause-set
unfolding files_in
returns-clause-set c = grind (arith, text_keys)

pub returns-clause-others : goal.returns-clause-others
unfolding files_in
returns-clause-others c = λ name other. grind (arith, text_keys)
