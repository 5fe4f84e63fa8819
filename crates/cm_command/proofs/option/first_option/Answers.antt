use Rattle.std.proofs.Common.{◌∙◌}
use Rattle.cm_command.proofs.Fronts.{no-front-at}
use Rattle.cm_command.proofs.option.first_option.Goals as goal

pub returns-in_err-option-in-len1-up : goal.returns-in_err-option-in-len1-up
returns-in_err-option-in-len1-up c =
    rw c.from_residual.ensures (no-front-at c.args.words.now _ _ c.in-len1-up.len_at_least (c.as_str.ensures ∙ c.first-item.is) c.in_err-option-in-len1-up.ensures)
