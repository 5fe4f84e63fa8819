use Rattle.cm_lock.proofs.ChangeSteps.{each_is_step}
use Rattle.cm_lock.proofs.laws.changes_are_steps.Goals as goal

pub returns : goal.returns
returns c = each_is_step
