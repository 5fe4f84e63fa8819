use Rattle.cm_history.proofs.Finishing.{ends_spent}
use Rattle.cm_history.proofs.laws.spent_answers_find_all_tiers.Goals as goal

pub returns : goal.returns
returns c = ends_spent
