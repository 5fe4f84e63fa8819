use Rattle.cm_laws.proofs.Allowance.{ends_allowed}
use Rattle.cm_laws.proofs.laws.words_end_within_the_allowance.Goals as goal

pub returns : goal.returns
returns c = ends_allowed
