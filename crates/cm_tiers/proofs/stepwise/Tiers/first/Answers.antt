use Rattle.std.proofs.Common.{false}
use Rattle.cm_tiers.proofs.TiersFound.{first_found}
use Rattle.cm_tiers.proofs.stepwise.Tiers.first.Goals as goal

pub returns : goal.returns
returns c = λ m geo. first_found m geo false
