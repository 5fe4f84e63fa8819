use Rattle.cm_yard.proofs.Claiming.{given_once}
use Rattle.cm_yard.proofs.laws.an_index_is_given_once.Goals as goal

pub returns : goal.returns
returns c = given_once
