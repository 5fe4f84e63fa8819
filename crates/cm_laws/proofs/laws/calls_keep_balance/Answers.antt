use Rattle.cm_turn.specs.Records.{IsIdle}
use Rattle.cm_laws.proofs.Balancing.{calls_balance, idle_unplanned}
use Rattle.cm_laws.proofs.laws.calls_keep_balance.Goals as goal

pub returns : goal.returns
returns c = λ extra segment op out seats was now before later result.
    calls_balance IsIdle (λ looks last v. Unit {0}) extra segment op out seats was now before later result idle_unplanned
