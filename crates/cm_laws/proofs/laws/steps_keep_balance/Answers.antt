use Rattle.cm_lock.specs.declared.view.Level.TheVariants.{Update}
use Rattle.cm_turn.specs.Records.{Holds}
use Rattle.cm_laws.proofs.Balancing.{calls_balance, holds_unplanned}
use Rattle.cm_laws.proofs.laws.steps_keep_balance.Goals as goal

pub returns : goal.returns
returns c = λ extra segment op out seats was now before later result.
    calls_balance (Holds Update) (λ looks last v. Unit {0}) extra segment op out seats was now before later result (holds_unplanned Update)
