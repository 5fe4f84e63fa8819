use Rattle.cm_lock.specs.declared.view.Level.TheVariants.{Update}
use Rattle.cm_turn.specs.Records.{Holds, IsIdle}
use Rattle.cm_laws.proofs.StopLevels.{calls_left}
use Rattle.cm_laws.proofs.laws.calls_keep_stops.Goals as goal

pub returns-clause-calls : goal.returns-clause-calls
returns-clause-calls c = calls_left IsIdle (λ looks last v. Unit {0})

pub returns-clause-steps : goal.returns-clause-steps
returns-clause-steps c = calls_left (Holds Update) (λ looks last v. Unit {0})
