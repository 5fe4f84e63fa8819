use Rattle.cm_lock.specs.declared.view.Level.TheVariants.{Update}
use Rattle.cm_turn.specs.Records.{Holds, IsIdle}
use Rattle.cm_laws.proofs.Owing.{calls_found}
use Rattle.cm_laws.proofs.laws.calls_keep_found.Goals as goal

pub returns-clause-calls : goal.returns-clause-calls
returns-clause-calls c = calls_found IsIdle (λ looks last v. Unit {0})

pub returns-clause-steps : goal.returns-clause-steps
returns-clause-steps c = calls_found (Holds Update) (λ looks last v. Unit {0})
