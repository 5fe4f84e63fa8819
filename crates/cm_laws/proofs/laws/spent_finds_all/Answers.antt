use Rattle.cm_lock.specs.declared.view.Level.TheVariants.{Update}
use Rattle.cm_turn.specs.Records.{Holds, IsIdle}
use Rattle.cm_laws.proofs.Owing.{spent_found}
use Rattle.cm_laws.proofs.laws.spent_finds_all.Goals as goal

pub returns-clause-calls : goal.returns-clause-calls
returns-clause-calls c = spent_found IsIdle (λ looks last v. Unit {0})

pub returns-clause-steps : goal.returns-clause-steps
returns-clause-steps c = spent_found (Holds Update) (λ looks last v. Unit {0})
