-- What recovery keeps of any words, of torn and of lawful ones, by the lemmas on each.
use Rattle.cm_recover.proofs.SecondRecovery.{keeps_recovered}
use Rattle.cm_recover.proofs.AnyEntries.{any_state}
use Rattle.cm_recover.proofs.TornOutcome.{keeps_outcomes}
use Rattle.cm_recover.proofs.LawfulWords.{keeps_states}
use Rattle.cm_recover.proofs.laws.recovery_keeps_what_stood.Goals as goal

pub returns-clause-states : goal.returns-clause-states
returns-clause-states c = any_state

pub returns-clause-torn : goal.returns-clause-torn
returns-clause-torn c = keeps_outcomes

pub returns-clause-lawful : goal.returns-clause-lawful
returns-clause-lawful c = keeps_states

pub returns-clause-second : goal.returns-clause-second
returns-clause-second c = keeps_recovered
