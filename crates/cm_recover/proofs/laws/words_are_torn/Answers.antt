-- Words at rest, words into which one entry is written, and words in which nothing was written, by the lemmas on each.
use Rattle.cm_recover.proofs.Zeros.{first_written_is_torn, resting_is_torn, zeros_are_torn}
use Rattle.cm_recover.proofs.laws.words_are_torn.Goals as goal

pub returns-clause-resting : goal.returns-clause-resting
returns-clause-resting c = resting_is_torn

pub returns-clause-first : goal.returns-clause-first
returns-clause-first c = first_written_is_torn

pub returns-clause-zeros : goal.returns-clause-zeros
returns-clause-zeros c = zeros_are_torn
