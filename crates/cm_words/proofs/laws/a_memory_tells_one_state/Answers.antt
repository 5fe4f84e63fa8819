use Rattle.cm_words.proofs.OneMemoryState.{its_words, under_once}
use Rattle.cm_words.proofs.laws.a_memory_tells_one_state.Goals as goal

pub returns-clause-once : goal.returns-clause-once
returns-clause-once c = under_once

pub returns-clause-alone : goal.returns-clause-alone
returns-clause-alone c = its_words
