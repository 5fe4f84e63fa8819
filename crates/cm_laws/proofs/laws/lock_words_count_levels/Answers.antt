use Rattle.cm_laws.proofs.LevelsLeft.{lock_words_left}
use Rattle.cm_laws.proofs.laws.lock_words_count_levels.Goals as goal

pub returns : goal.returns
returns c = lock_words_left
