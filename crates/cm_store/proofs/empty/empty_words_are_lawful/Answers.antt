use Rattle.cm_store.proofs.EmptyMaps.{empty_lawful}
use Rattle.cm_store.proofs.empty.empty_words_are_lawful.Goals as goal

pub returns : goal.returns
returns c = empty_lawful
