use Rattle.cm_laws.proofs.Remains.{ends_whole_or_torn}
use Rattle.cm_laws.proofs.laws.words_end_whole_or_torn.Goals as goal

pub returns : goal.returns
returns c = ends_whole_or_torn
