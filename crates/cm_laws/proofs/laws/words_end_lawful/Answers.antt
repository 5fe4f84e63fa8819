use Rattle.cm_laws.proofs.Remains.{ends_lawful}
use Rattle.cm_laws.proofs.laws.words_end_lawful.Goals as goal

pub returns : goal.returns
returns c = ends_lawful
