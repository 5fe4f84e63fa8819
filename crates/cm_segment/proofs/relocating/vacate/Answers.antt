use Rattle.cm_segment.proofs.RelocationStages.{vacate_advances, may_vacate}
use Rattle.cm_segment.proofs.relocating.vacate.Goals as goal

pub clear-requires-clause-allowed : goal.clear-requires-clause-allowed
clear-requires-clause-allowed g c = may_vacate c.requires.moves c.requires.apart c.requires.at

pub returns : goal.returns
returns g c = vacate_advances c.requires.moves c.requires.apart c.requires.at c.clear.ensures.stores
