use Rattle.cm_segment.proofs.RelocationStages.{free_old_advances, may_free_old}
use Rattle.cm_segment.proofs.relocating.free_old.Goals as goal

pub clear-requires-clause-allowed : goal.clear-requires-clause-allowed
clear-requires-clause-allowed g c = may_free_old c.requires.moves c.requires.same c.requires.at

pub returns : goal.returns
returns g c = free_old_advances c.requires.moves c.requires.same c.requires.at c.clear.ensures.stores
