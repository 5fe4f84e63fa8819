use Rattle.cm_segment.proofs.RelocationStages.{unpoint_old_advances, may_unpoint_old}
use Rattle.cm_segment.proofs.relocating.unpoint_old.Goals as goal

pub remove_at-requires-clause-allowed : goal.remove_at-requires-clause-allowed
remove_at-requires-clause-allowed g c = may_unpoint_old c.requires.moves c.requires.apart c.requires.at

pub returns : goal.returns
returns g c = unpoint_old_advances c.requires.moves c.requires.apart c.requires.at c.remove_at.ensures
