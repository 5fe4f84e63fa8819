use Rattle.cm_segment.proofs.RemovalStages.{free_run_advances, may_free_run}
use Rattle.cm_segment.proofs.removing.free_run.Goals as goal

pub clear-requires-clause-allowed : goal.clear-requires-clause-allowed
clear-requires-clause-allowed g c = may_free_run c.requires.removal c.requires.at

pub returns : goal.returns
returns g c = free_run_advances c.requires.removal c.requires.at c.clear.ensures.stores
