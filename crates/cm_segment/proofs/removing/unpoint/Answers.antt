use Rattle.cm_segment.proofs.RemovalStages.{may_unpoint, unpoint_advances}
use Rattle.cm_segment.proofs.removing.unpoint.Goals as goal

pub remove_at-requires-clause-allowed : goal.remove_at-requires-clause-allowed
remove_at-requires-clause-allowed g c = may_unpoint c.requires.removal c.requires.at

pub returns : goal.returns
returns g c = unpoint_advances c.requires.removal c.requires.at c.remove_at.ensures
