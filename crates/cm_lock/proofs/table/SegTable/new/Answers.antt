use Rattle.cm_lock.proofs.Opening.{opens}
use Rattle.cm_lock.proofs.table.SegTable.new.Goals as goal

pub of_words-requires : goal.of_words-requires
of_words-requires c = let r = c.requires.rests in rw c.of.ensures (opens _ r.0 c.requires.are c.requires.unlocked c.requires.even c.requires.within_limit r.1)
