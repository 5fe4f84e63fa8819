-- The lock word is one of the segment's.
use Rattle.std.proofs.Common.{arith}
use Rattle.cm_check.specs.HeadLaws.{lock_broken}
use Rattle.cm_check.specs.Quiets.{geo_of}
use Rattle.cm_check.proofs.HeadWords.{head_inside}
use Rattle.cm_check.proofs.heads.lock.Goals as goal

pub word-requires : goal.word-requires
word-requires c = omega (arith, head_inside (geo_of c.args.quiet.now))

pub returns : goal.returns
unfolding lock_broken
returns c = rw c.word.ensures at c.named_unless.ensures
