-- The change number is one of the segment's words.
use Rattle.std.proofs.Common.{arith}
use Rattle.cm_check.specs.HeadLaws.{number_broken}
use Rattle.cm_check.specs.Quiets.{geo_of}
use Rattle.cm_check.proofs.HeadWords.{head_inside}
use Rattle.cm_check.proofs.heads.number.Goals as goal

pub word-requires : goal.word-requires
word-requires c = omega (arith, head_inside (geo_of c.args.quiet.now))

pub returns : goal.returns
unfolding number_broken
returns c = rw (c.is_quiet_number.ensures, c.word.ensures) at c.named_unless.ensures
