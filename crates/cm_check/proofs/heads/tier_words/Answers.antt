-- Behind the four words of the segment's head each tier has as many.
use Rattle.std.proofs.Common.{arith}
use Rattle.cm_check.proofs.HeadWords.{head_inside, tier_part}
use Rattle.cm_check.proofs.heads.tier_words.Goals as goal

pub overflow_sub-result : goal.overflow_sub-result
overflow_sub-result c = omega (arith, head_inside c.args.geo.now, c.segment_words.ensures)

pub returns : goal.returns
returns c = rw (c.segment_words.ensures, c.tiers.ensures) (tier_part c.args.geo.now)
