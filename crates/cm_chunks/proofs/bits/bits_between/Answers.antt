use Rattle.cm_chunks.proofs.WordBits.{between}
use Rattle.cm_chunks.proofs.bits.bits_between.Goals as goal

pub returns : goal.returns
returns c = between c.args.low c.args.high c.requires.nonzero c.requires.inside
