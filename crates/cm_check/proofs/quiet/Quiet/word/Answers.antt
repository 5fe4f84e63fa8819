-- The segment's words are those of the map.
use Rattle.cm_check.proofs.QuietReads.{word_read}
use Rattle.cm_check.proofs.quiet.Quiet.word.Goals as goal

pub returns : goal.returns
returns c = word_read c.args.self.now c.segment.result.now c.args.at c.segment.ensures
