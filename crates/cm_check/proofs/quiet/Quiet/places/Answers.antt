-- The chain was read.
use Rattle.std.proofs.Common.{sym}
use Rattle.cm_check.proofs.QuietReads.{places_read}
use Rattle.cm_check.proofs.quiet.Quiet.places.Goals as goal

pub returns : goal.returns
returns c = sym (places_read c.args.self.now)
