-- The chain was read.
use Rattle.std.proofs.Common.{ap, sym}
use Rattle.cm_check.proofs.QuietReads.{chain_read}
use Rattle.cm_check.proofs.quiet.Quiet.is_cut.Goals as goal

pub returns : goal.returns
returns c = sym (ap (λ found. found.cut) (chain_read c.args.self.now))
