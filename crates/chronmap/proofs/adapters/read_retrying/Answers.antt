use Rattle.chronmap.proofs.KnownBytes.{kept-Consumes}
use Rattle.chronmap.proofs.adapters.read_retrying.Goals as goal

pub returns-in-Ok-clause-bytes : goal.returns-in-Ok-clause-bytes
returns-in-Ok-clause-bytes g c = (kept-Consumes _ _ _ _ c.loop.invariant c.in-Ok.ensures.bytes.0, c.in-Ok.ensures.bytes.1)
