use Rattle.std.proofs.Common.{arith}
use Rattle.cm_segment.proofs.PeekNotes.{head_inside}
use Rattle.cm_segment.proofs.peek_mem.PeekMemMem.number.Goals as goal

pub load-requires-clause-in_range : goal.load-requires-clause-in_range
load-requires-clause-in_range g c = (let head = head_inside (g.P.Peek.seen c.args.self.now.peek.now).geo in omega (arith, head))
