-- The segment's words are those that fit.
use Rattle.std.proofs.Common.{ap}
use Rattle.cm_words.specs.Memory.{MemSeen}
use Rattle.cm_recover.proofs.SegmentWords.{linked_in}
use Rattle.cm_recover.proofs.recovery.chain_in.Goals as goal

pub returns-clause-linked : goal.returns-clause-linked
returns-clause-linked c =
    linked_in c.new-mem.result c.chain.new.mem c.args.words.now c.args.segment c.geo.result.now c.alive.result c.new-mem.ensures.words
    (ap (λ (m : MemSeen). m.setting.segment) c.new-mem.ensures.seen) c.chain.ensures.loads.rest c.geo.ensures
    (rw c.alive.ensures at c.chain.ensures.linked)
