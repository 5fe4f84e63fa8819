use Rattle.cm_plain.proofs.OutsideHead.{resting_represents}
use Rattle.cm_segment.proofs.OldEntries.{old_none, old_some}
use Rattle.cm_segment.proofs.planning.old_of.Goals as goal

pub returns-in_default-clause-found : goal.returns-in_default-clause-found
returns-in_default-clause-found g c =
    λ words state fits rests. old_none c.args.key.now state (rw c.in_default.is at c.in_ok-sight.ensures.found words state fits
    (resting_represents c.args.geo.now (g.M.Mem.seen c.look_along.new.mem).setting.segment words state rests))

pub returns-clause-found : goal.returns-clause-found
returns-clause-found g c = λ words state fits rests.
    old_some c.args.geo.now (g.M.Mem.seen c.look_along.new.mem).setting.segment words state c.args.key.now c.in-Some.sight c.run_found.result rests
    (rw c.in-Some.is at c.in_ok-sight.ensures.found words state fits
    (resting_represents c.args.geo.now (g.M.Mem.seen c.look_along.new.mem).setting.segment words state rests))
    c.run_found.ensures.place c.run_found.ensures.chunk c.run_found.ensures.chunks
