use Rattle.cm_plain.specs.Plans.{plan_change}
use Rattle.cm_segment.proofs.Beginning.{has_begun}
use Rattle.cm_segment_tests.proofs.tests_caller.make.Goals as goal

pub apply-requires-clause-at : goal.apply-requires-clause-at
apply-requires-clause-at g c =
    has_begun (g.M.Mem.seen c.args.mem.now) (g.M.Mem.seen c.begin.new.self) c.args.geo.now
    (plan_change c.args.plan.now) c.args.plan.now.old_slot c.requires.writable c.in_ok-begin.ensures.begins.call.done
    c.requires.may.points
