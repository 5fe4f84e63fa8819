use Rattle.std.proofs.Common.{arith}
use Rattle.cm_plain.specs.Plans.{plan_change}
use Rattle.cm_words.proofs.FittingLists.{on_err}
use Rattle.cm_locked.proofs.EvenNumbers.{even_after}
use Rattle.cm_locked.proofs.PlansReady.{may_begin}
use Rattle.cm_locked.proofs.tests_change.put_number.Goals as goal
use Rattle.cm_locked.proofs.tests_change.put_number.Goals.{in-Ready, in-Ready-2}

pub make-requires-clause-number : goal.make-requires-clause-number
make-requires-clause-number g c =
    even_after (g.M.Mem.seen c.args.mem.now) (g.M.Mem.seen c.number.new.self) (g.M.Mem.seen c.plan_put.new.mem) c.in_ok-before.before
    c.requires.guarded c.in_ok-before.ensures.loads.call.done c.in_ok-before.ensures.number (let low = c.if-before.false in omega arith) c.in_ok-plan_put.ensures.loads.done

pub make-requires-clause-may : goal.make-requires-clause-may
make-requires-clause-may g c =
    let m = g.M.Mem.seen c.plan_put.new.mem in
    let begins = c.in_ok-plan_put.ensures.begins in
    elim c.match-branch-3.branch [
      | in-Ready w ↦ may_begin m c.args.geo.now _ c.in_ok-plan_put.field-0 c.match-branch-3.plan w.in-Ready.plan w.plan-is w.in-Ready.is begins
      | in-Ready-2 w ↦ may_begin m c.args.geo.now _ c.in_ok-plan_put.field-0 c.match-branch-3.plan w.in-Ready.plan w.plan-is w.in-Ready.is begins
    ]

pub returns-in_err-number-clause-dead : goal.returns-in_err-number-clause-dead
returns-in_err-number-clause-dead g c =
    let loaded = g.met.M.Mem.rest_transitive c.args.mem.now c.number.new.self c.plan_put.new.mem c.in_ok-before.ensures.loads.call.rest c.in_ok-plan_put.ensures.loads.rest in
    on_err c.from_residual-in_err-number.result (g.met.M.Mem.rest_transitive c.args.mem.now c.plan_put.new.mem c.make.new.mem loaded c.in_err-number.ensures.dead)

pub returns-clause-changed : goal.returns-clause-changed
returns-clause-changed g c =
    let change = plan_change c.match-branch-3.plan in
    let loaded = g.met.M.Mem.rest_transitive c.args.mem.now c.number.new.self c.plan_put.new.mem c.in_ok-before.ensures.loads.call.rest c.in_ok-plan_put.ensures.loads.rest in
    (change, g.met.M.Mem.rest_then_change c.args.mem.now c.plan_put.new.mem c.make.new.mem change c.in_ok-number.number loaded c.in_ok-number.ensures.changed)
