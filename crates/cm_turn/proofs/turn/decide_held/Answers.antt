use Rattle.std.proofs.Common.{rules, ◌∙◌}
use Rattle.cm_turn.proofs.Holding.{decided_held}
use Rattle.cm_turn.proofs.turn.decide_held.Goals as goal

pub returns-clause-decides : goal.returns-clause-decides
returns-clause-decides g c =
    let h = decided_held g.F.Fuse.fused c.decide.new.mem c.args.table.now c.args.geo.now (g.O.Operation.op c.args.operation.now) c.decide.new.out c.decide.result
    (c.decide.ensures.loads.rest.loan.table ∙ c.hold-hold.ensures.table) c.decide.ensures.decides in
    search (rules, h)
