use Rattle.std.proofs.Common.{rules, ◌∙◌}
use Rattle.cm_turn.proofs.SweptKeys.{found_held}
use Rattle.cm_turn.proofs.sweeping.find_held.Goals as goal

pub returns-clause-found : goal.returns-clause-found
returns-clause-found g c =
    let h = found_held g.F.Fuse.fused c.find_next.new.mem c.args.ground.now.table.now c.args.ground.now.geo.now c.args.ground.now.segment c.args.prefix.now c.find_next.new.key
    c.find_next.result (c.find_next.ensures.loads.rest.loan.table ∙ c.hold-hold.ensures.table) c.find_next.ensures.found in
    search (rules, h)
