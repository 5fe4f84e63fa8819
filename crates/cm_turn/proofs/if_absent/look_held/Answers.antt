use Rattle.std.proofs.Common.{rules, ◌∙◌}
use Rattle.cm_turn.proofs.KeptValues.{sighted_held}
use Rattle.cm_turn.proofs.if_absent.look_held.Goals as goal

pub returns-clause-found : goal.returns-clause-found
returns-clause-found g c =
    let h = sighted_held g.F.Fuse.fused c.look.new.mem c.args.table.now c.args.geo.now c.args.key.now c.look.result
    (c.look.ensures.loads.rest.loan.table ∙ c.hold-hold.ensures.table) c.look.ensures.found in
    search (rules, h)
