use Rattle.std.proofs.Common.{rules, ◌∙◌}
use Rattle.cm_turn.proofs.ListReplies.{listed_held}
use Rattle.cm_turn.proofs.list_call.pairs_held.Goals as goal

pub returns-clause-right : goal.returns-clause-right
returns-clause-right g c =
    let h = listed_held g.F.Fuse.fused c.pairs_of.new.mem c.args.table.now c.args.geo.now c.pairs_of.result
    (c.pairs_of.ensures.loads.rest.loan.table ∙ c.hold-hold.ensures.table) c.requires.geo c.pairs_of.ensures.lists in
    search (rules, h)
