use Rattle.cm_segment.proofs.seek.look.Goals as goal

pub look_along-requires-clause-tiers : goal.look_along-requires-clause-tiers
look_along-requires-clause-tiers g c = c.first.ensures (g.M.Mem.seen c.args.mem.now) c.args.geo.now
