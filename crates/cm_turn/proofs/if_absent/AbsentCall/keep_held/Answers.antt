use Rattle.std.proofs.Common.{rules, ◌∙◌, Some}
use Rattle.cm_plain.specs.declared.op.Op.TheVariants.{PutIfAbsent}
use Rattle.cm_turn.proofs.Holding.{answered_held}
use Rattle.cm_turn.proofs.KeptValues.{found_held}
use Rattle.cm_turn.proofs.if_absent.AbsentCall.keep_held.Goals as goal

pub keep-requires-clause-found : goal.keep-requires-clause-found
keep-requires-clause-found g c =
    found_held g.F.Fuse.fused c.hold-hold.result c.args.ground.now.table.now c.args.seat.now c.args.ground.now.geo.now c.args.self.now.key.now (Some c.args.sight)
    c.hold-hold.ensures.table c.hold-hold.ensures.seat c.requires.found

pub returns-clause-kept : goal.returns-clause-kept
returns-clause-kept g c =
    let h = answered_held g.F.Fuse.fused c.keep.new.mem c.args.ground.now.table.now (PutIfAbsent c.args.self.now.key.now c.args.self.now.value.now) c.keep.new.out c.keep.result
    (c.keep.ensures.loads.rest.loan.table ∙ c.hold-hold.ensures.table) c.keep.ensures.kept in
    search (rules, h)
