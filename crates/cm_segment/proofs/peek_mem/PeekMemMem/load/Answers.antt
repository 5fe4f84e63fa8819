use Rattle.std.proofs.Common.{arith, refl}
use Rattle.cm_segment.proofs.PeekNotes.{head_inside}
use Rattle.cm_segment.proofs.PeekLoads.{knows_found, knows_head, loads_dead, loads_found, loads_once}
use Rattle.cm_segment.proofs.peek_mem.PeekMemMem.load.Goals as goal

pub load-requires-clause-in_range : goal.load-requires-clause-in_range
load-requires-clause-in_range g c = (let head = head_inside (g.P.Peek.seen c.args.self.now.peek.now).geo in omega (arith, head))

pub returns-in_err-load-clause-loads : goal.returns-in_err-load-clause-loads
returns-in_err-load-clause-loads g c =
    loads_dead g.P.Peek.seen g.P.Peek.same_rest 2 _ _ _ c.from_residual.result c.from_residual.ensures.0 refl c.in_err-load.ensures

pub returns-then-at-lt2-clause-loads : goal.returns-then-at-lt2-clause-loads
returns-then-at-lt2-clause-loads g c =
    let head = head_inside (g.P.Peek.seen c.args.self.now.peek.now).geo in
    loads_once g.P.Peek.seen g.P.Peek.same_rest 2 _ _ _ 0 refl (omega arith) (omega (arith, head)) c.in_ok-load.ensures

pub returns-then-at-lt2-clause-word : goal.returns-then-at-lt2-clause-word
returns-then-at-lt2-clause-word g c =
    let now = g.P.Peek.seen c.load.new.self in
    let head = head_inside now.geo in
    knows_head now c.args.at c.if-at-lt2.true (omega (arith, head, c.if-at-lt2.true))

pub returns-clause-loads : goal.returns-clause-loads
returns-clause-loads g c =
    loads_found g.P.Peek.seen g.P.Peek.same_rest c.args.at _ _ c.load-2.result refl c.if-at-lt2.false c.requires.in_range c.load-2.ensures

pub returns-clause-word : goal.returns-clause-word
returns-clause-word g c =
    knows_found g.P.Peek.seen g.P.Peek.same_rest c.args.at c.args.self.now.peek.now c.load-2.new.self c.load-2.result c.if-at-lt2.false c.requires.in_range c.load-2.ensures
