use Rattle.std.proofs.Common.{refl}
use Rattle.cm_store.specs.Passes.{IsResting}
use Rattle.cm_caller.specs.Records.{AreNone}
use Rattle.cm_caller.proofs.Answering.{opened_gets, opens_passed, sweep_parts}
use Rattle.cm_caller.proofs.Goings.{goes_passed}
use Rattle.cm_caller.proofs.Rounds.{same_resting, waited_goes, waited_halts}
use Rattle.cm_caller.proofs.Trying.{refused_tries}
use Rattle.cm_caller.proofs.caller.Caller.open_sweep.Goals as goal

pub unreachable-requires : goal.unreachable-requires
unreachable-requires g c =
    let parts = sweep_parts c.line.result.now.op (c.requires.sweep c.line.result.now c.line.ensures) in c.in_default.not-Sweep parts.0 parts.1 parts.2

pub returns-in-Ok-clause-opened : goal.returns-in-Ok-clause-opened
returns-in-Ok-clause-opened g c =
    opened_gets g.F.Fuse.fused c.args.store.now c.args.script.now c.args.at c.args.self.now c.loop.self c.sweep_open.new.pass c.in-Ok.field-0 _ c.in-Sweep.segment c.as_slice.result.now
    c.loop.invariant c.in-Ok.ensures

pub loop-preserved : goal.loop-preserved
loop-preserved g c =
    let opened = rw c.in-Err-Busy.field-0-is at c.in-Err-Busy.ensures in
    let tries = refused_tries g.F.Fuse.fused c.args.store.now _ c.in-Sweep.segment c.as_slice.result.now c.line.result.now.op c.loop.self.pass c.sweep_open.new.pass c.in-Err-Busy.field-0-0
    c.in-Err-Busy.field-0-1 c.loop.invariant.goes.stands.safe opened in
    waited_goes g.F.Fuse.fused c.args.store.now c.args.script.now IsResting c.args.self.now c.loop.self c.line.result.now.op c.sweep_open.new.pass c.wait.new.pass c.wait.result
    same_resting c.loop.invariant tries c.wait.ensures

pub returns-in_err-wait-in-Err-Busy-clause-goes_on : goal.returns-in_err-wait-in-Err-Busy-clause-goes_on
returns-in_err-wait-in-Err-Busy-clause-goes_on g c =
    let opened = rw c.in-Err-Busy.field-0-is at c.in-Err-Busy.ensures in
    let tries = refused_tries g.F.Fuse.fused c.args.store.now _ c.in-Sweep.segment c.as_slice.result.now c.line.result.now.op c.loop.self.pass c.sweep_open.new.pass c.in-Err-Busy.field-0-0
    c.in-Err-Busy.field-0-1 c.loop.invariant.goes.stands.safe opened in
    let round = waited_goes g.F.Fuse.fused c.args.store.now c.args.script.now IsResting c.args.self.now c.loop.self c.line.result.now.op c.sweep_open.new.pass c.wait.new.pass c.wait.result
    same_resting c.loop.invariant tries c.wait.ensures in
    opens_passed g.F.Fuse.fused c.args.store.now c.args.script.now c.args.at c.args.self.now (record c.loop.self { pass = c.wait.new.pass }) c.from_residual.result
    c.in_err-wait-in-Err-Busy.field-0.0 c.from_residual.ensures.1 round.goes

pub returns-in_err-wait-in-Err-Busy-clause-opened : goal.returns-in_err-wait-in-Err-Busy-clause-opened
returns-in_err-wait-in-Err-Busy-clause-opened g c =
    let opened = rw c.in-Err-Busy.field-0-is at c.in-Err-Busy.ensures in
    let tries = refused_tries g.F.Fuse.fused c.args.store.now _ c.in-Sweep.segment c.as_slice.result.now c.line.result.now.op c.loop.self.pass c.sweep_open.new.pass c.in-Err-Busy.field-0-0
    c.in-Err-Busy.field-0-1 c.loop.invariant.goes.stands.safe opened in
    let round = waited_goes g.F.Fuse.fused c.args.store.now c.args.script.now IsResting c.args.self.now c.loop.self c.line.result.now.op c.sweep_open.new.pass c.wait.new.pass c.wait.result
    same_resting c.loop.invariant tries c.wait.ensures in
    goes_passed c.args.store.now c.args.script.now c.args.self.now.receipts.items (λ done. AreNone) AreNone (record c.loop.self { pass = c.wait.new.pass }) c.from_residual.result
    c.in_err-wait-in-Err-Busy.field-0.0 c.from_residual.ensures.1
    (waited_halts g.F.Fuse.fused c.args.store.now c.args.script.now IsResting c.args.self.now c.loop.self c.line.result.now.op c.sweep_open.new.pass c.wait.new.pass
    c.in_err-wait-in-Err-Busy.field-0.0 AreNone refl round c.in_err-wait-in-Err-Busy.ensures)
