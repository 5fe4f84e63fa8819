use Rattle.std.proofs.Common.{◌≡◌, ◌∙◌, ◌+◌, ◌++◌, ◌∷◌, [], ℕ, List, ap, refl, subst, sym}
use Rattle.cm_plain.specs.declared.op.Op.TheVariants.{Sweep}
use Rattle.cm_store.specs.Sweeps.{IsInSweep}
use Rattle.cm_script.specs.Answers.{calls_in}
use Rattle.cm_caller.specs.declared.tried.Tried.TheVariants as try
use Rattle.cm_caller.specs.Callers.{receipt_of}
use Rattle.cm_caller.specs.Records.{AreNone, RestsAt}
use Rattle.cm_caller.specs.Sweeping.{IsPart}
use Rattle.cm_caller.proofs.Answering.{sweep_parts}
use Rattle.cm_caller.proofs.Goings.{goes_passed}
use Rattle.cm_caller.proofs.Rounds.{noted_part, op_same, same_at, waited_goes, waited_halts}
use Rattle.cm_caller.proofs.SweepRounds.{rests_from, rests_to, tries_other}
use Rattle.cm_caller.proofs.caller.Caller.step.Goals as goal

pub unreachable-requires : goal.unreachable-requires
unreachable-requires g c =
    let parts = sweep_parts c.line.result.now.op (c.requires.sweep c.line.result.now c.line.ensures) in c.in_default.not-Sweep parts.0 parts.1 parts.2

pub step-requires-clause-stands : goal.step-requires-clause-stands
step-requires-clause-stands g c =
    let stands = c.loop.invariant.0.goes.stands in
    let is = c.in-Sweep.is ∙ ap (λ (p : List ℕ). Sweep c.in-Sweep.segment p) (sym c.as_slice.ensures) in
    record {
      its = stands.its;
      safe = stands.safe;
      number_is = refl;
      rests = rests_to c.args.store.now.geo c.args.script.now c.args.at c.line.result.now c.in-Sweep.segment c.as_slice.result.now c.line.ensures is c.loop.self.pass stands.rests;
    }

pub returns-in-Answered-clause-stepped : goal.returns-in-Answered-clause-stepped
returns-in-Answered-clause-stepped g c = λ line there.
    let op = Sweep c.in-Sweep.segment c.as_slice.result.now in
    let is : c.line.result.now.op ≡ op = c.in-Sweep.is ∙ ap (λ (p : List ℕ). Sweep c.in-Sweep.segment p) (sym c.as_slice.ensures) in
    let Rests = RestsAt c.args.store.now.geo c.args.script.now c.args.at in
    let rests = rests_from c.args.store.now.geo c.args.script.now c.args.at c.line.result.now c.in-Sweep.segment c.as_slice.result.now c.line.ensures is c.step.new.pass in
    let tries = tries_other g.F.Fuse.fused c.args.store.now (IsInSweep c.args.store.now.geo c.in-Sweep.segment c.as_slice.result.now) Rests op c.loop.self.pass c.step.new.pass (try.Answered c.in-Answered.spot c.in-Answered.reply) rests
    c.in-Answered.ensures.tries in
    noted_part g.F.Fuse.fused c.args.store.now c.args.script.now Rests c.args.self.now c.loop.self op c.step.new.pass c.args.at line c.args.part c.in-Answered.spot c.in-Answered.reply
    c.is_swept-swept.result c.note.new.self (sym c.is_swept-swept.ensures) there (c.requires.record line there).caller_is
    (op_same c.args.script.now c.args.at line c.line.result.now there c.line.ensures ∙ is) c.loop.invariant.0 tries c.in_ok-note-in-Answered.ensures.pass
    (subst (λ (n : ℕ). c.note.new.self.receipts.items ≡ c.loop.self.receipts.items ++ receipt_of c.loop.self.number n c.args.part c.in-Answered.spot c.in-Answered.reply ∷ [])
    c.line_number.ensures c.in_ok-note-in-Answered.ensures.noted)

pub loop-preserved : goal.loop-preserved
loop-preserved g c =
    let op = Sweep c.in-Sweep.segment c.as_slice.result.now in
    let is : c.line.result.now.op ≡ op = c.in-Sweep.is ∙ ap (λ (p : List ℕ). Sweep c.in-Sweep.segment p) (sym c.as_slice.ensures) in
    let Rests = RestsAt c.args.store.now.geo c.args.script.now c.args.at in
    let rests = rests_from c.args.store.now.geo c.args.script.now c.args.at c.line.result.now c.in-Sweep.segment c.as_slice.result.now c.line.ensures is c.step.new.pass in
    let tries = tries_other g.F.Fuse.fused c.args.store.now (IsInSweep c.args.store.now.geo c.in-Sweep.segment c.as_slice.result.now) Rests op c.loop.self.pass c.step.new.pass try.Busy rests
    c.in-Busy.ensures.tries in (
      waited_goes g.F.Fuse.fused c.args.store.now c.args.script.now Rests c.args.self.now c.loop.self op c.step.new.pass c.wait.new.pass c.wait.result
          (same_at c.args.store.now.geo c.args.script.now c.args.at) c.loop.invariant.0 tries c.wait.ensures,
      c.in-Busy.ensures.long ∙ c.loop.invariant.1,
    )

pub returns-in_err-wait-in-Busy-clause-goes_on : goal.returns-in_err-wait-in-Busy-clause-goes_on
returns-in_err-wait-in-Busy-clause-goes_on g c =
    let op = Sweep c.in-Sweep.segment c.as_slice.result.now in
    let is : c.line.result.now.op ≡ op = c.in-Sweep.is ∙ ap (λ (p : List ℕ). Sweep c.in-Sweep.segment p) (sym c.as_slice.ensures) in
    let Rests = RestsAt c.args.store.now.geo c.args.script.now c.args.at in
    let rests = rests_from c.args.store.now.geo c.args.script.now c.args.at c.line.result.now c.in-Sweep.segment c.as_slice.result.now c.line.ensures is c.step.new.pass in
    let tries = tries_other g.F.Fuse.fused c.args.store.now (IsInSweep c.args.store.now.geo c.in-Sweep.segment c.as_slice.result.now) Rests op c.loop.self.pass c.step.new.pass try.Busy rests
    c.in-Busy.ensures.tries in
    (waited_goes g.F.Fuse.fused c.args.store.now c.args.script.now Rests c.args.self.now c.loop.self op c.step.new.pass c.wait.new.pass c.wait.result
    (same_at c.args.store.now.geo c.args.script.now c.args.at) c.loop.invariant.0 tries c.wait.ensures).goes

pub returns-in_err-wait-in-Busy-clause-stepped : goal.returns-in_err-wait-in-Busy-clause-stepped
returns-in_err-wait-in-Busy-clause-stepped g c = λ line there.
    let op = Sweep c.in-Sweep.segment c.as_slice.result.now in
    let is : c.line.result.now.op ≡ op = c.in-Sweep.is ∙ ap (λ (p : List ℕ). Sweep c.in-Sweep.segment p) (sym c.as_slice.ensures) in
    let Rests = RestsAt c.args.store.now.geo c.args.script.now c.args.at in
    let rests = rests_from c.args.store.now.geo c.args.script.now c.args.at c.line.result.now c.in-Sweep.segment c.as_slice.result.now c.line.ensures is c.step.new.pass in
    let tries = tries_other g.F.Fuse.fused c.args.store.now (IsInSweep c.args.store.now.geo c.in-Sweep.segment c.as_slice.result.now) Rests op c.loop.self.pass c.step.new.pass try.Busy rests
    c.in-Busy.ensures.tries in
    let round = waited_goes g.F.Fuse.fused c.args.store.now c.args.script.now Rests c.args.self.now c.loop.self op c.step.new.pass c.wait.new.pass c.wait.result
    (same_at c.args.store.now.geo c.args.script.now c.args.at) c.loop.invariant.0 tries c.wait.ensures in
    goes_passed c.args.store.now c.args.script.now c.args.self.now.receipts.items (IsPart c.args.store.now.geo (c.args.at + 1, line) c.args.part) AreNone
    (record c.loop.self { pass = c.wait.new.pass }) c.from_residual-in_err-wait-in-Busy.result c.in_err-wait-in-Busy.field-0.0 c.from_residual-in_err-wait-in-Busy.ensures.1
    (waited_halts g.F.Fuse.fused c.args.store.now c.args.script.now Rests c.args.self.now c.loop.self op c.step.new.pass c.wait.new.pass
    c.in_err-wait-in-Busy.field-0.0 AreNone refl round c.in_err-wait-in-Busy.ensures)

pub returns-in-Died-clause-stepped : goal.returns-in-Died-clause-stepped
returns-in-Died-clause-stepped g c = λ line there.
    c.in-Died.ensures.tries.leaves (calls_in c.args.script.now c.loop.self.receipts.items) c.loop.invariant.0.keeps
