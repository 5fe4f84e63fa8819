use Rattle.std.proofs.Common.{◌≡◌, ◌∙◌, ◌+◌, ◌++◌, ◌∷◌, [], ℕ, refl, subst}
use Rattle.cm_store.specs.Passes.{IsResting}
use Rattle.cm_script.specs.Answers.{AnswersOnce}
use Rattle.cm_caller.specs.Callers.{receipt_of}
use Rattle.cm_caller.specs.Records.{AreNone}
use Rattle.cm_caller.proofs.Goings.{goes_passed}
use Rattle.cm_caller.proofs.Rounds.{noted_once, op_same, same_resting, tried_alive, waited_goes, waited_halts}
use Rattle.cm_caller.proofs.caller.Caller.ask.Goals as goal

pub returns-in-Answered-clause-answered : goal.returns-in-Answered-clause-answered
returns-in-Answered-clause-answered g c = λ line there.
    noted_once g.F.Fuse.fused c.args.store.now c.args.script.now IsResting c.args.self.now c.loop.self c.line.result.now.op c.call.new.pass c.args.at line c.in-Answered.spot c.in-Answered.reply
    c.note.new.self there (c.requires.record line there).caller_is (op_same c.args.script.now c.args.at line c.line.result.now there c.line.ensures) c.loop.invariant.0
    c.in-Answered.ensures.tries c.in_ok-note-in-Answered.ensures.pass
    (subst (λ (n : ℕ). c.note.new.self.receipts.items ≡ c.loop.self.receipts.items ++ receipt_of c.loop.self.number n 0 c.in-Answered.spot c.in-Answered.reply ∷ []) c.line_number.ensures
    c.in_ok-note-in-Answered.ensures.noted)

pub loop-preserved : goal.loop-preserved
loop-preserved g c = (
  waited_goes g.F.Fuse.fused c.args.store.now c.args.script.now IsResting c.args.self.now c.loop.self c.line.result.now.op c.call.new.pass c.wait.new.pass c.wait.result same_resting
      c.loop.invariant.0 c.in-Busy.ensures.tries c.wait.ensures,
  c.in-Busy.ensures.long ∙ c.loop.invariant.1,
)

pub returns-in_err-wait-in-Busy-clause-goes_on : goal.returns-in_err-wait-in-Busy-clause-goes_on
returns-in_err-wait-in-Busy-clause-goes_on g c =
    (waited_goes g.F.Fuse.fused c.args.store.now c.args.script.now IsResting c.args.self.now c.loop.self c.line.result.now.op c.call.new.pass c.wait.new.pass c.wait.result same_resting
    c.loop.invariant.0 c.in-Busy.ensures.tries c.wait.ensures).goes

pub returns-in_err-wait-in-Busy-clause-answered : goal.returns-in_err-wait-in-Busy-clause-answered
returns-in_err-wait-in-Busy-clause-answered g c = λ line there.
    let round = waited_goes g.F.Fuse.fused c.args.store.now c.args.script.now IsResting c.args.self.now c.loop.self c.line.result.now.op c.call.new.pass c.wait.new.pass c.wait.result same_resting
    c.loop.invariant.0 c.in-Busy.ensures.tries c.wait.ensures in
    goes_passed c.args.store.now c.args.script.now c.args.self.now.receipts.items (λ done. AnswersOnce c.args.store.now.geo (c.args.at + 1, line)) AreNone
    (record c.loop.self { pass = c.wait.new.pass }) c.from_residual-in_err-wait-in-Busy.result c.in_err-wait-in-Busy.field-0.0 c.from_residual-in_err-wait-in-Busy.ensures.1
    (waited_halts g.F.Fuse.fused c.args.store.now c.args.script.now IsResting c.args.self.now c.loop.self c.line.result.now.op c.call.new.pass c.wait.new.pass
    c.in_err-wait-in-Busy.field-0.0 AreNone refl round c.in_err-wait-in-Busy.ensures)

pub returns-in-Died-clause-answered : goal.returns-in-Died-clause-answered
returns-in-Died-clause-answered g c = λ line there.
    tried_alive g.F.Fuse.fused c.args.store.now c.args.script.now IsResting c.args.self.now c.loop.self c.line.result.now.op c.call.new.pass c.loop.invariant.0 c.in-Died.ensures.tries
