use Rattle.std.proofs.Common.{◌∙◌, ◌≤◌, ℕ, ap, subst, sym}
use Rattle.std.proofs.lemmas.Option.{same_Some}
use Rattle.cm_script.specs.declared.line.Line.{Line}
use Rattle.cm_caller.proofs.Performing.{record_of}
use Rattle.cm_caller.proofs.PerformRounds.{perform_ends, perform_halts, perform_mine, perform_other}
use Rattle.cm_caller.proofs.caller.Caller.perform.Goals as goal

pub loop-at-preserved-then-line-self : goal.loop-at-preserved-then-line-self
loop-at-preserved-then-line-self g c = (
  perform_other g.F.Fuse.fused c.args.store.now c.args.script.now c.args.self.now c.requires.ready c.loop-at.at c.line.result.now c.loop-at.self c.line.ensures c.loop-at.invariant.0
      c.if-line-self.true,
  c.loop-at.invariant.1,
)

pub answer-requires-clause-record : goal.answer-requires-clause-record
answer-requires-clause-record g c = λ line there.
    record_of c.args.store.now.geo c.args.script.now c.loop-at.self.number c.loop-at.at line c.requires.for_geo there
    (ap (λ (l : Line). l.caller) (same_Some line c.line.result.now (sym there ∙ c.line.ensures)) ∙ c.if-line-self.false)

pub returns-in-Err : goal.returns-in-Err
returns-in-Err g c =
    perform_halts g.F.Fuse.fused c.args.store.now c.args.script.now c.args.self.now c.requires.ready c.loop-at.at c.line.result.now c.loop-at.self c.line.ensures c.loop-at.invariant.0
    c.answer.new.self c.if-line-self.false c.in-Err.ensures.goes_on c.in-Err.halt c.in-Err.ensures.answered

pub loop-at-preserved : goal.loop-at-preserved
loop-at-preserved g c = (
  perform_mine g.F.Fuse.fused c.args.store.now c.args.script.now c.args.self.now c.requires.ready c.loop-at.at c.line.result.now c.loop-at.self c.line.ensures c.loop-at.invariant.0
      c.answer.new.self c.if-line-self.false c.in_default.ensures.goes_on c.in_default.ensures.answered,
  c.in_default.ensures.long ∙ c.loop-at.invariant.1,
)

pub returns : goal.returns
returns g c =
    perform_ends g.F.Fuse.fused c.args.store.now c.args.script.now c.args.self.now c.requires.ready c.loop-at.at c.loop-at.self c.loop-at.invariant.0
    (subst (λ (n : ℕ). n ≤ c.loop-at.at) c.len-at-end.ensures.value c.loop-at-test.false)
