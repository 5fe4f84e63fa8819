use Rattle.std.proofs.Common.{IsTrue, subst, sym}
use Rattle.cm_words.specs.Effects.{Reads}
use Rattle.cm_words.proofs.CallSequences.{done_by, loads_more_err, loads_more_ok}
use Rattle.cm_turn.proofs.Verdicts.{judged}
use Rattle.cm_turn.proofs.operation.decide.Goals as goal

pub returns-in_err-number-clause-loads : goal.returns-in_err-number-clause-loads
returns-in_err-number-clause-loads g c =
    loads_more_err g.M.Mem.seen g.M.Mem.same_rest _ c.judge.new.mem c.number.new.self _ c.from_residual-in_err-number.result
    c.from_residual-in_err-number.ensures.0 (g.met.M.Mem.rest_transitive _ _ _)
    (done_by g.M.Mem.seen g.M.Mem.same_rest Reads Reads _ _ _ c.in_ok-verdict.ensures.loads) c.in_err-number.ensures.loads

pub returns-then-branch-eq-LAST-clause-loads : goal.returns-then-branch-eq-LAST-clause-loads
returns-then-branch-eq-LAST-clause-loads g c =
    loads_more_ok g.M.Mem.seen g.M.Mem.same_rest _ c.judge.new.mem c.number.new.self _ _ (g.met.M.Mem.rest_transitive _ _ _)
    (done_by g.M.Mem.seen g.M.Mem.same_rest Reads Reads _ _ _ c.in_ok-verdict.ensures.loads) c.in_ok-number.ensures.loads

pub returns-clause-loads : goal.returns-clause-loads
returns-clause-loads g c =
    loads_more_ok g.M.Mem.seen g.M.Mem.same_rest _ c.judge.new.mem c.number.new.self _ _ (g.met.M.Mem.rest_transitive _ _ _)
    (done_by g.M.Mem.seen g.M.Mem.same_rest Reads Reads _ _ _ c.in_ok-verdict.ensures.loads) c.in_ok-number.ensures.loads

pub returns-clause-decides : goal.returns-clause-decides
returns-clause-decides g c =
    judged (g.M.Mem.seen c.judge.new.mem) (g.M.Mem.seen c.number.new.self) c.args.geo.now (g.O.Operation.op c.args.operation.now) c.judge.new.out
    c.in_ok-verdict.verdict c.in_ok-number.field-0 c.in_ok-number.ensures.loads.call.done
    (subst (λ s. IsTrue s.guarded) (sym c.in_ok-verdict.ensures.loads.done.keeps.setting) c.requires.quiet.guarded)
    (subst (λ s. IsTrue s.shared) (sym c.in_ok-verdict.ensures.loads.done.keeps.setting) c.requires.quiet.shared)
    c.in_ok-number.ensures.number c.if-branch-eq-LAST.false c.in_ok-verdict.ensures.judges
