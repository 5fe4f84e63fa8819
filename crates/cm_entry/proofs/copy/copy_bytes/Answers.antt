use Rattle.std.proofs.Common.{arith, ◌≡◌, ◌*◌, ◌+◌, ◌∙◌, refl, subst}
use Rattle.cm_words.proofs.CallSequences.{done_by, loaded_none, loaded_then, loads_then_err, then_call}
use Rattle.cm_words.proofs.FittingLists.{reads_transitive}
use Rattle.cm_words.specs.Effects.{Reads}
use Rattle.cm_entry.proofs.LoadCounts.{answer_err}
use Rattle.std.proofs.lemmas.Result.{IfOk-weaker}
use Rattle.cm_entry.proofs.SpanCopies.{copied_none}
use Rattle.cm_entry.specs.Progress.{IsCopySoFar}
use Rattle.cm_entry.proofs.copy.copy_bytes.Goals as goal

pub loop-four-init : goal.loop-four-init
loop-four-init g c = record {
  loaded = loaded_none g.M.Mem.seen g.M.Mem.same_rest c.args.mem.now (g.met.M.Mem.rest_reflexive _);
  events = omega arith;
  copied = copied_none (g.M.Mem.seen c.args.mem.now) c.args.span c.args.out.now;
  behind = refl;
}

pub loop-four-preserved : goal.loop-four-preserved
loop-four-preserved g c = record {
  loaded = loaded_then g.M.Mem.seen g.M.Mem.same_rest _ c.loop-four.mem c.copy_four.new.mem (g.met.M.Mem.rest_transitive _ _ _) c.loop-four.invariant.loaded
      (done_by g.M.Mem.seen g.M.Mem.same_rest Reads Reads c.loop-four.mem c.copy_four.new.mem _ c.in_ok-copy_four.ensures.loads.loads);
  events = omega (arith, c.loop-four.invariant.events, c.in_ok-copy_four.ensures.loads.count);
  copied = subst (λ n. IsCopySoFar (g.M.Mem.seen c.copy_four.new.mem) c.args.span c.copy_four.new.out n) (let h : 4 * c.loop-four.four + 4 ≡ 4 * (c.loop-four.four + 1) = omega arith in h) c.in_ok-copy_four.ensures.copied;
  behind = c.in_ok-copy_four.ensures.rest ∙ c.loop-four.invariant.behind;
}

pub returns-in_err-copy_four-clause-copied : goal.returns-in_err-copy_four-clause-copied
returns-in_err-copy_four-clause-copied g c =
    answer_err g.M.Mem.seen g.M.Mem.same_rest _ c.copy_four.new.mem c.from_residual.result c.from_residual.ensures.0
    (loads_then_err g.M.Mem.seen g.M.Mem.same_rest _ c.loop-four.mem c.copy_four.new.mem _ c.from_residual.result c.from_residual.ensures.0 (g.met.M.Mem.rest_transitive _ _ _) c.loop-four.invariant.loaded c.in_err-copy_four.ensures.loads.loads) _ _

pub returns-clause-copied : goal.returns-clause-copied
returns-clause-copied g c = record {
  counted = record {
    loads = then_call g.M.Mem.seen g.M.Mem.same_rest Reads Reads Reads Reads Reads _ c.loop-four.mem c.copy_on.new.mem c.copy_on.result (g.met.M.Mem.rest_transitive _ _ _) c.loop-four.invariant.loaded c.copy_on.ensures.copied.counted.loads
        (reads_transitive _ _ _) (reads_transitive _ _ _);
    count = IfOk-weaker c.copy_on.result _ _ (λ answer e. omega (arith, e, c.loop-four.invariant.events, c.loop-four.auto)) c.copy_on.ensures.copied.counted.count;
  };
  answer = c.copy_on.ensures.copied.answer;
}
