use Rattle.std.proofs.Common.{◌≡◌, ℕ, arith, subst}
use Rattle.std.specs.Int.{trailing_zeros, w64}
use Rattle.cm_chunks.specs.Bits.{IsFirstClear}
use Rattle.cm_chunks.proofs.ClearRuns.{first_clear, tells_more, tells_one}
use Rattle.cm_chunks.proofs.bits.clear_run_in.Goals as goal
use Rattle.cm_chunks.proofs.bits.clear_run_in.Goals.{then-loop-runs-test+else-known-bits, else-loop-runs-test}

pub loop-runs-init : goal.loop-runs-init
loop-runs-init c = record { nonzero = omega arith; within_limit = omega arith; knows = tells_one c.args.word (omega arith) }

pub loop-runs-preserved : goal.loop-runs-preserved
loop-runs-preserved c = record {
  nonzero = omega arith;
  within_limit = omega arith;
  knows = tells_more c.args.word c.loop-runs.runs c.loop-runs.known c.min-more.result (omega arith) c.loop-runs.invariant.knows;
}

pub returns : goal.returns
returns c =
    let all : c.loop-runs.known ≡ c.args.bits = elim c.loop-runs-test.branch [ then-loop-runs-test+else-known-bits w ↦ omega arith | else-loop-runs-test w ↦ omega arith ] in
    subst (λ (bits : ℕ). IsFirstClear c.args.word bits (trailing_zeros w64 c.loop-runs.runs)) all
    (first_clear c.args.word c.loop-runs.runs c.loop-runs.known (omega arith) c.if-runs-eq0.false c.loop-runs.invariant.knows)
