use Rattle.std.proofs.Common.{◌≤◌, ◌-◌}
use Rattle.cm_chunks.proofs.ClearRuns.{TellsRuns}
use Rattle.cm_chunks.proofs.bits.clear_run_in.Given as goal

abbrev pub invariant-loop-runs : goal.invariant-loop-runs
invariant-loop-runs l = record {
  nonzero : 1 ≤ l.known;
  within_limit : l.known ≤ l.bits;
  knows : TellsRuns l.word l.runs l.known;
}

abbrev pub decreases-loop-runs : goal.decreases-loop-runs
decreases-loop-runs l = l.bits - l.known
