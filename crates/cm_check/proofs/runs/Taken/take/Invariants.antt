-- So far no chunk was taken, and each is.
use Rattle.std.proofs.Common.{◌-◌}
use Rattle.cm_check.specs.TakenChunks.{AddsRun}
use Rattle.cm_check.proofs.runs.Taken.take.Given as goal

abbrev pub invariant-loop-at : goal.invariant-loop-at
invariant-loop-at l = AddsRun l.initial.self.bits l.self.bits l.chunk (l.at - l.chunk)
