use Rattle.std.proofs.Common.{◌≡◌, length}
use Rattle.cm_caller.proofs.PerformRounds.{PerformsRound}
use Rattle.cm_caller.proofs.caller.Caller.perform.Given as goal

abbrev pub invariant-loop-at : goal.invariant-loop-at
invariant-loop-at g l = PerformsRound g.F.Fuse.fused l.store l.script l.at l.fn.self l.self × (length l.out ≡ 4096)
