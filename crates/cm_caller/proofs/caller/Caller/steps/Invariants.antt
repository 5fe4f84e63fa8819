use Rattle.std.proofs.Common.{◌≡◌, length}
use Rattle.cm_caller.proofs.SweepRounds.{SweepsRound}
use Rattle.cm_caller.proofs.caller.Caller.steps.Given as goal

abbrev pub invariant-loop-part : goal.invariant-loop-part
invariant-loop-part g l = SweepsRound g.F.Fuse.fused l.store l.script l.at l.part l.fn.self l.self × (length l.out ≡ length l.fn.out)
