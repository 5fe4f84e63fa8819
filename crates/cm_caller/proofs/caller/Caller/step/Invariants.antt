use Rattle.std.proofs.Common.{◌≡◌, length}
use Rattle.cm_caller.specs.Records.{RestsAt}
use Rattle.cm_caller.proofs.Rounds.{GoesRound}
use Rattle.cm_caller.proofs.caller.Caller.step.Given as goal

abbrev pub invariant-loop : goal.invariant-loop
invariant-loop g l = GoesRound g.F.Fuse.fused l.store l.script (RestsAt l.store.geo l.script l.at) l.fn.self l.self × (length l.out ≡ length l.fn.out)
