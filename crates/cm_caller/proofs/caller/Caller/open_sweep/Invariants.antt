use Rattle.cm_store.specs.Passes.{IsResting}
use Rattle.cm_caller.proofs.Rounds.{GoesRound}
use Rattle.cm_caller.proofs.caller.Caller.open_sweep.Given as goal

abbrev pub invariant-loop : goal.invariant-loop
invariant-loop g l = GoesRound g.F.Fuse.fused l.store l.script IsResting l.fn.self l.self
