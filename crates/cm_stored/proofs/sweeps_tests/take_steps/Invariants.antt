use Rattle.std.proofs.Common.{◌≤◌, length}
use Rattle.cm_store.specs.Sweeps.{MayStep}
use Rattle.cm_stored.proofs.sweeps_tests.take_steps.Given as goal

abbrev pub invariant-loop : goal.invariant-loop
invariant-loop g l = record { may : MayStep l.store l.pass; room : 256 ≤ length l.out }
