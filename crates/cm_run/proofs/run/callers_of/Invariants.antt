-- The callers of the numbers so far are ready, and the root made their passes.
use Rattle.std.proofs.Common.{◌≡◌, [], All}
use Rattle.cm_caller.specs.Records.{IsReady}
use Rattle.cm_run.specs.Callers.{HasJoined, IsRootOf, MadeBelow, RootKeeps, askers_below, numbers}
use Rattle.cm_run.proofs.run.callers_of.Given as goal

abbrev pub invariant-loop-number : goal.invariant-loop-number
invariant-loop-number g l = record {
  numbers_are : numbers l.callers.items ≡ askers_below l.script l.number;
  ready : All (IsReady g.G.Gate.Fuse.fused l.store l.script) l.callers.items;
  root_is : IsRootOf l.store l.root;
  joined : HasJoined (askers_below l.script l.number) [] l.root;
  keeps : RootKeeps l.store (λ segment. []) l.root;
  made : MadeBelow l.script l.number (g.G.GateMaker.seen l.initial.gates) (g.G.GateMaker.seen l.gates);
}
