-- The callers so far were taken back.
use Rattle.std.proofs.Common.{ℕ, All, length}
use Rattle.cm_run.specs.Callers.{HasPerformed, IsRootOf}
use Rattle.cm_run.specs.Gathered.{Gathers}
use Rattle.cm_run.specs.RunGates.{SameGates}
use Rattle.cm_run.proofs.Gatherings.{IsBehind}
use Rattle.cm_run.proofs.run.gather.Given as goal

abbrev pub invariant-loop-caller : goal.invariant-loop-caller
invariant-loop-caller g l = record {
  number : ℕ;
  behind : IsBehind l.script l.callers.items number;
  performed : All (HasPerformed g.G.Gate.Fuse.fused l.store l.script) l.callers.items;
  root_is : IsRootOf l.store l.root;
  gates : SameGates (g.G.GateMaker.seen l.initial.gates) (g.G.GateMaker.seen l.gates);
  gathers : Gathers l.store l.script number l.all l.root;
}

abbrev pub decreases-loop-caller : goal.decreases-loop-caller
decreases-loop-caller g l = length l.callers.items
