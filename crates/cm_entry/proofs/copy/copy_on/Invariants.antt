use Rattle.std.proofs.Common.{◌≡◌, ◌+◌, drop}
use Rattle.cm_words.specs.Calls.{HasLoaded}
use Rattle.cm_entry.specs.Progress.{IsCopySoFar}
use Rattle.cm_entry.proofs.copy.copy_on.Given as goal

abbrev pub invariant-loop-i : goal.invariant-loop-i
invariant-loop-i g l = record {
  loaded : HasLoaded g.M.Mem.seen g.M.Mem.same_rest l.initial.mem l.mem;
  events : (g.M.Mem.seen l.mem).meter.events + l.copied ≡ (g.M.Mem.seen l.initial.mem).meter.events + l.i;
  copied : IsCopySoFar (g.M.Mem.seen l.mem) l.span l.out l.i;
  behind : drop l.span.len l.out ≡ drop l.span.len l.initial.out;
}
