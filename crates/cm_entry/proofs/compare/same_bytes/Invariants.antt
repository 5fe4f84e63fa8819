use Rattle.std.proofs.Common.{◌≡◌, ◌+◌}
use Rattle.cm_words.specs.Calls.{HasLoaded}
use Rattle.cm_entry.specs.Progress.{EqualSoFar}
use Rattle.cm_entry.proofs.compare.same_bytes.Given as goal

abbrev pub invariant-loop-i : goal.invariant-loop-i
invariant-loop-i g l = record {
  loaded : HasLoaded g.M.Mem.seen g.M.Mem.same_rest l.initial.mem l.mem;
  events : (g.M.Mem.seen l.mem).meter.events ≡ (g.M.Mem.seen l.initial.mem).meter.events + l.i;
  same : EqualSoFar (g.M.Mem.seen l.mem) l.span l.bytes l.i;
}
