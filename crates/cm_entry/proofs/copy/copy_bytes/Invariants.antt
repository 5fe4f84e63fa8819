use Rattle.std.proofs.Common.{◌≡◌, ◌+◌, ◌*◌, drop}
use Rattle.cm_words.specs.Calls.{HasLoaded}
use Rattle.cm_entry.specs.Progress.{IsCopySoFar}
use Rattle.cm_entry.proofs.copy.copy_bytes.Given as goal

abbrev pub invariant-loop-four : goal.invariant-loop-four
invariant-loop-four g l = record {
  loaded : HasLoaded g.M.Mem.seen g.M.Mem.same_rest l.initial.mem l.mem;
  events : (g.M.Mem.seen l.mem).meter.events ≡ (g.M.Mem.seen l.initial.mem).meter.events + 4 * l.four;
  copied : IsCopySoFar (g.M.Mem.seen l.mem) l.span l.out (4 * l.four);
  behind : drop l.span.len l.out ≡ drop l.span.len l.initial.out;
}
