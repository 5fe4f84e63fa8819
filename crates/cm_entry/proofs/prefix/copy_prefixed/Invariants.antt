-- The words so far are copied, and agree with the prefix.
use Rattle.std.proofs.Common.{◌≡◌, ◌+◌, ◌*◌, drop, min}
use Rattle.cm_words.specs.Calls.{HasLoaded}
use Rattle.cm_entry.specs.Progress.{IsCopySoFar}
use Rattle.cm_entry.specs.Prefixes.{AgreeSoFar}
use Rattle.cm_entry.proofs.prefix.copy_prefixed.Given as goal

abbrev pub invariant-loop-i : goal.invariant-loop-i
invariant-loop-i g l = record {
  loaded : HasLoaded g.M.Mem.seen g.M.Mem.same_rest l.initial.mem l.mem;
  events : (g.M.Mem.seen l.mem).meter.events ≡ (g.M.Mem.seen l.initial.mem).meter.events + l.i;
  copied : IsCopySoFar (g.M.Mem.seen l.mem) l.span l.out l.i;
  agree : AgreeSoFar (g.M.Mem.seen l.mem) l.span l.prefix l.i;
  behind : drop (min (8 * l.i) l.span.len) l.out ≡ drop (min (8 * l.i) l.span.len) l.initial.out;
}
