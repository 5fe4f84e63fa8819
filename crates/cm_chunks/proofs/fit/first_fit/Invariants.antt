use Rattle.std.proofs.Common.{◌≡◌, ◌+◌, ◌*◌, ◌≤◌}
use Rattle.cm_words.specs.Calls.{HasLoaded}
use Rattle.cm_chunks.specs.Passing.{ArePassed}
use Rattle.cm_chunks.proofs.fit.first_fit.Given as goal

abbrev pub invariant-loop-number : goal.invariant-loop-number
invariant-loop-number g l = record {
  loaded : HasLoaded g.M.Mem.seen g.M.Mem.same_rest l.initial.mem l.mem;
  events : (g.M.Mem.seen l.mem).meter.events ≡ (g.M.Mem.seen l.initial.mem).meter.events + l.number;
  before_few : l.before ≤ 64 * l.number;
  passed : ArePassed (g.M.Mem.seen l.mem) l.geo l.place l.chunks l.number l.before;
}
