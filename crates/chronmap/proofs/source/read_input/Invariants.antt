use Rattle.std.proofs.Common.{length, ◌-◌, ◌≤◌}
use Rattle.std.specs.Io.KnownBytes.{Consumes}
use Rattle.chronmap.specs.declared.source.TheConstants.{MOST_TAKEN}
use Rattle.chronmap.proofs.source.read_input.Given as goal

abbrev pub invariant-loop-piece : goal.invariant-loop-piece
invariant-loop-piece g l = record {
  within : length l.bytes.items ≤ MOST_TAKEN;
  faults : (g.S.Source.seen l.fn.source).faults ≤ (g.S.Source.seen l.source).faults;
  taken : Consumes (g.S.Source.seen l.fn.source).bytes (g.S.Source.seen l.source).bytes l.bytes.items;
}

abbrev pub decreases-loop-piece : goal.decreases-loop-piece
decreases-loop-piece g l = MOST_TAKEN - length l.bytes.items
