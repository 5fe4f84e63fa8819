use Rattle.std.proofs.Common.{length, take, ◌-◌, ◌≤◌}
use Rattle.std.specs.Io.KnownBytes.{Appends}
use Rattle.chronmap.proofs.sink.write_text.Given as goal

abbrev pub invariant-loop-at : goal.invariant-loop-at
invariant-loop-at g l = record {
  within : l.at ≤ length l.text;
  faults : (g.K.Sink.seen l.fn.sink).faults ≤ (g.K.Sink.seen l.sink).faults;
  given : Appends (g.K.Sink.seen l.fn.sink).bytes (g.K.Sink.seen l.sink).bytes (take l.at l.text);
}

abbrev pub decreases-loop-at : goal.decreases-loop-at
decreases-loop-at g l = length l.text - l.at
