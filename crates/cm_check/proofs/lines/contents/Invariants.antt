-- The lines of the segments so far.
use Rattle.std.proofs.Common.{◌≡◌, ℕ, ◌<◌, List}
use Rattle.std.specs.List.{flat_map, range_with_len}
use Rattle.cm_plain.specs.declared.receipt.MapLine.{MapLine}
use Rattle.cm_words.specs.Maps.{segment_in}
use Rattle.cm_check.specs.Contents.{ListsSegment}
use Rattle.cm_check.proofs.lines.contents.Given as goal

abbrev pub invariant-loop-segment : goal.invariant-loop-segment
invariant-loop-segment l = record {
  parts : ℕ → List MapLine;
  lines_are : l.lines.items ≡ flat_map parts (range_with_len 0 l.segment);
  listed : (segment : ℕ) → segment < l.segment → ListsSegment l.words.geo segment (segment_in l.words segment) (parts segment);
}
