-- The records so far have been made, and those of the numbers after the last one are still to come.
use Rattle.std.proofs.Common.{◌≡◌, ◌-◌, ◌++◌, vec_len}
use Rattle.cm_make.specs.Generated.{generated_lines, lines_from, numbers}
use Rattle.cm_make.proofs.generator.generated.Given as goal

abbrev pub invariant-loop-i : goal.invariant-loop-i
invariant-loop-i l = record {
  many : vec_len l.lines ≡ l.i;
  lines : l.lines.items ++ lines_from l.i (numbers (l.fn.records - l.i) l.number) ≡ generated_lines l.fn.records l.fn.seed;
}
