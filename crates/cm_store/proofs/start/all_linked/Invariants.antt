use Rattle.std.proofs.Common.{◌≡◌, map}
use Rattle.std.specs.List.{range_with_len}
use Rattle.cm_store.specs.Tables.{linked_in}
use Rattle.cm_store.proofs.start.all_linked.Given as goal

abbrev pub invariant-loop-segment : goal.invariant-loop-segment
invariant-loop-segment l = l.linked.items ≡ map (linked_in l.words) (range_with_len 0 l.segment)
