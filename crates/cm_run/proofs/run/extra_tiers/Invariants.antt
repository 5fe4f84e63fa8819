-- The tiers beyond the first ones of the segments so far.
use Rattle.std.proofs.Common.{◌≡◌, map, sum}
use Rattle.std.specs.List.{range_with_len}
use Rattle.cm_store.specs.Tables.{linked_in}
use Rattle.cm_run.proofs.run.extra_tiers.Given as goal

abbrev pub invariant-loop-segment : goal.invariant-loop-segment
invariant-loop-segment l = l.extra ≡ sum (map (linked_in l.words) (range_with_len 0 l.segment))
