use Rattle.std.proofs.Common.{◌≡◌, ◌++◌, replicate, take}
use Rattle.cm_yard.specs.Words.{owners_from}
use Rattle.cm_yard.proofs.yard.first_words.Given as goal

abbrev pub invariant-loop-segment : goal.invariant-loop-segment
invariant-loop-segment l = l.words.items ≡ replicate l.geo.segments 0 ++ owners_from 0 (take l.segment l.linked)
