-- So far the laws hold.
use Rattle.std.proofs.Common.{◌≡◌, ℕ, ◌<◌, []}
use Rattle.cm_words.specs.Maps.{segment_in}
use Rattle.cm_check.specs.LawOrder.{breaks_in}
use Rattle.cm_check.proofs.laws.laws.Given as goal

abbrev pub invariant-loop-segment : goal.invariant-loop-segment
invariant-loop-segment l = (segment : ℕ) → segment < l.segment → breaks_in l.words.geo segment (segment_in l.words segment) ≡ []
