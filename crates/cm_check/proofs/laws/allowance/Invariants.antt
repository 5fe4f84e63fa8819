-- So far the allowance is kept.
use Rattle.std.proofs.Common.{◌≡◌, ◌*◌, ◌≤◌, ℕ, ◌+◌, ◌<◌}
use Rattle.cm_words.specs.Maps.{segment_in}
use Rattle.cm_check.specs.LawOrder.{extra_before}
use Rattle.cm_check.proofs.laws.allowance.Given as goal

abbrev pub invariant-loop-segment : goal.invariant-loop-segment
invariant-loop-segment l = record {
  is : l.extra ≡ extra_before l.words.geo (segment_in l.words) l.segment;
  short : l.extra ≤ 8 * l.segment;
  kept : (earlier : ℕ) → earlier < l.segment → extra_before l.words.geo (segment_in l.words) (earlier + 1) ≤ l.words.geo.extra;
}
