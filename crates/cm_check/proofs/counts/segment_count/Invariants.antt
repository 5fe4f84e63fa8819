-- The counts of the tiers so far.
use Rattle.std.proofs.Common.{◌≡◌, ◌*◌, ◌≤◌, take}
use Rattle.cm_check.specs.CountLaws.{counts_of}
use Rattle.cm_check.specs.Quiets.{geo_of, words_of}
use Rattle.cm_check.proofs.counts.segment_count.Given as goal

abbrev pub invariant-loop-place : goal.invariant-loop-place
invariant-loop-place l = record {
  is : l.count ≡ counts_of (geo_of l.quiet) (words_of l.quiet) (take l.place-index l.places);
  short : l.count ≤ 8192 * l.place-index;
}
