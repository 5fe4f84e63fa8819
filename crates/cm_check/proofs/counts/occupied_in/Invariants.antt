-- So many slots so far.
use Rattle.std.proofs.Common.{◌≡◌, ◌≤◌}
use Rattle.cm_check.specs.CountLaws.{occupied_among}
use Rattle.cm_check.specs.Quiets.{geo_of, words_of}
use Rattle.cm_check.proofs.counts.occupied_in.Given as goal

abbrev pub invariant-loop-number : goal.invariant-loop-number
invariant-loop-number l = record {
  is : l.occupied ≡ occupied_among (geo_of l.quiet) (words_of l.quiet) l.place l.number;
  short : l.occupied ≤ l.number;
}
