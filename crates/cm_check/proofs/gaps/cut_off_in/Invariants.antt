-- So far each slot is reached, and so many slots before this one aren't empty.
use Rattle.std.proofs.Common.{◌≡◌, ℕ, ◌+◌, ◌*◌, ◌<◌, ◌≤◌, false}
use Rattle.cm_check.specs.SlotLaws.{is_cut_off}
use Rattle.cm_check.specs.SlotReads.{IsReach}
use Rattle.cm_check.specs.Quiets.{geo_of, words_of}
use Rattle.cm_check.proofs.gaps.cut_off_in.Given as goal

abbrev pub invariant-loop-number : goal.invariant-loop-number
invariant-loop-number l = record {
  kept : (number : ℕ) → number < l.number → is_cut_off (geo_of l.quiet) (words_of l.quiet) l.place number ≡ false;
  reach : IsReach (geo_of l.quiet) (words_of l.quiet) l.place l.number l.reach;
  short : l.reach ≤ 2 * (geo_of l.quiet).chunks + l.number;
}
