-- So far no run meets an earlier one, and the bits are those of the runs.
use Rattle.std.proofs.Common.{◌≡◌, ℕ, ◌<◌, false}
use Rattle.cm_check.specs.SlotLaws.{is_overlapping}
use Rattle.cm_check.specs.TakenChunks.{Tells}
use Rattle.cm_check.specs.Quiets.{geo_of, words_of}
use Rattle.cm_check.proofs.runs.taken_in.Given as goal

abbrev pub invariant-loop-number : goal.invariant-loop-number
invariant-loop-number l = record {
  kept : (number : ℕ) → number < l.number → is_overlapping (geo_of l.quiet) (words_of l.quiet) l.place number ≡ false;
  tells : Tells (geo_of l.quiet) (words_of l.quiet) l.place l.number l.taken.bits;
}
