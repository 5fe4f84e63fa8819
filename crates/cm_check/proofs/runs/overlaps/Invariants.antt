-- So far the law holds.
use Rattle.std.proofs.Common.{◌≡◌, ℕ, ◌<◌, [], get_or}
use Rattle.cm_check.specs.SlotLaws.{is_overlapping, slots_where}
use Rattle.cm_check.specs.Quiets.{geo_of, words_of}
use Rattle.cm_check.proofs.runs.overlaps.Given as goal

abbrev pub invariant-loop-place : goal.invariant-loop-place
invariant-loop-place l = (k : ℕ) → k < l.place-index → slots_where (geo_of l.quiet) (get_or l.places k 0) (is_overlapping (geo_of l.quiet) (words_of l.quiet) (get_or l.places k 0)) ≡ []
