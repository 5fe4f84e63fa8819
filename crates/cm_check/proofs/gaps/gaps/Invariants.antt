-- So far the law holds.
use Rattle.std.proofs.Common.{◌≡◌, ℕ, ◌<◌, true, []}
use Rattle.cm_check.specs.Places.{chain_in, is_linked}
use Rattle.cm_check.specs.SlotLaws.{is_cut_off, slots_where}
use Rattle.cm_check.specs.Quiets.{geo_of, words_of}
use Rattle.cm_check.proofs.gaps.gaps.Given as goal

abbrev pub invariant-loop-place : goal.invariant-loop-place
invariant-loop-place l = (place : ℕ) → place < l.place → is_linked (chain_in (geo_of l.quiet) (words_of l.quiet)) place ≡ true → slots_where (geo_of l.quiet) place (is_cut_off (geo_of l.quiet) (words_of l.quiet) place) ≡ []
