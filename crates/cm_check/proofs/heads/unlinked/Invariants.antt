-- So far the law holds.
use Rattle.std.proofs.Common.{◌≡◌, ℕ, ◌<◌, true, not, []}
use Rattle.cm_check.specs.Places.{chain_in, is_linked}
use Rattle.cm_check.specs.HeadLaws.{nonzero_in}
use Rattle.cm_check.specs.Quiets.{geo_of, words_of}
use Rattle.cm_check.proofs.heads.unlinked.Given as goal

abbrev pub invariant-loop-place : goal.invariant-loop-place
invariant-loop-place l = (place : ℕ) → place < l.place → not (is_linked (chain_in (geo_of l.quiet) (words_of l.quiet)) place) ≡ true → nonzero_in (geo_of l.quiet) (words_of l.quiet) place ≡ []
