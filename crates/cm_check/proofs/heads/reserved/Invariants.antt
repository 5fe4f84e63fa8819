-- So far the law holds.
use Rattle.std.proofs.Common.{◌≡◌, ℕ, ◌<◌, true, []}
use Rattle.cm_check.specs.Places.{chain_in, is_linked}
use Rattle.cm_check.specs.HeadLaws.{reserved_in}
use Rattle.cm_check.specs.Quiets.{geo_of, words_of}
use Rattle.cm_check.proofs.heads.reserved.Given as goal

abbrev pub invariant-loop-place : goal.invariant-loop-place
invariant-loop-place l = (place : ℕ) → place < l.place → is_linked (chain_in (geo_of l.quiet) (words_of l.quiet)) place ≡ true → reserved_in (geo_of l.quiet) (words_of l.quiet) place ≡ []
