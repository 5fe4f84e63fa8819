-- So far the law holds.
use Rattle.std.proofs.Common.{◌≡◌, ℕ, ◌<◌, true, []}
use Rattle.cm_check.specs.Places.{chain_in, is_linked}
use Rattle.cm_check.specs.CountLaws.{bits_in}
use Rattle.cm_check.specs.Quiets.{geo_of, words_of}
use Rattle.cm_check.proofs.runs.bits.Given as goal

abbrev pub invariant-loop-place : goal.invariant-loop-place
invariant-loop-place l = (place : ℕ) → place < l.place → is_linked (chain_in (geo_of l.quiet) (words_of l.quiet)) place ≡ true → bits_in (geo_of l.quiet) (words_of l.quiet) place ≡ []
