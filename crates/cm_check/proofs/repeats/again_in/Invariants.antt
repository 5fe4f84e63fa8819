-- So far no slot points to an entry whose key was there before.
use Rattle.std.proofs.Common.{◌≡◌, ℕ, ◌<◌, false}
use Rattle.cm_check.specs.SlotLaws.{is_again}
use Rattle.cm_check.specs.Quiets.{geo_of, words_of}
use Rattle.cm_check.proofs.repeats.again_in.Given as goal

abbrev pub invariant-loop-number : goal.invariant-loop-number
invariant-loop-number l = (number : ℕ) → number < l.number → is_again (geo_of l.quiet) (words_of l.quiet) l.earlier l.place number ≡ false
