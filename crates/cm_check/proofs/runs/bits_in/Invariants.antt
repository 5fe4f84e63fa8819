-- So far each word of bits is that of the runs.
use Rattle.std.proofs.Common.{◌≡◌, ℕ, ◌<◌, false}
use Rattle.cm_check.specs.CountLaws.{are_bits_wrong}
use Rattle.cm_check.specs.Quiets.{geo_of, words_of}
use Rattle.cm_check.proofs.runs.bits_in.Given as goal

abbrev pub invariant-loop-word : goal.invariant-loop-word
invariant-loop-word l = (word : ℕ) → word < l.word → are_bits_wrong (geo_of l.quiet) (words_of l.quiet) l.place word ≡ false
