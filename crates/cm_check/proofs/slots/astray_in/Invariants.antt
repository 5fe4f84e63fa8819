-- So far no slot is astray.
use Rattle.std.proofs.Common.{◌≡◌, ℕ, ◌<◌, false}
use Rattle.cm_check.specs.SlotLaws.{is_astray}
use Rattle.cm_check.specs.Quiets.{geo_of, words_of}
use Rattle.cm_check.proofs.slots.astray_in.Given as goal

abbrev pub invariant-loop-number : goal.invariant-loop-number
invariant-loop-number l = (number : ℕ) → number < l.number → is_astray (geo_of l.quiet) l.quiet.segment (words_of l.quiet) l.place number ≡ false
