-- So far no earlier tier has the key.
use Rattle.std.proofs.Common.{◌≡◌, ℕ, ◌*◌, ◌<◌, false, get_or}
use Rattle.cm_check.specs.SlotLaws.{is_key_among}
use Rattle.cm_check.specs.Quiets.{geo_of, words_of}
use Rattle.cm_check.proofs.repeats.is_again.Given as goal

abbrev pub invariant-loop-other : goal.invariant-loop-other
invariant-loop-other l = (k : ℕ) → k < l.other-index → is_key_among (geo_of l.quiet) (words_of l.quiet) l.key (2 * (geo_of l.quiet).chunks) (get_or l.earlier k 0) ≡ false
