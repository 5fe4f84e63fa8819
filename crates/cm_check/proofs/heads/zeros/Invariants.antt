-- So far each word is 0.
use Rattle.std.proofs.Common.{◌≡◌, ℕ, ◌<◌, ◌≤◌}
use Rattle.cm_plain.specs.Slots.{word_at}
use Rattle.cm_check.specs.Quiets.{words_of}
use Rattle.cm_check.proofs.heads.zeros.Given as goal

abbrev pub invariant-loop-at : goal.invariant-loop-at
invariant-loop-at l = (at : ℕ) → l.from ≤ at → at < l.at → word_at (words_of l.quiet) at ≡ 0
