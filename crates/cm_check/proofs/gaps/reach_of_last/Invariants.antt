-- So far each of the last slots isn't empty.
use Rattle.std.proofs.Common.{◌≢◌, ℕ, ◌-◌, ◌*◌, ◌<◌, None}
use Rattle.cm_plain.specs.Slots.{slot_in}
use Rattle.cm_check.specs.Quiets.{geo_of, words_of}
use Rattle.cm_check.proofs.gaps.reach_of_last.Given as goal

abbrev pub invariant-loop-behind : goal.invariant-loop-behind
invariant-loop-behind l = (behind : ℕ) → behind < l.behind → slot_in (geo_of l.quiet) (words_of l.quiet) l.place (2 * (geo_of l.quiet).chunks - 1 - behind) ≢ None
