-- The lines of the slots so far.
use Rattle.std.proofs.Common.{◌≡◌, ◌++◌}
use Rattle.cm_check.specs.Contents.{lines_in}
use Rattle.cm_check.specs.Quiets.{geo_of, words_of}
use Rattle.cm_check.proofs.lines.push_tier.Given as goal

abbrev pub invariant-loop-number : goal.invariant-loop-number
invariant-loop-number l = l.lines.items ≡ l.initial.lines.items ++ lines_in (geo_of l.quiet) l.quiet.segment (words_of l.quiet) l.number l.place
