-- The lines of the tiers so far.
use Rattle.std.proofs.Common.{◌≡◌, take}
use Rattle.cm_check.specs.Contents.{slot_lines}
use Rattle.cm_check.specs.Quiets.{geo_of, words_of}
use Rattle.cm_check.proofs.lines.segment_lines.Given as goal

abbrev pub invariant-loop-place : goal.invariant-loop-place
invariant-loop-place l = l.lines.items ≡ slot_lines (geo_of l.quiet) l.quiet.segment (words_of l.quiet) (take l.place-index l.places)
