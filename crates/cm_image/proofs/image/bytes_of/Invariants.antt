use Rattle.std.proofs.Common.{◌≡◌, ◌++◌, ◌*◌, take}
use Rattle.cm_geo.specs.Addresses.{words_in_segment}
use Rattle.cm_image.specs.Images.{header_bytes, word_bytes}
use Rattle.cm_image.proofs.image.bytes_of.Given as goal

abbrev pub invariant-loop-segment : goal.invariant-loop-segment
invariant-loop-segment l = l.bytes.items ≡ header_bytes l.words.geo ++ word_bytes (take (l.segment * words_in_segment l.words.geo) l.words.words)
