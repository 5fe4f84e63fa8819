use Rattle.std.proofs.Common.{◌≡◌, take}
use Rattle.cm_plain.specs.Readings.{bytes_of}
use Rattle.cm_entry.specs.Packing.{hash_on, words_of}
use Rattle.cm_entry.proofs.pack.hash_words.Given as goal

abbrev pub invariant-loop-number : goal.invariant-loop-number
invariant-loop-number l = l.hash ≡ hash_on l.state (bytes_of (take l.number (words_of l.bytes)))
