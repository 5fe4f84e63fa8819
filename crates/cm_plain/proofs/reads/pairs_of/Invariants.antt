-- So far the pairs are those of the entries so far.
use Rattle.std.proofs.Common.{◌≡◌, map, take}
use Rattle.cm_plain.specs.States.{pair_of}
use Rattle.cm_plain.proofs.reads.pairs_of.Given as goal

abbrev pub invariant-loop-entry : goal.invariant-loop-entry
invariant-loop-entry l = l.pairs.items ≡ map pair_of (take l.entry-index l.fn.entries)
