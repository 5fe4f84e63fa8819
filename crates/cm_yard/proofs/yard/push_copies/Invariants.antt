use Rattle.std.proofs.Common.{◌≡◌, ◌++◌, replicate}
use Rattle.cm_yard.proofs.yard.push_copies.Given as goal

abbrev pub invariant-loop-done : goal.invariant-loop-done
invariant-loop-done l = l.words.items ≡ l.initial.words.items ++ replicate l._done l.word
