use Rattle.std.proofs.Common.{◌≡◌, take}
use Rattle.core.specs.Mem.Slots.{slots_items}
use Rattle.cm_lock.proofs.seats.copied_words.Given as goal

abbrev pub invariant-loop-at : goal.invariant-loop-at
invariant-loop-at l = l.words.items ≡ take l.at (slots_items l.closed.words)
