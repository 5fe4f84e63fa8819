use Rattle.std.proofs.Common.{◌≡◌, ◌≤◌, ◌+◌, count_by, drop, nat_lt}
use Rattle.core.specs.Mem.Slots.{slots_items}
use Rattle.cm_yard.proofs.seats.count_owned.Given as goal

abbrev pub invariant-loop-at : goal.invariant-loop-at
invariant-loop-at l = record {
  within : l.count ≤ l.at;
  all : l.count + count_by (λ word. nat_lt 0 word) (drop l.at (slots_items l.closed.words)) ≡ count_by (λ word. nat_lt 0 word) (drop l.from (slots_items l.closed.words));
}
