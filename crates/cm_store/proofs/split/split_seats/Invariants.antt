use Rattle.std.proofs.Common.{◌≤◌, length, vec_capacity}
use Rattle.cm_store.proofs.Splitting.{Splits}
use Rattle.cm_store.proofs.split.split_seats.Given as goal

abbrev pub invariant-loop-at : goal.invariant-loop-at
invariant-loop-at l = record {
  splits : Splits l.tables l.fn.roots.items l.roots.items l.seats.items l.at l.number;
  room : length l.tables ≤ vec_capacity l.seats;
}
