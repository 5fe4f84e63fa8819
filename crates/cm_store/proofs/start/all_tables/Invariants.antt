use Rattle.std.proofs.Common.{◌≡◌, map}
use Rattle.std.specs.List.{range_with_len}
use Rattle.cm_lock.specs.Rule.{root_view}
use Rattle.cm_lock.specs.Tables.{key_of}
use Rattle.cm_store.specs.Passes.{AreSeatsOf, views}
use Rattle.cm_store.specs.Tables.{key_in}
use Rattle.cm_store.proofs.start.all_tables.Given as goal

abbrev pub invariant-loop-segment : goal.invariant-loop-segment
invariant-loop-segment l = record {
  keys : map key_of l.tables.items ≡ map (key_in l.words) (range_with_len 0 l.segment);
  its : AreSeatsOf l.tables.items l.seats.items;
  roots : views l.seats.items ≡ map root_view (map (key_in l.words) (range_with_len 0 l.segment));
}
