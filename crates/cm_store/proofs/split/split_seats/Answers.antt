use Rattle.std.proofs.Common.{◌+◌, List, set, sym, subst, arith}
use Rattle.cm_lock.specs.declared.table.SegSeat.{SegSeat}
use Rattle.cm_store.proofs.Splitting.{Splits, splits_its, splits_made, splits_may, splits_more, splits_roots}
use Rattle.cm_store.proofs.split.split_seats.Goals as goal

pub split-seat-requires-clause-its : goal.split-seat-requires-clause-its
split-seat-requires-clause-its c =
    splits_its c.args.tables.now c.args.roots.now.items c.loop-at.roots.items c.loop-at.seats.items c.loop-at.at c.args.number c.loop-at.invariant.splits
    c.index-tables-at.result c.index_mut.result.now c.loop-at-test.true c.index-tables-at.is c.index_mut.ensures.value

pub split-seat-requires-clause-root : goal.split-seat-requires-clause-root
split-seat-requires-clause-root c =
    (splits_may c.args.tables.now c.args.roots.now.items c.loop-at.roots.items c.loop-at.seats.items c.loop-at.at c.args.number c.loop-at.invariant.splits
    c.index-tables-at.result c.index_mut.result.now c.loop-at-test.true c.index-tables-at.is c.index_mut.ensures.value c.requires.its c.requires.root).root

pub split-seat-requires-clause-never : goal.split-seat-requires-clause-never
split-seat-requires-clause-never c =
    (splits_may c.args.tables.now c.args.roots.now.items c.loop-at.roots.items c.loop-at.seats.items c.loop-at.at c.args.number c.loop-at.invariant.splits
    c.index-tables-at.result c.index_mut.result.now c.loop-at-test.true c.index-tables-at.is c.index_mut.ensures.value c.requires.its c.requires.root).never

pub loop-at-preserved : goal.loop-at-preserved
loop-at-preserved c = record {
  splits = subst (λ (l : List SegSeat). Splits c.args.tables.now c.args.roots.now.items (set c.loop-at.roots.items c.loop-at.at c.split-seat.new.root) l (c.loop-at.at + 1) c.args.number) (sym c.push_with_room.ensures.items)
      (splits_more c.args.tables.now c.args.roots.now.items c.loop-at.roots.items c.loop-at.seats.items c.loop-at.at c.args.number c.loop-at.invariant.splits
      c.index-tables-at.result c.index_mut.result.now c.loop-at-test.true c.index-tables-at.is c.index_mut.ensures.value
      c.split-seat.new.root c.split-seat.result c.split-seat.ensures.its c.split-seat.ensures.seat_its c.split-seat.ensures.view c.split-seat.ensures.seat);
  room = let r = c.loop-at.invariant.room in let m = c.push_with_room.ensures.capacity in omega arith;
}

pub returns-clause-roots : goal.returns-clause-roots
returns-clause-roots c =
    splits_roots c.args.tables.now c.args.roots.now.items c.loop-at.roots.items c.loop-at.seats.items c.loop-at.at c.args.number c.loop-at.invariant.splits c.requires.its c.loop-at-test.false

pub returns-clause-made : goal.returns-clause-made
returns-clause-made c =
    splits_made c.args.tables.now c.args.roots.now.items c.loop-at.roots.items c.loop-at.seats.items c.loop-at.at c.args.number c.loop-at.invariant.splits c.requires.its c.loop-at-test.false
