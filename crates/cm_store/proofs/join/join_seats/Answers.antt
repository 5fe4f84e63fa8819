use Rattle.std.proofs.Common.{◌≡◌, ◌∙◌, length, arith}
use Rattle.cm_store.proofs.Joining.{join_from_its, join_its, join_more, join_root, joins_all}
use Rattle.cm_store.proofs.join.join_seats.Goals as goal

pub join-requires-clause-its : goal.join-requires-clause-its
join-requires-clause-its c =
    join_its c.args.tables.now c.args.roots.now.items c.args.seats.items c.loop-seat.roots.items c.loop-seat.seats.items c.requires.from_its c.loop-seat.invariant c.len-at.result c.pop.new.self.items
    c.index-tables-at.result c.index_mut.result.now c.in-Some.seat c.in-Some.ensures.items (c.len-at.ensures ∙ c.pop.new.self.ok.0) c.index-tables-at.is c.index_mut.ensures.value

pub join-requires-clause-from_its : goal.join-requires-clause-from_its
join-requires-clause-from_its c =
    join_from_its c.args.tables.now c.args.roots.now.items c.args.seats.items c.loop-seat.roots.items c.loop-seat.seats.items c.requires.from_its c.loop-seat.invariant c.len-at.result c.pop.new.self.items
    c.index-tables-at.result c.index_mut.result.now c.in-Some.seat c.in-Some.ensures.items (c.len-at.ensures ∙ c.pop.new.self.ok.0) c.index-tables-at.is c.index_mut.ensures.value

pub join-requires-clause-root : goal.join-requires-clause-root
join-requires-clause-root c =
    join_root c.args.tables.now c.args.roots.now.items c.args.seats.items c.loop-seat.roots.items c.loop-seat.seats.items c.requires.from_its c.loop-seat.invariant c.len-at.result c.pop.new.self.items
    c.index-tables-at.result c.index_mut.result.now c.in-Some.seat c.in-Some.ensures.items (c.len-at.ensures ∙ c.pop.new.self.ok.0) c.index-tables-at.is c.index_mut.ensures.value

pub loop-seat-preserved : goal.loop-seat-preserved
loop-seat-preserved c =
    join_more c.args.tables.now c.args.roots.now.items c.args.seats.items c.loop-seat.roots.items c.loop-seat.seats.items c.requires.from_its c.loop-seat.invariant c.len-at.result c.pop.new.self.items
    c.index-tables-at.result c.index_mut.result.now c.in-Some.seat c.in-Some.ensures.items (c.len-at.ensures ∙ c.pop.new.self.ok.0) c.index-tables-at.is c.index_mut.ensures.value
    c.join.new.root c.join.ensures.its c.join.ensures.view c.join.ensures.counts

none_left : (c : goal.After-drop-seats) → length c.loop-seat.seats.items ≡ 0
none_left c = let o = c.loop-seat.seats.ok.0 in let e = c.in_default.ensures.cases.0 in omega arith

pub returns-clause-joins : goal.returns-clause-joins
returns-clause-joins c = (joins_all c.args.tables.now c.args.roots.now.items c.args.seats.items c.loop-seat.roots.items c.loop-seat.seats.items c.requires.its c.requires.from_its c.loop-seat.invariant (none_left c)).0

pub returns-clause-counts : goal.returns-clause-counts
returns-clause-counts c = (joins_all c.args.tables.now c.args.roots.now.items c.args.seats.items c.loop-seat.roots.items c.loop-seat.seats.items c.requires.its c.requires.from_its c.loop-seat.invariant (none_left c)).1
