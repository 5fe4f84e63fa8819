use Rattle.std.proofs.Common.{◌∙◌, [], ◌∷◌, ◌++◌, ℕ, List, length, ap, arith, length-append}
use Rattle.cm_lock.specs.Seats.{AllJoined}
use Rattle.cm_store.specs.Splits.{IsRootSeat}
use Rattle.cm_store.proofs.Closing.{closes_more, front_geos, front_its, front_views, last_view}
use Rattle.cm_store.proofs.close.+close_all.Goals as goal

pub close_all-requires : goal.close_all-requires
close_all-requires t c = (
  (let e = ap length c.in-Some.ensures.items in let l = length-append c.pop.new.self.items (c.in-Some.table ∷ []) in omega arith),
  (
    (front_its c.pop.new.self.items c.args.tables.items c.pop-2.new.self.items c.args.seats.items c.in-Some.table c.in-Some-pop.seat c.in-Some.ensures.items c.in-Some-pop.ensures.items c.requires.its),
    (
      (front_geos c.pop.new.self.items c.args.tables.items c.pop-2.new.self.items c.args.seats.items c.in-Some.table c.in-Some-pop.seat c.in-Some.ensures.items c.in-Some-pop.ensures.items c.args.geo.now c.requires.geos),
      (
        (front_views c.pop.new.self.items c.args.tables.items c.pop-2.new.self.items c.args.seats.items c.in-Some.table c.in-Some-pop.seat c.in-Some.ensures.items c.in-Some-pop.ensures.items IsRootSeat c.requires.root),
        (front_views c.pop.new.self.items c.args.tables.items c.pop-2.new.self.items c.args.seats.items c.in-Some.table c.in-Some-pop.seat c.in-Some.ensures.items c.in-Some-pop.ensures.items AllJoined c.requires.joined),
      ),
    ),
  ),
)

pub close-requires-clause-root : goal.close-requires-clause-root
close-requires-clause-root t c = last_view c.pop.new.self.items c.args.tables.items c.pop-2.new.self.items c.args.seats.items c.in-Some.table c.in-Some-pop.seat c.in-Some.ensures.items c.in-Some-pop.ensures.items IsRootSeat c.requires.root

pub close-requires-clause-joined : goal.close-requires-clause-joined
close-requires-clause-joined t c = last_view c.pop.new.self.items c.args.tables.items c.pop-2.new.self.items c.args.seats.items c.in-Some.table c.in-Some-pop.seat c.in-Some.ensures.items c.in-Some-pop.ensures.items AllJoined c.requires.joined

pub returns : goal.returns
returns t c =
    closes_more c.pop.new.self.items c.args.tables.items c.pop-2.new.self.items c.args.seats.items c.in-Some.table c.in-Some-pop.seat c.in-Some.ensures.items c.in-Some-pop.ensures.items
    c.args.geo.now c.in_ok-words.words.items c.in_ok-last.last.items c.extend_from_slice.new.self.items
    (c.in_ok-extend_from_slice.ensures.items ∙ ap (λ (l : List ℕ). c.in_ok-words.words.items ++ l) c.as_slice.ensures.value)
    c.requires.its c.requires.geos c.in_ok-words.ensures c.in_ok-last.ensures
