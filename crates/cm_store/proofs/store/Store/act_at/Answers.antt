use Rattle.std.proofs.Common.{◌∙◌, ℕ, refl, set, sym, ap, subst, arith}
use Rattle.cm_geo.specs.declared.geo.Geo.{Geo}
use Rattle.cm_lock.specs.declared.view.View.{View}
use Rattle.cm_lock.specs.Tables.{view_of}
use Rattle.cm_yard.specs.Yards.{view_of as yard_view_of}
use Rattle.cm_store.specs.Passes.{meter_of, views}
use Rattle.cm_turn.specs.Turns.{turn_meter}
use Rattle.cm_store.proofs.Seats.{counted, reports_alike, seat_of, seats_set, view_there, views_set}
use Rattle.cm_store.proofs.store.Store.act_at.Goals as goal

pub act-ended-requires-clause-its : goal.act-ended-requires-clause-its
act-ended-requires-clause-its g c =
    seat_of c.args.self.now.tables.items c.args.pass.now.seats.items c.requires.its.seats c.args.segment c.ground-ground.result.table.now c.index_mut.result.now
    c.ground-ground.ensures.table c.index_mut.ensures.value

pub act-ended-requires-clause-may : goal.act-ended-requires-clause-may
act-ended-requires-clause-may g c =
    subst (λ (n : ℕ). g.C.SeatCall.may c.args.call.now c.ground-ground.result.geo.now n (view_of c.index_mut.result.now)) (sym c.ground-ground.ensures.segment)
    (subst (λ (geo : Geo). g.C.SeatCall.may c.args.call.now geo c.args.segment (view_of c.index_mut.result.now)) (sym c.ground-ground.ensures.geo)
    (c.requires.may (view_of c.index_mut.result.now)
    (view_there c.args.self.now.tables.items c.args.pass.now.seats.items c.requires.its.seats c.args.segment c.ground-ground.result.table.now c.index_mut.result.now
    c.ground-ground.ensures.table c.index_mut.ensures.value)))

pub returns-clause-its : goal.returns-clause-its
returns-clause-its g c = record {
  seats = seats_set c.args.self.now.tables.items c.args.pass.now.seats.items c.requires.its.seats c.args.segment c.ground-ground.result.table.now c.index_mut.result.now
      c.ground-ground.ensures.table c.index_mut.ensures.value c.act-ended.new.seat c.act-ended.ensures.its;
  claims = c.act-ended.ensures.claims_its ∙ ap (λ y. y.table.shared.table_id) c.ground-ground.ensures.yard;
}

pub returns-clause-acts : goal.returns-clause-acts
returns-clause-acts g c =
    let Left = λ (segment extra : ℕ). g.C.SeatCall.leaves c.args.call.now segment extra c.act-ended.new.out
    (view_of c.index_mut.result.now) (view_of c.act-ended.new.seat) (yard_view_of c.args.pass.now.claims) (yard_view_of c.act-ended.new.claims) c.act-ended.result in
    record {
      was = view_of c.index_mut.result.now;
      then = view_of c.act-ended.new.seat;
      here = view_there c.args.self.now.tables.items c.args.pass.now.seats.items c.requires.its.seats c.args.segment c.ground-ground.result.table.now c.index_mut.result.now
          c.ground-ground.ensures.table c.index_mut.ensures.value;
      others = views_set c.args.self.now.tables.items c.args.pass.now.seats.items c.requires.its.seats c.args.segment c.ground-ground.result.table.now c.index_mut.result.now
          c.ground-ground.ensures.table c.index_mut.ensures.value c.act-ended.new.seat;
      acts = subst (λ (n : ℕ). Left n c.args.self.now.geo.extra) c.ground-ground.ensures.segment
          (subst (λ (geo : Geo). Left c.ground-ground.result.segment geo.extra) c.ground-ground.ensures.geo c.act-ended.ensures.leaves);
    }

pub returns-clause-fuse : goal.returns-clause-fuse
returns-clause-fuse g c =
    let of = c.requires.its.seats in
    let count = counted c.args.self.now.tables.items c.args.pass.now.seats.items of c.args.segment c.ground-ground.result.table.now c.index_mut.result.now
    c.ground-ground.ensures.table c.index_mut.ensures.value in
    let e = count (λ (v : View). v.events) c.act-ended.new.seat in
    let t = count (λ (v : View). v.stores) c.act-ended.new.seat in
    let a = turn_meter (g.F.Fuse.fused c.args.pass.now.fuse) (view_of c.index_mut.result.now) (yard_view_of c.args.pass.now.claims) in
    let b = turn_meter (g.F.Fuse.fused c.act-ended.new.fuse) (view_of c.act-ended.new.seat) (yard_view_of c.act-ended.new.claims) in
    let before = meter_of (g.F.Fuse.fused c.args.pass.now.fuse) (views c.args.pass.now.seats.items) (yard_view_of c.args.pass.now.claims) in
    let later = meter_of (g.F.Fuse.fused c.act-ended.new.fuse) (views (set c.args.pass.now.seats.items c.args.segment c.act-ended.new.seat)) (yard_view_of c.act-ended.new.claims) in
    reports_alike a b before later c.act-ended.result (record { before = refl; behind = refl; events = (omega arith); stores = (omega arith) }) c.act-ended.ensures.fuse
