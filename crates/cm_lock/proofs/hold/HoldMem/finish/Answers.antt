use Rattle.std.proofs.Common.{◌<◌, ◌^◌, ap, arith, refl}
use Rattle.cm_words.specs.declared.fuse.EventKind.TheVariants.{Store}
use Rattle.cm_words.proofs.FittingLists.{on_err}
use Rattle.cm_words.proofs.MapPlaces.{number_inside}
use Rattle.cm_lock.specs.declared.view.View.{View}
use Rattle.cm_lock.proofs.FuseEvents.{makes_made, reports_made}
use Rattle.cm_lock.proofs.HoldViews.{as_before_seen, done_known, finishes_seen, view_finished}
use Rattle.cm_lock.proofs.hold.HoldMem.finish.Goals as goal

pub returns-in_err-ask_fuse-clause-dead : goal.returns-in_err-ask_fuse-clause-dead
returns-in_err-ask_fuse-clause-dead g c = let m = c.args.self.now in on_err c.from_residual.result (as_before_seen m.table.now.table.shared.key _ _ m.seat.now.seat.me.0)

pub finish-word-requires-clause-done : goal.finish-word-requires-clause-done
finish-word-requires-clause-done g c change planned =
    let m = c.args.self.now in
    done_known m.table.now.table.shared.key (g.F.Fuse.fused m.fuse.now) m.seat.now.seat.me.0 change (c.requires.done change planned)

pub returns-clause-rest : goal.returns-clause-rest
returns-clause-rest g c change planned =
    let m = c.args.self.now in
    let e = c.finish-word.ensures in
    record {
      loan = record { table = refl; seat_name = refl; fuse_name = refl; table_id = e.its; id = e.id };
      view = view_finished m.seat.now.seat.me.0 e.view.0 c.finish-word.new.self.seat.me.0 change _ e.view.1 planned (rw e.value e.view.2);
      above = rw e.value e.above;
      seen = rw (e.view.2, e.value) (omega arith);
    }

pub returns-clause-fuse : goal.returns-clause-fuse
returns-clause-fuse g c =
    let view = c.finish-word.ensures.view in
    reports_made Store _ _ _ c.in_ok-ask_fuse.ensures (ap (λ (v : View). v.events) view.2) (ap (λ (v : View). v.stores) view.2)

pub returns-clause-event : goal.returns-clause-event
returns-clause-event g c =
    let view = c.finish-word.ensures.view in
    makes_made Store _ _ _ (ap (λ (v : View). v.events) view.2) (ap (λ (v : View). v.stores) view.2)

pub returns-clause-finishes : goal.returns-clause-finishes
returns-clause-finishes g c =
    let m = c.args.self.now in
    let e = c.finish-word.ensures in
    let n = e.noted in
    let small : m.seat.now.number < 2 ^ 64 = omega (arith, m.seat.now.copies.within_limit) in
    rw e.value (finishes_seen m.table.now.table.shared.key (g.F.Fuse.fused m.fuse.now) _ m.seat.now.seat.me.0 m.seat.now.number n.0 n.1 n.2 small (number_inside m.table.now.table.shared.key.geo) e.view.0 c.finish-word.new.self.seat.me.0 e.odd e.view.2)
