use Rattle.std.proofs.Common.{◌<◌, ◌^◌, ap, arith, refl}
use Rattle.cm_plain.specs.Plans.{plan_change}
use Rattle.cm_words.specs.declared.fuse.EventKind.TheVariants.{Store}
use Rattle.cm_words.specs.Effects.{Begins}
use Rattle.cm_words.proofs.CallSequences.{once_err, once_ok}
use Rattle.cm_words.proofs.MapPlaces.{number_inside}
use Rattle.cm_lock.specs.declared.view.View.{View}
use Rattle.cm_lock.specs.Holds.{SameRest, hold_seen}
use Rattle.cm_lock.proofs.FuseEvents.{makes_died, makes_made, reports_died, reports_made}
use Rattle.cm_lock.proofs.HoldViews.{as_before_seen, begins_seen, plan_here_known, rests_begin}
use Rattle.cm_lock.proofs.hold.HoldMem.begin.Goals as goal

pub returns-in_err-ask_fuse : goal.returns-in_err-ask_fuse
returns-in_err-ask_fuse g c =
    let m = c.args.self.now in
    record {
      begins = once_err (hold_seen g.F.Fuse.fused) SameRest Store (λ old now. Begins old now (plan_change c.args.plan.now)) _ _ _ c.from_residual.result c.from_residual.ensures.0
          (record { loan = record { table = refl; seat_name = refl; fuse_name = refl; table_id = refl; id = refl }; view = refl; seen = omega arith })
          (reports_died {T = Unit {0}} {E = Unit {0}} Store _ _ tt c.in_err-ask_fuse.ensures refl refl) (makes_died {T = Unit {0}} {E = Unit {0}} Store _ _ tt c.in_err-ask_fuse.ensures) (as_before_seen m.table.now.table.shared.key _ _ m.seat.now.seat.me.0);
    }

pub begin-requires-clause-planned : goal.begin-requires-clause-planned
begin-requires-clause-planned g c =
    let m = c.args.self.now in
    plan_here_known m.table.now.table.shared.key (g.F.Fuse.fused m.fuse.now) m.seat.now.seat.me.0 (plan_change c.args.plan.now) c.requires.planned

pub returns : goal.returns
returns g c =
    let m = c.args.self.now in
    let e = c.begin.ensures in
    let rest = rests_begin m.seat.now.seat.me.0 c.begin.new.self.seat.me.0 (plan_change c.args.plan.now) _ e.view in
    let events = ap (λ (v : View). v.events) e.view in
    let stores = ap (λ (v : View). v.stores) e.view in
    let n = e.noted in
    let small : m.seat.now.number < 2 ^ 64 = omega (arith, m.seat.now.copies.within_limit) in
    record {
      begins = once_ok (hold_seen g.F.Fuse.fused) SameRest Store (λ old now. Begins old now (plan_change c.args.plan.now)) _ _ _
          (record { loan = record { table = refl; seat_name = refl; fuse_name = refl; table_id = e.its; id = e.id }; view = rest.0; seen = rest.1 })
          (reports_made {T = Unit {0}} Store _ _ tt c.in_ok-ask_fuse.ensures events stores) (makes_made {T = Unit {0}} Store _ _ tt events stores)
          (begins_seen m.table.now.table.shared.key _ _ m.seat.now.seat.me.0 m.seat.now.number n.0 n.1 n.2 small (number_inside m.table.now.table.shared.key.geo) (plan_change c.args.plan.now) c.begin.new.self.seat.me.0 e.view);
    }
