use Rattle.std.proofs.Common.{ap, arith, refl}
use Rattle.cm_words.specs.declared.fuse.EventKind.TheVariants.{Load}
use Rattle.cm_words.specs.Effects.{Reads}
use Rattle.cm_words.proofs.CallSequences.{once_err, once_ok}
use Rattle.cm_lock.specs.declared.view.View.{View}
use Rattle.cm_lock.specs.Holds.{SameRest, hold_seen}
use Rattle.cm_lock.proofs.FuseEvents.{load_stores, makes_died, makes_made, reports_died, reports_made}
use Rattle.cm_lock.proofs.HoldViews.{as_before_seen, knows_seen, reads_seen, rests_load}
use Rattle.cm_lock.proofs.hold.HoldMem.load.Goals as goal

pub returns-in_err-ask_fuse-clause-loads : goal.returns-in_err-ask_fuse-clause-loads
returns-in_err-ask_fuse-clause-loads g c =
    let m = c.args.self.now in
    once_err (hold_seen g.F.Fuse.fused) SameRest Load Reads _ _ _ c.from_residual.result c.from_residual.ensures.0
    (record { loan = record { table = refl; seat_name = refl; fuse_name = refl; table_id = refl; id = refl }; view = refl; seen = omega arith })
    (reports_died {T = Unit {0}} {E = Unit {0}} Load _ _ tt c.in_err-ask_fuse.ensures refl refl) (makes_died {T = Unit {0}} {E = Unit {0}} Load _ _ tt c.in_err-ask_fuse.ensures) (as_before_seen m.table.now.table.shared.key _ _ m.seat.now.seat.me.0)

pub returns-clause-loads : goal.returns-clause-loads
returns-clause-loads g c =
    let m = c.args.self.now in
    let e = c.load.ensures in
    let rest = rests_load m.seat.now.seat.me.0 c.load.new.self.seat.me.0 c.args.at c.load.result e.view in
    let events = ap (λ (v : View). v.events) e.view in
    let stores = load_stores _ _ (ap (λ (v : View). v.stores) e.view) in
    once_ok (hold_seen g.F.Fuse.fused) SameRest Load Reads _ _ _
    (record { loan = record { table = refl; seat_name = refl; fuse_name = refl; table_id = e.its; id = e.id }; view = rest.0; seen = rest.1 })
    (reports_made {T = Unit {0}} Load _ _ tt c.in_ok-ask_fuse.ensures events stores) (makes_made {T = Unit {0}} Load _ _ tt events stores)
    (reads_seen m.table.now.table.shared.key _ _ m.seat.now.seat.me.0 c.args.at c.load.result c.requires.in_range c.load.new.self.seat.me.0 e.view e.word)

pub returns-clause-word : goal.returns-clause-word
returns-clause-word g c =
    let m = c.args.self.now in
    knows_seen m.table.now.table.shared.key (g.F.Fuse.fused m.fuse.now) _ m.seat.now.seat.me.0 c.args.at c.load.result c.requires.in_range c.load.new.self.seat.me.0 c.load.ensures.view c.load.ensures.word
