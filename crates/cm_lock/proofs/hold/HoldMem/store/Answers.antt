use Rattle.std.proofs.Common.{[], ◌∷◌, ap, arith, refl}
use Rattle.cm_words.specs.declared.fuse.EventKind.TheVariants.{Store}
use Rattle.cm_words.specs.Stores.{Writes, store_at}
use Rattle.cm_words.proofs.CallSequences.{once_err, once_ok}
use Rattle.cm_lock.specs.declared.view.View.{View}
use Rattle.cm_lock.specs.Holds.{SameRest, hold_seen}
use Rattle.cm_lock.proofs.FuseEvents.{makes_died, makes_made, reports_died, reports_made}
use Rattle.cm_lock.proofs.HoldViews.{as_before_seen, may_store_known, rests_store, stored_seen, writes_seen}
use Rattle.cm_lock.proofs.hold.HoldMem.store.Goals as goal

pub returns-in_err-ask_fuse-clause-stores : goal.returns-in_err-ask_fuse-clause-stores
returns-in_err-ask_fuse-clause-stores g c =
    let m = c.args.self.now in
    once_err (hold_seen g.F.Fuse.fused) SameRest Store (λ old now. Writes old now (store_at c.args.at c.args.word ∷ [])) _ _ _ c.from_residual.result c.from_residual.ensures.0
    (record { loan = record { table = refl; seat_name = refl; fuse_name = refl; table_id = refl; id = refl }; view = refl; seen = omega arith })
    (reports_died {T = Unit {0}} {E = Unit {0}} Store _ _ tt c.in_err-ask_fuse.ensures refl refl) (makes_died {T = Unit {0}} {E = Unit {0}} Store _ _ tt c.in_err-ask_fuse.ensures) (as_before_seen m.table.now.table.shared.key _ _ m.seat.now.seat.me.0)

pub store-requires-clause-allowed : goal.store-requires-clause-allowed
store-requires-clause-allowed g c =
    let m = c.args.self.now in
    may_store_known m.table.now.table.shared.key (g.F.Fuse.fused m.fuse.now) m.seat.now.seat.me.0 c.args.at c.args.word c.requires.allowed

pub returns-clause-stores : goal.returns-clause-stores
returns-clause-stores g c =
    let m = c.args.self.now in
    let e = c.store.ensures in
    let rest = rests_store m.seat.now.seat.me.0 c.store.new.self.seat.me.0 c.args.at c.store.result c.args.word e.view in
    let events = ap (λ (v : View). v.events) e.view in
    let stores = ap (λ (v : View). v.stores) e.view in
    once_ok (hold_seen g.F.Fuse.fused) SameRest Store (λ old now. Writes old now (store_at c.args.at c.args.word ∷ [])) _ _ _
    (record { loan = record { table = refl; seat_name = refl; fuse_name = refl; table_id = e.its; id = e.id }; view = rest.0; seen = rest.1 })
    (reports_made {T = Unit {0}} Store _ _ tt c.in_ok-ask_fuse.ensures events stores) (makes_made {T = Unit {0}} Store _ _ tt events stores)
    (writes_seen m.table.now.table.shared.key _ _ m.seat.now.seat.me.0 c.args.at c.store.result c.args.word c.requires.in_range c.requires.inner e.fits e.noted c.store.new.self.seat.me.0 e.view)

pub returns-clause-word : goal.returns-clause-word
returns-clause-word g c =
    let m = c.args.self.now in
    let e = c.store.ensures in
    stored_seen m.table.now.table.shared.key (g.F.Fuse.fused m.fuse.now) _ m.seat.now.seat.me.0 c.args.at c.store.result c.args.word c.requires.in_range c.requires.inner e.fits e.noted c.store.new.self.seat.me.0 e.view
