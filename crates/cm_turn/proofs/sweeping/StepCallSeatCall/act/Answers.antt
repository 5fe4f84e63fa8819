use Rattle.std.proofs.Common.{ℕ, Err, subst, sym, rules}
use Rattle.cm_plain.specs.declared.op.Op.TheVariants.{Sweep}
use Rattle.cm_lock.specs.Tables.{view_of}
use Rattle.cm_lock.specs.declared.view.Level.TheVariants.{Update, Write}
use Rattle.cm_yard.specs.Yards.{view_of as yard_view_of}
use Rattle.cm_turn.specs.Calls.{IsRefused, Leaves}
use Rattle.cm_turn.specs.Records.{Holds}
use Rattle.cm_turn.proofs.Endings.{leaves_then, nothing_by_look}
use Rattle.cm_turn.proofs.sweeping.StepCallSeatCall.act.Goals as goal

pub returns-in_err-settled-clause-leaves : goal.returns-in_err-settled-clause-leaves
returns-in_err-settled-clause-leaves g c =
    let told = leaves_then (view_of c.args.seat.now) (view_of c.find_held.new.seat) (nothing_by_look _ _ c.in-Ok.ensures.looks) (Holds Update)
    (IsRefused Update Write c.args.self.now.tries) (IsRefused Update Write c.args.self.now.tries) c.args.ground.now.segment c.args.ground.now.geo.now.extra
    (Sweep c.args.ground.now.segment c.args.self.now.prefix.now) c.args.out.now (view_of c.tell_none.new.seat) (yard_view_of c.args.claims.now) (yard_view_of c.args.claims.now)
    (Err c.in_err-settled.field-0.0) (λ looks last refused. refused) c.in_err-settled.ensures.leaves in
    let h = subst (λ (n : ℕ). Leaves (Holds Update) (IsRefused Update Write c.args.self.now.tries) c.args.ground.now.segment c.args.ground.now.geo.now.extra
    (Sweep n c.args.self.now.prefix.now) c.args.out.now (view_of c.args.seat.now) (view_of c.tell_none.new.seat) (yard_view_of c.args.claims.now) (yard_view_of c.args.claims.now)
    (Err c.in_err-settled.field-0.0)) (sym c.requires.may.segment_is) told in
    search (rules, h)

pub returns-in_err-settled-2-clause-leaves : goal.returns-in_err-settled-2-clause-leaves
returns-in_err-settled-2-clause-leaves g c =
    let h = leaves_then (view_of c.args.seat.now) (view_of c.find_held.new.seat) (nothing_by_look _ _ c.in-Ok.ensures.looks) (Holds Update)
    (IsRefused Update Write c.args.self.now.tries) (IsRefused Update Write c.args.self.now.tries) c.args.ground.now.segment c.args.ground.now.geo.now.extra
    (Sweep c.args.self.now.segment c.args.self.now.prefix.now) c.take_found.new.out (view_of c.take_found.new.seat) (yard_view_of c.args.claims.now) (yard_view_of c.take_found.new.claims)
    (Err c.in_err-settled-2.field-0.0) (λ looks last refused. refused) c.in_err-settled-2.ensures.leaves in
    search (rules, h)
