use Rattle.std.proofs.Common.{Err}
use Rattle.cm_plain.specs.declared.op.Op.TheVariants.{PutIfAbsent}
use Rattle.cm_lock.specs.Tables.{key_of, view_of}
use Rattle.cm_lock.specs.declared.take.Stop.TheVariants.{Died}
use Rattle.cm_lock.specs.declared.view.Level.TheVariants.{Update, Write}
use Rattle.cm_yard.specs.Yards.{view_of as yard_view_of}
use Rattle.cm_turn.specs.Calls.{IsRefused}
use Rattle.cm_turn.specs.Records.{IsIdle}
use Rattle.cm_turn.proofs.Endings.{leaves_reading, leaves_then, nothing_by_look, owing_then}
use Rattle.cm_turn.proofs.KeptValues.{absent_here}
use Rattle.cm_turn.proofs.if_absent.AbsentCall.work.Goals as goal

pub work_in_update-requires-clause-ready : goal.work_in_update-requires-clause-ready
work_in_update-requires-clause-ready g c =
    absent_here (key_of c.args.ground.now.table.now) (view_of c.look_held.new.seat).own c.args.ground.now.geo.now c.args.self.now.key.now
    (rw c.in_default.is at c.in-Ok.ensures.found)

pub returns-in_default-clause-leaves : goal.returns-in_default-clause-leaves
returns-in_default-clause-leaves g c =
    leaves_then (view_of c.args.seat.now) (view_of c.look_held.new.seat) (nothing_by_look _ _ c.in-Ok.ensures.looks) IsIdle
    (IsRefused Update Write c.args.self.now.tries) (IsRefused Update Write c.args.self.now.tries) c.args.ground.now.segment c.args.ground.now.geo.now.extra
    (PutIfAbsent c.args.self.now.key.now c.args.self.now.value.now) c.work_in_update.new.out (view_of c.work_in_update.new.seat) (yard_view_of c.args.claims.now)
    (yard_view_of c.work_in_update.new.claims) c.work_in_update.result (λ looks last refused. refused) c.work_in_update.ensures.leaves

pub returns-in-Err-keep_in_read-clause-leaves : goal.returns-in-Err-keep_in_read-clause-leaves
returns-in-Err-keep_in_read-clause-leaves g c =
    owing_then (view_of c.args.seat.now) (view_of c.look_held.new.seat) (nothing_by_look _ _ c.in-Ok.ensures.looks) c.args.ground.now.segment
    (PutIfAbsent c.args.self.now.key.now c.args.self.now.value.now) (view_of c.keep_in_read.new.seat) (yard_view_of c.args.claims.now) (yard_view_of c.args.claims.now)
    (leaves_reading c.args.self.now.tries c.args.ground.now.segment c.args.ground.now.geo.now.extra (PutIfAbsent c.args.self.now.key.now c.args.self.now.value.now)
    c.keep_in_read.new.out (view_of c.look_held.new.seat) (view_of c.keep_in_read.new.seat) (yard_view_of c.args.claims.now) (Err Died) c.in-Err-keep_in_read.ensures.dead)
