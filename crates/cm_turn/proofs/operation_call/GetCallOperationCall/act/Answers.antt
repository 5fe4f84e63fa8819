use Rattle.std.proofs.Common.{Err}
use Rattle.cm_plain.specs.declared.op.Op.TheVariants.{Get}
use Rattle.cm_lock.specs.declared.take.Stop.TheVariants.{Died}
use Rattle.cm_lock.specs.declared.view.Level.TheVariants.{Free, Read}
use Rattle.cm_lock.specs.Tables.{view_of}
use Rattle.cm_yard.specs.Yards.{view_of as yard_view_of}
use Rattle.cm_turn.specs.Calls.{IsRefused}
use Rattle.cm_turn.specs.Records.{IsIdle}
use Rattle.cm_turn.proofs.Endings.{leaves_reading, leaves_then}
use Rattle.cm_turn.proofs.operation_call.GetCallOperationCall.act.Goals as goal

pub returns-in-Ok-None-clause-leaves : goal.returns-in-Ok-None-clause-leaves
returns-in-Ok-None-clause-leaves g c =
    let failed = (rw c.in-Ok-None.field-0-is at c.in-Ok-None.ensures.ends) in
    leaves_then (view_of c.args.seat.now) (view_of c.get_in_rounds.new.seat) failed.adds IsIdle (IsRefused Free Read c.args.self.now.tries) (IsRefused Free Read c.args.self.now.tries)
    c.args.ground.now.segment c.args.ground.now.geo.now.extra (Get c.args.self.now.key.now) c.ask_in_read.new.out (view_of c.ask_in_read.new.seat) (yard_view_of c.args._claims.now)
    (yard_view_of c.args._claims.now) c.ask_in_read.result (λ looks last refused. refused)
    (leaves_reading c.args.self.now.tries c.args.ground.now.segment c.args.ground.now.geo.now.extra (Get c.args.self.now.key.now) c.ask_in_read.new.out
    (view_of c.get_in_rounds.new.seat) (view_of c.ask_in_read.new.seat) (yard_view_of c.args._claims.now) c.ask_in_read.result c.ask_in_read.ensures.leaves)

pub returns-in-Err-clause-leaves : goal.returns-in-Err-clause-leaves
returns-in-Err-clause-leaves g c =
    leaves_reading c.args.self.now.tries c.args.ground.now.segment c.args.ground.now.geo.now.extra (Get c.args.self.now.key.now) c.get_in_rounds.new.out
    (view_of c.args.seat.now) (view_of c.get_in_rounds.new.seat) (yard_view_of c.args._claims.now) (Err Died) c.in-Err.ensures.dead
