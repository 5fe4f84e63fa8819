use Rattle.cm_lock.specs.Tables.{view_of}
use Rattle.cm_yard.specs.Yards.{view_of as yard_view_of}
use Rattle.cm_turn.proofs.Endings.{leaves_reading}
use Rattle.cm_turn.proofs.operation_call.ReadCallOperationCall.act.Goals as goal

pub returns-clause-leaves : goal.returns-clause-leaves
returns-clause-leaves g c =
    leaves_reading c.args.self.now.tries c.args.ground.now.segment c.args.ground.now.geo.now.extra (g.Q.Question.op c.args.self.now.question) c.ask_in_read.new.out
    (view_of c.args.seat.now) (view_of c.ask_in_read.new.seat) (yard_view_of c.args._claims.now) c.ask_in_read.result c.ask_in_read.ensures.leaves
