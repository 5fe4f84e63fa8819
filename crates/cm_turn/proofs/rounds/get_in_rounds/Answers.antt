use Rattle.cm_plain.specs.declared.op.Op.TheVariants.{Get}
use Rattle.cm_lock.specs.Tables.{view_of}
use Rattle.cm_turn.proofs.Endings.{on_error, reading_then}
use Rattle.cm_turn.proofs.rounds.get_in_rounds.Goals as goal

pub returns-in_err-settled-clause-dead : goal.returns-in_err-settled-clause-dead
returns-in_err-settled-clause-dead g c =
    on_error c.from_residual.result (reading_then (view_of c.args.seat.now) (view_of c.loop.seat) c.loop.invariant.failed.adds (Get c.args.key.now) (view_of c.get_in_round.new.seat) c.in_err-settled.ensures.dead)
