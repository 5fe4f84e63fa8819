use Rattle.std.proofs.Common.{refl}
use Rattle.cm_plain.specs.declared.op.Op.TheVariants as op
use Rattle.cm_plain.specs.declared.reply.Reply.TheVariants as reply
use Rattle.cm_lock.specs.Tables.{view_of}
use Rattle.cm_turn.proofs.Endings.{nothing_by_look, on_error, reading_released}
use Rattle.cm_turn.proofs.list_call.work_in_read.Goals as goal

pub tell-requires-clause-right : goal.tell-requires-clause-right
tell-requires-clause-right g c = (rw c.in-Ok.is at c.in_ok-pairs.ensures.right) c.args.call.now.segment

pub returns-in_err-release-clause-dead : goal.returns-in_err-release-clause-dead
returns-in_err-release-clause-dead g c =
    let h = reading_released (op.List c.args.call.now.segment) (op.List c.args.call.now.segment) c.in_ok-number.number (reply.Pairs c.in-Ok.pairs)
    (view_of c.args.seat.now) (view_of c.pairs_held.new.seat) (view_of c.tell.new.seat) (view_of c.release-2.new.seat)
    (nothing_by_look _ _ c.in_ok-pairs.ensures.looks) refl refl c.in_ok-pairs.ensures.looks.idle c.in_ok-number.ensures.enters.done
    c.in_err-release.ensures.releases.dead in
    on_error c.from_residual-in_err-release.result h
