use Rattle.std.proofs.Common.{Some}
use Rattle.cm_plain.specs.declared.op.Op.TheVariants.{PutIfAbsent}
use Rattle.cm_lock.specs.Tables.{key_of, view_of}
use Rattle.cm_lock.specs.declared.view.Level.TheVariants.{Read}
use Rattle.cm_turn.proofs.KeptValues.{answers_then, dead_then, found_lowered, nothing_by_level}
use Rattle.cm_turn.proofs.if_absent.AbsentCall.keep_in_read.Goals as goal

pub tell_kept-requires-clause-found : goal.tell_kept-requires-clause-found
tell_kept-requires-clause-found g c =
    found_lowered (key_of c.args.ground.now.table.now) (view_of c.args.seat.now) (view_of c.lower_to_read.new.seat) c.args.ground.now.geo.now c.args.self.now.key.now
    (Some c.args.sight) c.in_ok-lower_to_read.ensures.lowers.done c.requires.found

pub returns-clause-answers : goal.returns-clause-answers
returns-clause-answers g c =
    answers_then (view_of c.args.seat.now) (view_of c.lower_to_read.new.seat) (nothing_by_level Read _ _ c.in_ok-lower_to_read.ensures.lowers.done)
    (PutIfAbsent c.args.self.now.key.now c.args.self.now.value.now) c.tell_kept.new.out (view_of c.tell_kept.new.seat) c.tell_kept.result c.tell_kept.ensures.answers

pub returns-clause-dead : goal.returns-clause-dead
returns-clause-dead g c =
    dead_then (view_of c.args.seat.now) (view_of c.lower_to_read.new.seat) (nothing_by_level Read _ _ c.in_ok-lower_to_read.ensures.lowers.done)
    (PutIfAbsent c.args.self.now.key.now c.args.self.now.value.now) (view_of c.tell_kept.new.seat) c.tell_kept.result c.tell_kept.ensures.dead
