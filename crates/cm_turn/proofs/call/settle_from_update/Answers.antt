use Rattle.std.proofs.Common.{sym, subst}
use Rattle.cm_plain.specs.Plans.{op_of_ask}
use Rattle.cm_words.specs.KillFuses.{never_seen}
use Rattle.cm_words.specs.Meters.{unused}
use Rattle.cm_lock.specs.Rule.{known_of}
use Rattle.cm_lock.specs.Tables.{key_of, view_of}
use Rattle.cm_lock.specs.declared.view.HeldLevel.{HeldLevel}
use Rattle.cm_yard.specs.Yards.{view_of as yard_view_of}
use Rattle.cm_turn.specs.Verdicts.{Decides}
use Rattle.cm_turn.proofs.Endings.{owing_then}
use Rattle.cm_turn.proofs.Knowledge.{decides_known, known_at}
use Rattle.cm_turn.proofs.call.settle_from_update.Goals as goal

pub settle-requires-clause-decides : goal.settle-requires-clause-decides
settle-requires-clause-decides g c =
    subst (λ (h : HeldLevel). Decides (known_of (key_of c.args.ground.now.table.now) h) c.args.ground.now.geo.now (op_of_ask c.args.ask) c.args.out.now c.args.verdict)
    (sym c.in_ok-raise_for.ensures.raises.own)
    (decides_known _ _ (known_at (key_of c.args.ground.now.table.now) (view_of c.args.seat.now).own (view_of c.raise_for.new.seat).own.level (unused never_seen) (unused never_seen))
    c.args.ground.now.geo.now (op_of_ask c.args.ask) c.args.out.now c.args.verdict c.requires.decides)

pub returns-in-Err-clause-settles : goal.returns-in-Err-clause-settles
returns-in-Err-clause-settles g c =
    owing_then (view_of c.args.seat.now) (view_of c.raise_for.new.seat) c.in_ok-raise_for.ensures.raises.adds c.args.ground.now.segment (op_of_ask c.args.ask)
    (view_of c.settle.new.seat) (yard_view_of c.args.claims.now) (yard_view_of c.settle.new.claims) c.in-Err.ensures.dead
