use Rattle.std.proofs.Common.{◌≡◌, None}
use Rattle.cm_words.specs.Effects.{Reads}
use Rattle.cm_words.proofs.CallSequences.{done_by, then_call}
use Rattle.cm_words.proofs.FittingLists.{reads_transitive}
use Rattle.cm_turn.proofs.Cursors.{same_cursor}
use Rattle.cm_turn.proofs.SweptKeys.{finds_first, finds_result, finds_some}
use Rattle.cm_turn.proofs.sweeping.find_next.Goals as goal

pub returns-in-Some-clause-found : goal.returns-in-Some-clause-found
returns-in-Some-clause-found g c =
    finds_some (g.M.Mem.seen c.walk.new.mem) c.args.geo.now c.args.segment c.args.from c.args.prefix.now c.walk.new.out c.in-Some.stand
    (rw c.in-Some.is at c.in_ok-stand.ensures.found)

pub returns-clause-loads : goal.returns-clause-loads
returns-clause-loads g c =
    then_call g.M.Mem.seen g.M.Mem.same_rest Reads Reads Reads Reads Reads _ c.walk.new.mem c.walk-2.new.mem c.walk-2.result (g.met.M.Mem.rest_transitive _ _ _)
    (done_by g.M.Mem.seen g.M.Mem.same_rest Reads Reads _ _ _ c.in_ok-stand.ensures.loads) c.walk-2.ensures.loads (reads_transitive _ _ _) (reads_transitive _ _ _)

pub returns-clause-found : goal.returns-clause-found
returns-clause-found g c =
    finds_result (g.M.Mem.seen c.walk-2.new.mem) c.args.geo.now c.args.segment c.args.prefix.now c.walk-2.new.out c.walk-2.result
    (rw c.first_slot.ensures at c.walk-2.ensures.found)

pub returns-then-from-eq0-2-clause-found : goal.returns-then-from-eq0-2-clause-found
returns-then-from-eq0-2-clause-found g c =
    let first : c.args.from ≡ record { link = 0; slot = 0 } = same_cursor c.args.from (record { link = 0; slot = 0 }) c.if-from-eq0.true c.if-from-eq0-2.true in
    finds_first (g.M.Mem.seen c.walk.new.mem) c.args.geo.now c.args.segment c.args.prefix.now c.walk.new.out None
    (rw (c.in_default.is, first) at c.in_ok-stand.ensures.found)
