use Rattle.cm_words.specs.Effects.{Reads}
use Rattle.cm_words.proofs.CallSequences.{done_by, loads_then_err, loads_then_ok}
use Rattle.cm_plain.proofs.OutsideHead.{resting_represents}
use Rattle.cm_turn.proofs.FoundValues.{absent_value, copied_value}
use Rattle.cm_turn.proofs.conditions.find_value.Goals as goal

pub returns-in_default-clause-finds : goal.returns-in_default-clause-finds
returns-in_default-clause-finds g c = λ words state fits rests.
    absent_value c.args.key.now state (rw c.in_default.is at c.in_ok-sight.ensures.found words state fits (resting_represents _ _ words state rests))

pub returns-in_err-len-clause-loads : goal.returns-in_err-len-clause-loads
returns-in_err-len-clause-loads g c =
    loads_then_err g.M.Mem.seen g.M.Mem.same_rest _ c.look.new.mem c.read_value_into.new.mem _ c.from_residual-in_err-len.result
    c.from_residual-in_err-len.ensures.0 (g.met.M.Mem.rest_transitive _ _ _)
    (done_by g.M.Mem.seen g.M.Mem.same_rest Reads Reads _ _ _ c.in_ok-sight.ensures.loads) c.in_err-len.ensures.loads.loads

pub returns-clause-loads : goal.returns-clause-loads
returns-clause-loads g c =
    loads_then_ok g.M.Mem.seen g.M.Mem.same_rest _ c.look.new.mem c.read_value_into.new.mem _ _ (g.met.M.Mem.rest_transitive _ _ _)
    (done_by g.M.Mem.seen g.M.Mem.same_rest Reads Reads _ _ _ c.in_ok-sight.ensures.loads) c.in_ok-len.ensures.loads.loads

pub returns-clause-finds : goal.returns-clause-finds
returns-clause-finds g c =
    copied_value (g.M.Mem.seen c.look.new.mem) (g.M.Mem.seen c.read_value_into.new.mem) c.args.geo.now c.args.key.now c.in-Some.sight
    c.in_ok-len.ensures.loads.loads.done (λ words state fits rests. rw c.in-Some.is at c.in_ok-sight.ensures.found words state fits (resting_represents _ _ words state rests)) c.read_value_into.new.out c.in_ok-len.len c.in_ok-len.ensures.value
