use Rattle.cm_words.specs.Effects.{Reads}
use Rattle.cm_words.proofs.CallSequences.{done_by, loads_then_ok}
use Rattle.cm_plain.proofs.OutsideHead.{resting_represents}
use Rattle.cm_turn.proofs.FoundValues.{absent_value, other_value, same_value}
use Rattle.cm_turn.proofs.conditions.compare.Goals as goal

pub returns-in_default-clause-compares : goal.returns-in_default-clause-compares
returns-in_default-clause-compares g c = λ words state fits rests.
    absent_value c.args.key.now state (rw c.in_default.is at c.in_ok-sight.ensures.found words state fits (resting_represents _ _ words state rests))

pub returns-then-branch-clause-loads : goal.returns-then-branch-clause-loads
returns-then-branch-clause-loads g c =
    loads_then_ok g.M.Mem.seen g.M.Mem.same_rest _ c.look.new.mem c.value_equals.new.mem _ _ (g.met.M.Mem.rest_transitive _ _ _)
    (done_by g.M.Mem.seen g.M.Mem.same_rest Reads Reads _ _ _ c.in_ok-sight.ensures.loads) c.in_ok-value_equals.ensures.loads.loads

pub returns-then-branch-clause-compares : goal.returns-then-branch-clause-compares
returns-then-branch-clause-compares g c =
    same_value (g.M.Mem.seen c.look.new.mem) (g.M.Mem.seen c.value_equals.new.mem) c.args.geo.now c.args.key.now c.in-Some.sight
    c.in_ok-value_equals.ensures.loads.loads.done (λ words state fits rests. rw c.in-Some.is at c.in_ok-sight.ensures.found words state fits (resting_represents _ _ words state rests)) c.args.expected.now c.in_ok-value_equals.field-0
    c.if-branch.true c.in_ok-value_equals.ensures.equals

pub returns-else-branch-clause-loads : goal.returns-else-branch-clause-loads
returns-else-branch-clause-loads g c =
    loads_then_ok g.M.Mem.seen g.M.Mem.same_rest _ c.look.new.mem c.value_equals.new.mem _ _ (g.met.M.Mem.rest_transitive _ _ _)
    (done_by g.M.Mem.seen g.M.Mem.same_rest Reads Reads _ _ _ c.in_ok-sight.ensures.loads) c.in_ok-value_equals.ensures.loads.loads

pub returns-else-branch-clause-compares : goal.returns-else-branch-clause-compares
returns-else-branch-clause-compares g c =
    other_value (g.M.Mem.seen c.look.new.mem) (g.M.Mem.seen c.value_equals.new.mem) c.args.geo.now c.args.key.now c.in-Some.sight
    c.in_ok-value_equals.ensures.loads.loads.done (λ words state fits rests. rw c.in-Some.is at c.in_ok-sight.ensures.found words state fits (resting_represents _ _ words state rests)) c.args.expected.now c.in_ok-value_equals.field-0
    c.if-branch.false c.in_ok-value_equals.ensures.equals
