use Rattle.cm_turn.proofs.LoadPairs.{loads_and}
use Rattle.cm_turn.proofs.placing.ReplaceOperation.judge.Goals as goal

pub returns-clause-loads : goal.returns-clause-loads
returns-clause-loads g c =
    loads_and g.M.Mem.seen g.M.Mem.same_rest _ c.has_key.new.mem c.place.new.mem _ c.place.result (g.met.M.Mem.rest_transitive _ _ _)
    c.in_ok-has_key.ensures.loads c.place.ensures.loads

pub returns-clause-judges : goal.returns-clause-judges
returns-clause-judges g c = rw c.ask.ensures at (c.place.ensures.judges c.args._out.now)
