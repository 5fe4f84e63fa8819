use Rattle.cm_turn.proofs.placing.PutOperation.judge.Goals as goal

pub returns-clause-judges : goal.returns-clause-judges
returns-clause-judges g c = rw c.ask.ensures at (c.place.ensures.judges c.args._out.now)
