use Rattle.cm_chunks.proofs.StateRuns.{fit_as_state, free_as_state}
use Rattle.cm_chunks.proofs.laws.free_runs_are_those_of_the_state.Goals as goal

pub returns-clause-fit : goal.returns-clause-fit
returns-clause-fit c = fit_as_state

pub returns-clause-free : goal.returns-clause-free
returns-clause-free c = free_as_state
