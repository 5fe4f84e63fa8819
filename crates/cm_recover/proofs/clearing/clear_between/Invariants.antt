-- The words up to the loop's index are 0.
use Rattle.std.proofs.Common.{◌≤◌}
use Rattle.cm_recover.specs.Clearing.{IsZeroed}
use Rattle.cm_recover.proofs.clearing.clear_between.Given as goal

abbrev pub invariant-loop-at : goal.invariant-loop-at
invariant-loop-at l = record { order : l.from ≤ l.at; zeroed : IsZeroed l.from l.at l.initial.words l.words }
