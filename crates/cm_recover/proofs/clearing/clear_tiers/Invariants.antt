-- The tiers at places below the loop's index are cleared.
use Rattle.cm_recover.proofs.ClearedTiers.{AreClearedBelow}
use Rattle.cm_recover.proofs.clearing.clear_tiers.Given as goal

abbrev pub invariant-loop-place : goal.invariant-loop-place
invariant-loop-place l = AreClearedBelow l.geo l.places l.place-counter l.initial.words l.words
