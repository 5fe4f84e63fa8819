-- The slots of lower numbers are settled.
use Rattle.std.proofs.Common.{◌+◌, ℕ}
use Rattle.cm_words.specs.Calls.{HasDone}
use Rattle.cm_words.specs.Effects.{Changes}
use Rattle.cm_recover.specs.Rebuilding.{CountsWithin}
use Rattle.cm_recover.proofs.SettledTiers.{SettlesBelow}
use Rattle.cm_recover.proofs.rebuilding.settle_tier.Given as goal

abbrev pub invariant-loop-number : goal.invariant-loop-number
invariant-loop-number g l = record {
  settles : HasDone g.M.Mem.seen g.M.Mem.same_rest
      (λ old now. Changes old now (SettlesBelow l.geo l.segment l.places l.place l.words l.number l.fn.tally l.settled)) l.initial.mem l.mem;
  within : (most : ℕ) → CountsWithin most l.fn.tally → CountsWithin (most + l.number) l.settled;
}
