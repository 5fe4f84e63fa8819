-- The tiers before this one are settled.
use Rattle.std.proofs.Common.{◌*◌}
use Rattle.cm_words.specs.Calls.{HasDone}
use Rattle.cm_words.specs.Effects.{Changes}
use Rattle.cm_recover.specs.Rebuilding.{CountsWithin}
use Rattle.cm_recover.proofs.SettledTiers.{SettlesFirst}
use Rattle.cm_recover.proofs.rebuilding.settle_all.Given as goal

abbrev pub invariant-loop-place : goal.invariant-loop-place
invariant-loop-place g l = record {
  settles : HasDone g.M.Mem.seen g.M.Mem.same_rest
      (λ old now. Changes old now (SettlesFirst l.geo l.segment l.places l.chain l.words l.place-index l.tally)) l.initial.mem l.mem;
  within : CountsWithin (8192 * l.place-index) l.tally;
}
