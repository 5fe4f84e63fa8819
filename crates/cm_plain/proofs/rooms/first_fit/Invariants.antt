-- The tiers that were passed over have no room.
use Rattle.std.proofs.Common.{◌≡◌, drop}
use Rattle.cm_plain.specs.Rooms.{fit_among}
use Rattle.cm_plain.proofs.rooms.first_fit.Given as goal

abbrev pub invariant-loop-place : goal.invariant-loop-place
invariant-loop-place l = fit_among l.geo l.fn.entries l.chunks l.fn.chain ≡ fit_among l.geo l.fn.entries l.chunks (drop l.place-index l.fn.chain)
