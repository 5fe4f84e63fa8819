-- The places that were passed over are linked.
use Rattle.std.proofs.Common.{◌≡◌, ◌+◌, ◌-◌}
use Rattle.std.specs.List.{position_or_len, range_with_len}
use Rattle.cm_plain.specs.Rooms.{is_unlinked}
use Rattle.cm_tiers.specs.Chains.{places_of}
use Rattle.cm_tiers.proofs.places.lowest_unlinked.Given as goal

abbrev pub invariant-loop-place : goal.invariant-loop-place
invariant-loop-place l =
    position_or_len (is_unlinked (places_of l.fn.chain)) (range_with_len 0 l.fn.geo.tiers) ≡ l.place-counter + position_or_len (is_unlinked (places_of l.fn.chain)) (range_with_len l.place-counter (l.fn.geo.tiers - l.place-counter))
