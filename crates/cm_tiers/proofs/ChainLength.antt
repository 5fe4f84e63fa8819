-- How many places a chain has, and whether one is left outside it.
use Rattle.std.proofs.Common.{◌≡◌, ◌≢◌, ℕ, ◌<◌, ◌≤◌, ◌+◌, ◌-◌, ◌↔◌, Some, None, All, length, arith, inl, inr}
use Rattle.std.specs.List.{AllPairs, position_or_len, range_with_len}
use Rattle.std.proofs.lemmas.Bool.{cases_lt}
use Rattle.std.proofs.lemmas.List.{length-take-le}
use Rattle.cm_geo.specs.declared.geo.Geo.{Geo}
use Rattle.cm_geo.proofs.Ranges.{tiers_range}
use Rattle.cm_plain.specs.Rooms.{is_unlinked, lowest_unlinked}
use Rattle.cm_plain.proofs.Chains.{IsOutside, lowest_outside, short_beside}
use Rattle.cm_tiers.specs.declared.places.Chain.{Chain}
use Rattle.cm_tiers.specs.Chains.{places_of}

-- where a place is left, the chain has not all of them
pub some_left : (geo : Geo) (chain : Chain) (place : ℕ) → chain.len ≤ geo.tiers → length chain.places ≡ 8 → All (λ it. it < geo.tiers) (places_of chain) → AllPairs (λ it other. it ≢ other) (places_of chain)
    → IsOutside geo (places_of chain) place → (Some place ≡ None) ↔ (chain.len ≡ geo.tiers)
some_left geo chain place within_limit long inside apart outside =
    let short = short_beside geo (places_of chain) place inside apart outside in
    let as_many : length (places_of chain) ≡ chain.len = length-take-le chain.len chain.places (omega (arith, (tiers_range geo).1)) in
    (λ e. cc e, λ e. absurd (omega arith))

-- where none is left, it has all
pub all_linked : (geo : Geo) (chain : Chain) (at : ℕ) → chain.len ≤ geo.tiers → length chain.places ≡ 8 → geo.tiers ≤ at → lowest_unlinked geo (places_of chain) ≡ at + position_or_len (is_unlinked (places_of chain)) (range_with_len at (geo.tiers - at))
    → geo.tiers ≤ chain.len
all_linked geo chain at within_limit long past is =
    let as_many : length (places_of chain) ≡ chain.len = length-take-le chain.len chain.places (omega (arith, (tiers_range geo).1)) in
    elim (cases_lt chain.len geo.tiers) [
      | inl less ↦ absurd (let outside = lowest_outside geo (places_of chain) (omega arith) in omega (arith, outside.below))
      | inr more ↦ more
    ]
