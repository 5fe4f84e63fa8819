-- Where the chains keep the allowance, it covers all their tiers.
use Rattle.std.proofs.Common.{◌≡◌, ℕ, ◌+◌, ◌-◌, ◌<◌, ◌≤◌, List, length, arith, ap, zero, suc}
use Rattle.std.specs.List.{range_with_len, sum_by}
use Rattle.std.proofs.lemmas.List.{take_all}
use Rattle.std.proofs.lemmas.List.Sums.{sum_by-cons}
use Rattle.cm_geo.specs.declared.geo.Geo.{Geo}
use Rattle.cm_plain.specs.FoundChains.{KeepsAllowance, chain_of}
use Rattle.cm_recover.specs.AllowedPlaces.{allowed_places, extra_before}

-- a sum up to a number and the next part are within the whole sum
part_within : (f : ℕ → ℕ) (low count part : ℕ) → part < count → sum_by f (range_with_len low part) + f (low + part) ≤ sum_by f (range_with_len low count)
part_within f low zero part h = absurd (omega arith)
part_within f low (suc count) zero h =
    let e : f (low + 0) ≡ f low = ap f (omega arith) in
    let all : sum_by f (range_with_len low (suc count)) ≡ f low + sum_by f (range_with_len (low + 1) count) = sum_by-cons f low (range_with_len (low + 1) count) in
    omega (arith, e, all)
part_within f low (suc count) (suc part) h =
    let later = part_within f (low + 1) count part (omega arith) in
    let e : f (low + suc part) ≡ f (low + 1 + part) = ap f (omega arith) in
    let all : sum_by f (range_with_len low (suc count)) ≡ f low + sum_by f (range_with_len (low + 1) count) = sum_by-cons f low (range_with_len (low + 1) count) in
    let nonzero : sum_by f (range_with_len low (suc part)) ≡ f low + sum_by f (range_with_len (low + 1) part) = sum_by-cons f low (range_with_len (low + 1) part) in
    omega (arith, later, e, all, nonzero)

-- no tier is outside
pub all_allowed : (geo : Geo) (words_of : ℕ → List ℕ) (segment : ℕ) → KeepsAllowance geo words_of → segment < geo.segments → allowed_places geo words_of segment ≡ (chain_of geo (words_of segment)).places
unfolding allowed_places
all_allowed geo words_of segment keeps below =
    let f : ℕ → ℕ = λ s. length (chain_of geo (words_of s)).places - 1 in
    let within = part_within f 0 geo.segments segment below in
    let e : f (0 + segment) ≡ f segment = ap f (omega arith) in
    let within_limit = enough (extra_before geo words_of segment) (length (chain_of geo (words_of segment)).places) (f (0 + segment)) (sum_by f (range_with_len 0 geo.segments)) geo.extra e within keeps in
    take_all (1 + (geo.extra - extra_before geo words_of segment)) (chain_of geo (words_of segment)).places within_limit
  where
    enough : (before len part all extra : ℕ) → part ≡ len - 1 → before + part ≤ all → all ≤ extra → len ≤ 1 + (extra - before)
    enough before len part all extra e h k = omega arith
