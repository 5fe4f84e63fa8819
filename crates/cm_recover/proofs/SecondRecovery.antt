-- Recovered words keep the allowance, and a second recovery keeps each state and drops nothing.
use Rattle.std.proofs.Common.{◌≡◌, ℕ, ◌+◌, ◌-◌, ◌<◌, ◌≤◌, List, length, refl, ap, arith, zero, suc}
use Rattle.std.specs.List.{range_with_len, sum_by}
use Rattle.std.proofs.lemmas.List.{length-take}
use Rattle.std.proofs.lemmas.List.Sums.{sum_by-cons}
use Rattle.cm_geo.specs.declared.geo.Geo.{Geo}
use Rattle.cm_plain.specs.FoundChains.{KeepsAllowance, chain_of}
use Rattle.cm_recover.specs.AllowedPlaces.{allowed_places, extra_before}
use Rattle.cm_recover.specs.KeptSlots.{kept_state}
use Rattle.cm_recover.specs.Recovered.{Recovered}
use Rattle.cm_recover.specs.Laws.{KeepsRecovered}
use Rattle.cm_recover.proofs.LawfulWords.{keeps_states}

-- a sum with one more number at its end
pub sum_more : (f : ℕ → ℕ) (low count : ℕ) → sum_by f (range_with_len low (suc count)) ≡ sum_by f (range_with_len low count) + f (low + count)
sum_more f low zero =
    let one : sum_by f (range_with_len low 1) ≡ f low + sum_by f (range_with_len (low + 1) 0) = sum_by-cons f low (range_with_len (low + 1) 0) in
    let e : f (low + 0) ≡ f low = ap f (omega arith) in
    let none : sum_by f (range_with_len (low + 1) 0) ≡ 0 = refl in
    let none' : sum_by f (range_with_len low 0) ≡ 0 = refl in
    omega (arith, one, e, none, none')
sum_more f low (suc count) =
    let later = sum_more f (low + 1) count in
    let first : sum_by f (range_with_len low (suc (suc count))) ≡ f low + sum_by f (range_with_len (low + 1) (suc count)) = sum_by-cons f low (range_with_len (low + 1) (suc count)) in
    let first' : sum_by f (range_with_len low (suc count)) ≡ f low + sum_by f (range_with_len (low + 1) count) = sum_by-cons f low (range_with_len (low + 1) count) in
    let e : f (low + suc count) ≡ f (low + 1 + count) = ap f (omega arith) in
    omega (arith, later, first, first', e)

-- parts that are no more than what was left, summed up
record AreWithin (part all : ℕ → ℕ) (most n : ℕ) : Type 0 where
  within_limit : sum_by part (range_with_len 0 n) ≤ most
  fewer : sum_by part (range_with_len 0 n) ≤ sum_by all (range_with_len 0 n)

-- a part is within the whole, and within what earlier ones left
record IsPart (part all : ℕ → ℕ) (most s : ℕ) : Type 0 where
  of_it : part s ≤ all s
  left : part s ≤ most - sum_by all (range_with_len 0 s)

are_within : (part all : ℕ → ℕ) (most n : ℕ) → ((s : ℕ) → s < n → IsPart part all most s) → AreWithin part all most n
are_within part all most zero h =
    let none : sum_by part (range_with_len 0 0) ≡ 0 = refl in
    record { within_limit = omega (arith, none); fewer = omega (arith, none) }
are_within part all most (suc n) h =
    let before = are_within part all most n (λ s below. h s (omega arith)) in
    let one = h n (omega arith) in
    let e : part (0 + n) ≡ part n = ap part (omega arith) in
    let e' : all (0 + n) ≡ all n = ap all (omega arith) in
    record {
      within_limit = omega (arith, before.within_limit, before.fewer, one.of_it, one.left, e, sum_more part 0 n);
      fewer = omega (arith, before.fewer, one.of_it, e, e', sum_more part 0 n, sum_more all 0 n);
    }

-- the tiers that the allowance leaves of a segment are such a part
tiers_left : (geo : Geo) (old : ℕ → List ℕ) (segment : ℕ)
    → (length (allowed_places geo old segment) - 1 ≤ length (chain_of geo (old segment)).places - 1) × (length (allowed_places geo old segment) - 1 ≤ geo.extra - extra_before geo old segment)
unfolding allowed_places
tiers_left geo old segment =
    let n : ℕ = geo.extra - extra_before geo old segment in
    let len = length-take (1 + n) (chain_of geo (old segment)).places in
    (omega (arith, len), omega (arith, len))

-- recovered words keep the allowance
keeps_allowance : (geo : Geo) (old new : ℕ → List ℕ) → Recovered geo old new → KeepsAllowance geo new
keeps_allowance geo old new recovered =
    (are_within (λ s. length (chain_of geo (new s)).places - 1) (λ s. length (chain_of geo (old s)).places - 1) geo.extra geo.segments (λ s below.
    (let chain : (chain_of geo (new s)).places ≡ allowed_places geo old s = (recovered.lawful s below).apart.represents.chain in
    let len : length (chain_of geo (new s)).places ≡ length (allowed_places geo old s) = ap (λ (l : List ℕ). length l) chain in
    let left = tiers_left geo old s in
    record { of_it = rw len left.0; left = rw len left.1 }))).within_limit

pub keeps_recovered : (geo : Geo) (old new : ℕ → List ℕ) → Recovered geo old new → KeepsRecovered geo old new
keeps_recovered geo old new recovered =
    let keeps = keeps_allowance geo old new recovered in
    record { allowance = keeps; same = λ segment below. keeps_states geo new keeps segment (kept_state geo old segment) below (recovered.lawful segment below).apart }
