-- Going round a tier's slots by a mask, which needs no division: a tier has a power of two of them.
use Rattle.std.proofs.Common.{◌≡◌, ℕ, ◌+◌, ◌-◌, ◌*◌, ◌/◌, ◌^◌, ◌<◌, ◌↔◌, bit_and}
use Rattle.cm_geo.specs.declared.geo.Geo.{Geo}
use Rattle.cm_geo.specs.Hash.{home_in}
use Rattle.cm_geo.proofs.Powers.{mask_of_slots}
use Rattle.cm_plain.specs.Lawful.{slot_behind, steps_between}
use Rattle.cm_lookup.specs.Shifts.{Stays}
use Rattle.cm_lookup.specs.Tiers.{ring_of}

-- the slot so many steps behind one
pub mask_behind : (geo : Geo) (from steps : ℕ) → bit_and (from + steps) (2 * geo.chunks - 1) ≡ slot_behind (2 * geo.chunks) from steps
mask_behind geo from steps = mask_of_slots (from + steps) geo.chunks geo.chunks_fit

-- the steps from a slot to another
pub mask_between : (geo : Geo) (from to : ℕ) → bit_and (to + 2 * geo.chunks - from) (2 * geo.chunks - 1) ≡ steps_between (2 * geo.chunks) from to
mask_between geo from to = mask_of_slots (to + 2 * geo.chunks - from) geo.chunks geo.chunks_fit

-- the test whether a word stays
pub stays_test : (geo : Geo) (slot hole steps word : ℕ)
    → (bit_and (slot_behind (2 * geo.chunks) slot steps + 2 * geo.chunks - home_in geo (word / 2 ^ 32)) (2 * geo.chunks - 1) + hole < steps) ↔ Stays (ring_of geo) slot hole steps word
stays_test geo slot hole steps word = rw (mask_between geo (home_in geo (word / 2 ^ 32)) (slot_behind (2 * geo.chunks) slot steps)) (λ h. h, λ h. h)

-- both masks
pub ruleset masks = (mask_behind, mask_between)
