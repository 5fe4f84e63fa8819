-- What a caller may know of a tier and of the other words after each store of a shift.
use Rattle.std.proofs.Common.{◌≡◌, ◌≢◌, ℕ, ◌+◌, ◌*◌, ◌<◌, List, [], ◌∷◌, ◌++◌, length, get_or, slice_set, refl, ap, subst, arith, Some}
use Rattle.cm_geo.specs.declared.geo.Geo.{Geo}
use Rattle.cm_geo.specs.Addresses.{slot_at}
use Rattle.cm_geo.proofs.Ranges.{chunks_range}
use Rattle.cm_plain.specs.Slots.{Slot, slot_in}
use Rattle.cm_lookup.specs.Rings.{Ring}
use Rattle.cm_lookup.specs.Shifts.{IsShift, NextStore, Shift}
use Rattle.cm_words.specs.Stores.{WordStore, after_stores, store_at}
use Rattle.cm_lookup.specs.Shifts.Shift.{moves}
use Rattle.cm_lookup.specs.Shifts.NextStore.{moved, emptied}
use Rattle.cm_lookup.specs.Tiers.{at_slots, ring_of, slot_words}
use Rattle.cm_lookup.proofs.LostEntry.{lost_still_there, lost_stood_before, shift_rearranges}
use Rattle.cm_lookup.proofs.RemovalFrame.{IsTier, shift_within, slot_still_there, slot_stood_before, whole_within}
use Rattle.cm_lookup.proofs.Tiers.{after_stores_left, after_stores_long}

-- stores at slots, and one more
pub at_slots_more : (geo : Geo) (place number word : ℕ) (made : List WordStore) → at_slots geo place (made ++ store_at number word ∷ []) ≡ at_slots geo place made ++ store_at (slot_at geo place number) word ∷ []
at_slots_more geo place number word [] = refl
at_slots_more geo place number word (store ∷ made) = ap (λ (ss : List WordStore). store_at (slot_at geo place store.at) store.word ∷ ss) (at_slots_more geo place number word made)

-- one more store of a shift, as a store at a slot
pub one_more_at : (geo : Geo) (words : List ℕ) (place number word : ℕ) (made : List WordStore)
    → after_stores words (at_slots geo place (made ++ store_at number word ∷ [])) ≡ slice_set (after_stores words (at_slots geo place made)) (slot_at geo place number) word
one_more_at geo words place number word [] = refl
one_more_at geo words place number word (store ∷ made) = one_more_at geo (slice_set words (slot_at geo place store.at) store.word) place number word made

-- the stores so far, or all of them
pub data PartOrWhole (ring : Ring) (slots : List ℕ) (slot : ℕ) (stores : List WordStore) : Type 0 where
  part : (hole steps : ℕ) → Shift ring slots slot hole steps stores → PartOrWhole ring slots slot stores
  whole : IsShift ring slots slot stores → PartOrWhole ring slots slot stores

-- with the next store
pub with_next : (ring : Ring) (slots : List ℕ) (slot at word : ℕ) (made : List WordStore) → NextStore ring slots slot made at word → PartOrWhole ring slots slot (made ++ store_at at word ∷ [])
with_next ring slots slot at word made (moved hole steps m shift below nonzero fuse) = part steps (steps + 1) (moves hole steps m shift below nonzero fuse)
with_next ring slots slot at word made (emptied hole steps m shift below empty) =
    whole (record { hole = hole; steps = steps; made = m; shift = shift; within = below; empty = empty; stores_are = refl })

-- a tier while a slot is being removed: nothing but its slots has changed, each slot but the removed one still stands there, and what stands there stood there before
pub record IsMidway (geo : Geo) (before now : List ℕ) (place slot : ℕ) : Type 0 where
  pub length_is : length now ≡ length before
  pub left : (at : ℕ) → ((number : ℕ) → number < 2 * geo.chunks → at ≢ slot_at geo place number) → get_or now at 0 ≡ get_or before at 0
  pub still : (number : ℕ) (seen : Slot) → number < 2 * geo.chunks → number ≢ slot → slot_in geo before place number ≡ Some seen
      → (other : ℕ) × (other < 2 * geo.chunks) × (slot_in geo now place other ≡ Some seen)
  pub stood : (number : ℕ) (seen : Slot) → number < 2 * geo.chunks → slot_in geo now place number ≡ Some seen
      → (other : ℕ) × (other < 2 * geo.chunks) × (slot_in geo before place other ≡ Some seen)

-- after some of the stores, or all
pub midway : (geo : Geo) (words : List ℕ) (place slot : ℕ) (stores : List WordStore) → IsTier geo words place slot → PartOrWhole (ring_of geo) (slot_words geo words place) slot stores
    → IsMidway geo words (after_stores words (at_slots geo place stores)) place slot
midway geo words place slot stores tier (part hole steps shift) =
    let within = shift_within (ring_of geo) (slot_words geo words place) slot hole steps stores (omega (arith, chunks_range geo)) shift in
    record {
      length_is = after_stores_long words (at_slots geo place stores);
      left = λ at apart. after_stores_left geo words place stores at within apart;
      still = λ number seen below apart is. slot_still_there geo words place slot hole steps stores number seen tier shift below apart is;
      stood = λ number seen below is. slot_stood_before geo words place slot hole steps stores number seen tier shift below is;
    }
midway geo words place slot stores tier (whole all) =
    let within = whole_within (ring_of geo) (slot_words geo words place) slot stores (omega (arith, chunks_range geo)) all in
    let lost = shift_rearranges geo words place slot stores tier all in
    record {
      length_is = after_stores_long words (at_slots geo place stores);
      left = λ at apart. after_stores_left geo words place stores at within apart;
      still = λ number seen below apart is. lost_still_there geo words (after_stores words (at_slots geo place stores)) place slot number seen lost below apart is;
      stood = λ number seen below is. (let found = lost_stood_before geo words (after_stores words (at_slots geo place stores)) place slot number seen lost below is in (found.0, found.1, found.3));
    }

-- after each store of the shift
pub midway_next : (geo : Geo) (words : List ℕ) (place slot at word : ℕ) (made : List WordStore) → IsTier geo words place slot → NextStore (ring_of geo) (slot_words geo words place) slot made at word
    → IsMidway geo words (slice_set (after_stores words (at_slots geo place made)) (slot_at geo place at) word) place slot
midway_next geo words place slot at word made tier next =
    subst (λ (now : List ℕ). IsMidway geo words now place slot) (one_more_at geo words place at word made)
    (midway geo words place slot (made ++ store_at at word ∷ []) tier (with_next (ring_of geo) (slot_words geo words place) slot at word made next))
