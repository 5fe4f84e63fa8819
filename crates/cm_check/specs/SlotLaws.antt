-- At which slots the laws on slots are broken (own; the slot law is after Chronicle Map).
use Rattle.std.specs.Prelude.{ℕ, ◌*◌, ◌==◌, ◌&&◌, ◌||◌, not, Bool, false, List, map, filter, flat_map, Option, Some, None, is_none}
use Rattle.std.specs.List.{list_any, range_with_len}
use Rattle.cm_geo.specs.declared.geo.Geo.{Geo}
use Rattle.cm_geo.specs.Addresses.{slot_at}
use Rattle.cm_geo.specs.Hash.{fingerprint_in, hash, home_in, segment_of_key}
use Rattle.cm_plain.specs.declared.placed.Placed.{Placed}
use Rattle.cm_plain.specs.Slots.{Slot, slot_in}
use Rattle.cm_plain.specs.Lawful.{slot_behind, steps_between}
use Rattle.cm_check.specs.Places.{chain_in, linked_places, places_before}
use Rattle.cm_check.specs.SlotEntries.{entry_in, entry_pointed, has_key, run_meets}

-- the slots of the tier at a place for which a test holds, in ascending order, by their addresses
abbrev pub slots_where : Geo → ℕ → (ℕ → Bool) → List ℕ
slots_where geo place test = map (slot_at geo place) (filter test (range_with_len 0 (2 * geo.chunks)))

-- ---- a slot points to an entry of this segment, whose key has the slot's fingerprint

abbrev pub is_rightful : Geo → ℕ → ℕ → Option Placed → Bool
is_rightful geo segment fingerprint None = false
is_rightful geo segment fingerprint (Some placed) = (segment_of_key geo placed.key == segment) && (fingerprint_in geo (hash placed.key) == fingerprint)

-- a slot that isn't empty does not
abbrev pub is_astray_slot : Geo → ℕ → List ℕ → ℕ → Option Slot → Bool
is_astray_slot geo segment words place None = false
is_astray_slot geo segment words place (Some slot) = not (is_rightful geo segment slot.fingerprint (entry_pointed geo words place slot.chunk))

unfoldable pub is_astray : Geo → ℕ → List ℕ → ℕ → ℕ → Bool
is_astray geo segment words place number = is_astray_slot geo segment words place (slot_in geo words place number)

unfoldable pub slot_broken : Geo → ℕ → List ℕ → List ℕ
slot_broken geo segment words = flat_map (λ place. slots_where geo place (is_astray geo segment words place)) (linked_places geo words)

-- ---- no empty slot stands between a slot's home and the slot

-- the slot so many steps behind the home of a fingerprint is empty
abbrev pub is_gap : Geo → List ℕ → ℕ → ℕ → ℕ → Bool
is_gap geo words place fingerprint steps = is_none (slot_in geo words place (slot_behind (2 * geo.chunks) (home_in geo fingerprint) steps))

abbrev pub is_cut_off_slot : Geo → List ℕ → ℕ → ℕ → Option Slot → Bool
is_cut_off_slot geo words place number None = false
is_cut_off_slot geo words place number (Some slot) =
    list_any (is_gap geo words place slot.fingerprint) (range_with_len 0 (steps_between (2 * geo.chunks) (home_in geo slot.fingerprint) number))

unfoldable pub is_cut_off : Geo → List ℕ → ℕ → ℕ → Bool
is_cut_off geo words place number = is_cut_off_slot geo words place number (slot_in geo words place number)

unfoldable pub gap_broken : Geo → List ℕ → List ℕ
gap_broken geo words = flat_map (λ place. slots_where geo place (is_cut_off geo words place)) (linked_places geo words)

-- ---- no earlier slot, in order of chain and slot, points to an entry with the same key

-- one of the first so many slots of the tier at a place points to an entry with this key
unfoldable pub is_key_among : Geo → List ℕ → List ℕ → ℕ → ℕ → Bool
is_key_among geo words key count place = list_any (λ number. has_key key (entry_in geo words place number)) (range_with_len 0 count)

abbrev pub is_entry_again : Geo → List ℕ → List ℕ → ℕ → ℕ → Option Placed → Bool
is_entry_again geo words earlier place number None = false
is_entry_again geo words earlier place number (Some placed) =
    list_any (is_key_among geo words placed.key (2 * geo.chunks)) earlier || is_key_among geo words placed.key number place

unfoldable pub is_again : Geo → List ℕ → List ℕ → ℕ → ℕ → Bool
is_again geo words earlier place number = is_entry_again geo words earlier place number (entry_in geo words place number)

unfoldable pub duplicate_broken : Geo → List ℕ → List ℕ
duplicate_broken geo words = flat_map (λ place. slots_where geo place (is_again geo words (places_before (chain_in geo words) place) place)) (chain_in geo words)

-- ---- no run meets that of an earlier slot of its tier

unfoldable pub is_overlapping : Geo → List ℕ → ℕ → ℕ → Bool
is_overlapping geo words place number = list_any (λ earlier. run_meets geo (entry_in geo words place number) (entry_in geo words place earlier)) (range_with_len 0 number)

unfoldable pub overlap_broken : Geo → List ℕ → List ℕ
overlap_broken geo words = flat_map (λ place. slots_where geo place (is_overlapping geo words place)) (chain_in geo words)
