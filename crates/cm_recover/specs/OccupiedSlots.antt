-- The slots of a segment that aren't empty, in the order in which recovery visits them (own).
use Rattle.std.specs.Prelude.{ℕ, ◌*◌, List, Option}
use Rattle.std.specs.List.{filter_map, flat_map, range_with_len}
use Rattle.std.specs.Option.{option_map}
use Rattle.cm_geo.specs.declared.geo.Geo.{Geo}
use Rattle.cm_plain.specs.Slots.{Slot, slot_in}
use Rattle.cm_plain.specs.FoundChains.{chain_of}

-- a slot that isn't empty: the place of its tier, its number there, and what it holds
pub record OccupiedSlot : Type 0 where
  pub place : ℕ
  pub number : ℕ
  pub slot : Slot

-- the slot of this number in the tier at a place, unless it is empty
abbrev pub occupied_at : Geo → List ℕ → ℕ → ℕ → Option OccupiedSlot
occupied_at geo words place number =
    option_map (λ slot. record { place = place; number = number; slot = slot }) (slot_in geo words place number)

-- those of the tier at a place
abbrev pub occupied_in : Geo → List ℕ → ℕ → List OccupiedSlot
occupied_in geo words place = filter_map (occupied_at geo words place) (range_with_len 0 (2 * geo.chunks))

-- those of a segment, in order of its chain and then of their numbers
unfoldable pub occupied_slots : Geo → List ℕ → List OccupiedSlot
occupied_slots geo words = flat_map (occupied_in geo words) (chain_of geo words).places
