-- Where a value is placed (own): first fit over the tiers of the chain.
use Rattle.std.specs.Prelude.{ℕ, ◌+◌, ◌-◌, ◌==◌, ◌&&◌, ◌||◌, not, Bool, true, false, List, [], ◌∷◌, length, nat_le, nat_lt, find, Option, Some, None, if◌then◌else◌}
use Rattle.std.specs.List.{list_any, range_with_len, position_or_len}
use Rattle.std.specs.Option.{option_map, option_or}
use Rattle.cm_geo.specs.declared.geo.Geo.{Geo}
use Rattle.cm_plain.specs.declared.placed.Placed.{Placed}
use Rattle.cm_plain.specs.declared.room.Spot.{Spot}
use Rattle.cm_plain.specs.declared.room.Room.{Room}
use Rattle.cm_plain.specs.declared.room.Room.TheVariants.{InPlace, Elsewhere, NewTier, Nowhere}
use Rattle.cm_plain.specs.States.{State, chunks_of, entry_of}

-- an entry's run meets one of so many chunks from this one on, at this place
abbrev pub meets : Geo → ℕ → ℕ → ℕ → Placed → Bool
meets geo place chunk chunks entry =
    entry.place == place && (nat_lt entry.chunk (chunk + chunks) && nat_lt chunk (entry.chunk + chunks_of geo entry))

-- so many chunks from this one on are there, and in no run
abbrev pub is_free : Geo → List Placed → ℕ → ℕ → ℕ → Bool
is_free geo entries place chunk chunks = nat_le (chunk + chunks) geo.chunks && not (list_any (meets geo place chunk chunks) entries)

-- the least chunk at a place from which so many are free
abbrev pub least_free : Geo → List Placed → ℕ → ℕ → Option ℕ
least_free geo entries chunks place = find (λ chunk. is_free geo entries place chunk chunks) (range_with_len 0 geo.chunks)

-- a chunk at a place
abbrev pub spot_at : ℕ → Option ℕ → Option Spot
spot_at place chunk = option_map (λ chunk. record { place = place; chunk = chunk }) chunk

-- the first of these places at which so many chunks are free, and the least chunk there
abbrev pub fit_among : Geo → List Placed → ℕ → List ℕ → Option Spot
fit_among geo entries chunks [] = None
fit_among geo entries chunks (place ∷ places) =
    option_or (spot_at place (least_free geo entries chunks place)) (fit_among geo entries chunks places)

-- the first tier of the chain with so many free chunks in a row, and the least such chunk there
abbrev pub first_fit : Geo → State → ℕ → Option Spot
first_fit geo state chunks = fit_among geo state.entries chunks state.chain

-- the lowest place that is not in the chain
abbrev pub is_unlinked : List ℕ → ℕ → Bool
is_unlinked chain place = not (list_any (λ linked. linked == place) chain)

-- the lowest of these places; the number of tiers where there is none
abbrev pub lowest_unlinked : Geo → List ℕ → ℕ
lowest_unlinked geo chain = position_or_len (is_unlinked chain) (range_with_len 0 geo.tiers)

-- a value of so many chunks can stay where an entry stands: it takes no more, or the chunks behind are free
abbrev pub can_stay : Geo → List Placed → Placed → ℕ → Bool
can_stay geo entries entry chunks =
    nat_le chunks (chunks_of geo entry)
    || is_free geo entries entry.place (entry.chunk + chunks_of geo entry) (chunks - chunks_of geo entry)

-- the first fit; where there is none, a new tier, if the chain may have one more
abbrev pub room_apart : Geo → List ℕ → Option Spot → Room
room_apart geo chain (Some spot) = Elsewhere spot
room_apart geo chain None = if nat_lt (length chain) geo.tiers then NewTier (lowest_unlinked geo chain) else Nowhere

-- where a value goes, beside its key's old entry: there, if it can stay
abbrev pub room_beside : Geo → State → Option Placed → ℕ → Room
room_beside geo state None chunks = room_apart geo state.chain (first_fit geo state chunks)
room_beside geo state (Some old) chunks =
    if can_stay geo state.entries old chunks then InPlace else room_apart geo state.chain (first_fit geo state chunks)

-- where a key's value of so many chunks goes; an old entry of the key still counts
abbrev pub room_for : Geo → State → List ℕ → ℕ → Room
room_for geo state key chunks = room_beside geo state (entry_of key state) chunks

-- the chunk at which a value goes, beside the key's old entry
abbrev pub spot_in : Room → Option Placed → Option Spot
spot_in InPlace None = None
spot_in InPlace (Some old) = Some (record { place = old.place; chunk = old.chunk })
spot_in (Elsewhere spot) old = Some spot
spot_in (NewTier place) old = Some (record { place = place; chunk = 0 })
spot_in Nowhere old = None

-- whether a value goes to a new tier
abbrev pub is_new_tier : Room → Bool
is_new_tier (NewTier place) = true
is_new_tier _ = false

-- whether it goes nowhere
abbrev pub is_nowhere : Room → Bool
is_nowhere Nowhere = true
is_nowhere _ = false
