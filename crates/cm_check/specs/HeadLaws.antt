-- At which words the laws on single words of a segment are broken (own): its first four words, the links, the reserved words of tiers, and
-- what stands in places outside the chain.
use Rattle.std.specs.Prelude.{ℕ, ◌+◌, ◌-◌, ◌^◌, ◌%◌, ◌==◌, ◌&&◌, not, Bool, List, [], ◌∷◌, length, filter, flat_map, nat_le, slice_index}
use Rattle.std.specs.List.{range_with_len}
use Rattle.cm_geo.specs.declared.geo.Geo.{Geo}
use Rattle.cm_geo.specs.Addresses.{tier_at, words_in_tier}
use Rattle.cm_plain.specs.Slots.{word_at}
use Rattle.cm_plain.specs.FoundChains.{chain_of}
use Rattle.cm_check.specs.Places.{chain_in, linked_places, unlinked_places}

-- those of some addresses at which the word isn't 0
abbrev pub where_nonzero : List ℕ → List ℕ → List ℕ
where_nonzero words addresses = filter (λ at. not (word_at words at == 0)) addresses

-- the lock word isn't 0
unfoldable pub lock_broken : List ℕ → List ℕ
lock_broken words = where_nonzero words (0 ∷ [])

-- a change number of a quiet segment: it is even, and not beyond the last one
abbrev pub is_quiet_number : ℕ → Bool
is_quiet_number word = word % 2 == 0 && nat_le word (2 ^ 63)

-- the change number is another one
unfoldable pub number_broken : List ℕ → List ℕ
number_broken words = filter (λ at. not (is_quiet_number (word_at words at))) (1 ∷ [])

-- the fourth word isn't 0
unfoldable pub header_broken : List ℕ → List ℕ
header_broken words = where_nonzero words (3 ∷ [])

-- the last place of a chain
abbrev pub last_place : List ℕ → ℕ
last_place chain = slice_index chain (length chain - 1)

-- the link of the chain's last tier leads nowhere
unfoldable pub chain_broken : Geo → List ℕ → List ℕ
chain_broken geo words = filter (λ at. (chain_of geo words).cut) (tier_at geo (last_place (chain_in geo words)) ∷ [])

-- the third or the fourth word of a chained tier isn't 0
abbrev pub reserved_in : Geo → List ℕ → ℕ → List ℕ
reserved_in geo words place = where_nonzero words (range_with_len (tier_at geo place + 2) 2)

unfoldable pub reserved_broken : Geo → List ℕ → List ℕ
reserved_broken geo words = flat_map (reserved_in geo words) (linked_places geo words)

-- a word of a place outside the chain isn't 0
abbrev pub nonzero_in : Geo → List ℕ → ℕ → List ℕ
nonzero_in geo words place = where_nonzero words (range_with_len (tier_at geo place) (words_in_tier geo))

unfoldable pub unlinked_broken : Geo → List ℕ → List ℕ
unlinked_broken geo words = flat_map (nonzero_in geo words) (unlinked_places geo words)
