-- The places of a segment's tiers (own): those in the chain, in ascending order, the others, and those that come before one in the chain.
use Rattle.std.specs.Prelude.{ℕ, ◌==◌, List, [], ◌∷◌, filter, if◌then◌else◌}
use Rattle.std.specs.List.{list_any, range_with_len}
use Rattle.std.specs.Prelude.{Bool, not}
use Rattle.cm_geo.specs.declared.geo.Geo.{Geo}
use Rattle.cm_plain.specs.FoundChains.{chain_of}

-- the chain of any words
unfoldable pub chain_in : Geo → List ℕ → List ℕ
chain_in geo words = (chain_of geo words).places

-- a place is in a chain
abbrev pub is_linked : List ℕ → ℕ → Bool
is_linked chain place = list_any (λ linked. linked == place) chain

-- the places in the chain, in ascending order
abbrev pub linked_places : Geo → List ℕ → List ℕ
linked_places geo words = filter (is_linked (chain_in geo words)) (range_with_len 0 geo.tiers)

-- the others
abbrev pub unlinked_places : Geo → List ℕ → List ℕ
unlinked_places geo words = filter (λ place. not (is_linked (chain_in geo words) place)) (range_with_len 0 geo.tiers)

-- those of a chain that come before a place
abbrev pub places_before : List ℕ → ℕ → List ℕ
places_before [] place = []
places_before (linked ∷ chain) place = if linked == place then [] else linked ∷ places_before chain place
