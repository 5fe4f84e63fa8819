-- Which tiers the allowance covers (own). The tiers beyond the first one of each segment are counted by segment and then by chain.
use Rattle.std.specs.Prelude.{ℕ, ◌+◌, ◌-◌, List, length, sum_by, take}
use Rattle.std.specs.List.{range_with_len}
use Rattle.cm_geo.specs.declared.geo.Geo.{Geo}
use Rattle.cm_plain.specs.FoundChains.{chain_of}

-- how many such tiers the segments before this one have
abbrev pub extra_before : Geo → (ℕ → List ℕ) → ℕ → ℕ
extra_before geo words_of segment = sum_by (λ earlier. length (chain_of geo (words_of earlier)).places - 1) (range_with_len 0 segment)

-- the chain of a segment, ended before its first tier that is outside the allowance
unfoldable pub allowed_places : Geo → (ℕ → List ℕ) → ℕ → List ℕ
allowed_places geo words_of segment = take (1 + (geo.extra - extra_before geo words_of segment)) (chain_of geo (words_of segment)).places
