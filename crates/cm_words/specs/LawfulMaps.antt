-- Maps whose words represent states (own).
use Rattle.std.specs.Prelude.{ℕ, ◌<◌, List}
use Rattle.cm_geo.specs.declared.geo.Geo.{Geo}
use Rattle.cm_plain.specs.FoundChains.{KeepsAllowance}
use Rattle.cm_plain.specs.Lawful.{Lawful}
use Rattle.cm_plain.specs.States.{State}
use Rattle.cm_words.specs.Maps.{MapWords, segment_in}

-- a segment's words represent a state after some number of changes, and nobody holds its lock
abbrev pub IsLawfulSegment : Geo → ℕ → List ℕ → Type 0
IsLawfulSegment geo segment words = (number : ℕ) × (state : State) × Lawful geo segment words number state

-- it is so for each segment of a map, and the chains keep the allowance
pub record IsLawfulMap (words : MapWords) : Type 0 where
  pub segments : (segment : ℕ) → segment < words.geo.segments → IsLawfulSegment words.geo segment (segment_in words segment)
  pub allowance : KeepsAllowance words.geo (segment_in words)
