-- Runs of free chunks in a tier (own): those whose bits are clear.
use Rattle.std.specs.Prelude.{ℕ, ◌+◌, ◌<◌, ◌≤◌, List, Option, MatchOption}
use Rattle.cm_geo.specs.declared.geo.Geo.{Geo}
use Rattle.cm_plain.specs.Lawful.{HasBit}

-- so many chunks from this one on are there, and the bit of each is clear
pub record IsFreeRun (geo : Geo) (words : List ℕ) (place chunk chunks : ℕ) : Type 0 where
  pub inside : chunk + chunks ≤ geo.chunks
  pub clear : (other : ℕ) → chunk ≤ other → other < chunk + chunks → HasBit geo words place other → ⊥

-- the least chunk from which so many are free
pub record IsFirstFit (geo : Geo) (words : List ℕ) (place chunks chunk : ℕ) : Type 0 where
  pub run : IsFreeRun geo words place chunk chunks
  pub least : (other : ℕ) → IsFreeRun geo words place other chunks → chunk ≤ other

-- it is found exactly where there is one
abbrev pub FindsFit : Geo → List ℕ → ℕ → ℕ → Option ℕ → Type 0
FindsFit geo words place chunks found =
    MatchOption found ((chunk : ℕ) → IsFreeRun geo words place chunk chunks → ⊥) (IsFirstFit geo words place chunks)
