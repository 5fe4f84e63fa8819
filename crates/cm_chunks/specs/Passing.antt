-- How far a search along the bit words of a tier has come (own).
use Rattle.std.specs.Prelude.{ℕ, ◌+◌, ◌*◌, ◌<◌, ◌≤◌, List}
use Rattle.cm_geo.specs.declared.geo.Geo.{Geo}
use Rattle.cm_plain.specs.Lawful.{HasBit}
use Rattle.cm_words.specs.Memory.{FitsNotes, MemSeen}
use Rattle.cm_chunks.specs.Free.{IsFreeRun}

-- a run that begins before a bit word begins among the last chunks before it, and goes on in it
pub record GoesOn (number before chunks chunk : ℕ) : Type 0 where
  pub not_before : 64 * number ≤ chunk + before
  pub past : 64 * number < chunk + chunks

-- the bit words before this one were passed: the last so many chunks before it are free, and each free run that begins before it goes on in it
pub record IsPassed (geo : Geo) (words : List ℕ) (place chunks number before : ℕ) : Type 0 where
  pub free : (chunk : ℕ) → 64 * number ≤ chunk + before → chunk < 64 * number → HasBit geo words place chunk → ⊥
  pub runs : (chunk : ℕ) → chunk < 64 * number → IsFreeRun geo words place chunk chunks → GoesOn number before chunks chunk

-- so in each list that fits the notes
abbrev pub ArePassed : MemSeen → Geo → ℕ → ℕ → ℕ → ℕ → Type 0
ArePassed m geo place chunks number before = (words : List ℕ) → FitsNotes m words → IsPassed geo words place chunks number before
