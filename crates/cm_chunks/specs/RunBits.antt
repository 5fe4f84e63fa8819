-- What a list of words is after the bits of a run were set or cleared (own).
use Rattle.std.specs.Prelude.{ℕ, ◌≡◌, ◌≢◌, ◌+◌, ◌/◌, ◌<◌, ◌≤◌, ◌⊎◌, ◌↔◌, List}
use Rattle.cm_geo.specs.declared.geo.Geo.{Geo}
use Rattle.cm_geo.specs.Addresses.{bits_at}
use Rattle.cm_plain.specs.declared.plan.Run.{Run}
use Rattle.cm_plain.specs.Slots.{word_at}
use Rattle.cm_plain.specs.Lawful.{HasBit}
use Rattle.cm_words.specs.Memory.{MemSeen}
use Rattle.cm_words.specs.Effects.{Changes}
use Rattle.cm_words.specs.Stores.{Leads}
use Rattle.cm_chunks.specs.Turns.{stores_to_clear, stores_to_set}

-- a run of 1 to as many chunks as an entry may have lies in its tier
pub record IsRunIn (geo : Geo) (run : Run) : Type 0 where
  pub place_inside : run.place < geo.tiers
  pub nonzero : 1 ≤ run.chunks
  pub within_limit : run.chunks ≤ 64
  pub inside : run.chunk + run.chunks ≤ geo.chunks

-- a chunk of a tier lies in a run
pub record IsInRun (run : Run) (place chunk : ℕ) : Type 0 where
  pub place_is : place ≡ run.place
  pub begun : run.chunk ≤ chunk
  pub not_ended : chunk < run.chunk + run.chunks

-- no bit of a run stands in this word
abbrev pub IsApart : Geo → Run → ℕ → Type 0
IsApart geo run at = (chunk : ℕ) → IsInRun run run.place chunk → at ≢ bits_at geo run.place (chunk / 64)

-- the bits of the run are set as well, and no other word has changed
pub record HasSet (geo : Geo) (run : Run) (before words : List ℕ) : Type 0 where
  pub bits : (place chunk : ℕ) → chunk < geo.chunks → (HasBit geo words place chunk ↔ (IsInRun run place chunk ⊎ HasBit geo before place chunk))
  pub others : (at : ℕ) → IsApart geo run at → word_at words at ≡ word_at before at

-- only the bits outside the run are left, and no other word has changed
pub record HasCleared (geo : Geo) (run : Run) (before words : List ℕ) : Type 0 where
  pub bits : (place chunk : ℕ) → chunk < geo.chunks → (HasBit geo words place chunk ↔ ((IsInRun run place chunk → ⊥) × HasBit geo before place chunk))
  pub others : (at : ℕ) → IsApart geo run at → word_at words at ≡ word_at before at

-- the stores for a list lead from it to another, and set the run's bits
pub record LeadsSet (old now : MemSeen) (geo : Geo) (run : Run) (before words : List ℕ) : Type 0 where
  pub by : Leads old now (stores_to_set geo run before) before words
  pub has : HasSet geo run before words

-- the bits of a run were set, and no other store was made
abbrev pub Sets : MemSeen → MemSeen → Geo → Run → Type 0
Sets old now geo run = Changes old now (LeadsSet old now geo run)

-- the stores for a list lead from it to another, and clear the run's bits
pub record LeadsCleared (old now : MemSeen) (geo : Geo) (run : Run) (before words : List ℕ) : Type 0 where
  pub by : Leads old now (stores_to_clear geo run before) before words
  pub has : HasCleared geo run before words

-- the bits of a run were cleared, and no other store was made
abbrev pub Clears : MemSeen → MemSeen → Geo → Run → Type 0
Clears old now geo run = Changes old now (LeadsCleared old now geo run)
