-- Words of bits that tell which chunks are taken (own).
use Rattle.std.specs.Prelude.{ℕ, ◌≡◌, ◌+◌, ◌/◌, ◌%◌, ◌<◌, ◌≤◌, ◌==◌, ◌⊎◌, Bool, true, false, List, slice_index}
use Rattle.std.specs.Int.{bit_at}
use Rattle.cm_geo.specs.declared.geo.Geo.{Geo}
use Rattle.cm_check.specs.CountLaws.{is_taken}

-- the bit of a chunk is set
unfoldable pub has_taken : List ℕ → ℕ → Bool
has_taken bits chunk = bit_at (slice_index bits (chunk / 64)) (chunk % 64) == 1

-- a chunk is one of so many from a chunk on
pub record IsWithin (chunk chunks at : ℕ) : Type 0 where
  pub begun : chunk ≤ at
  pub not_ended : at < chunk + chunks

-- so many chunks, none of which was taken, are taken besides
pub record AddsRun (old now : List ℕ) (chunk chunks : ℕ) : Type 0 where
  pub fresh : (at : ℕ) → IsWithin chunk chunks at → has_taken old at ≡ false
  pub added : (at : ℕ) → IsWithin chunk chunks at → has_taken now at ≡ true
  pub others : (at : ℕ) → at < 4096 → (at < chunk) ⊎ (chunk + chunks ≤ at) → has_taken now at ≡ has_taken old at

-- one of so many chunks was taken
abbrev pub MeetsRun : List ℕ → ℕ → ℕ → Type 0
MeetsRun old chunk chunks = (at : ℕ) × IsWithin chunk chunks at × (has_taken old at ≡ true)

-- the bits are those of the chunks in the runs of the first so many slots of a tier
abbrev pub Tells : Geo → List ℕ → ℕ → ℕ → List ℕ → Type 0
Tells geo words place count bits = (chunk : ℕ) → chunk < geo.chunks → has_taken bits chunk ≡ is_taken geo words place count chunk
