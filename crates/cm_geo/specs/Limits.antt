-- The limits of a geometry's numbers (own).
use Rattle.std.specs.Prelude.{ℕ, Bool, ◌==◌, ◌&&◌, nat_le, [], ◌∷◌}
use Rattle.std.specs.List.{list_any}

-- segments: a power of two from 1 to 64
abbrev pub is_segments : ℕ → Bool
is_segments n = list_any (λ power. n == power) (1 ∷ 2 ∷ 4 ∷ 8 ∷ 16 ∷ 32 ∷ 64 ∷ [])

-- tiers of a segment: 1 to 8
abbrev pub is_tiers : ℕ → Bool
is_tiers n = nat_le 1 n && nat_le n 8

-- chunks of a tier: a power of two from 64 to 4096
abbrev pub is_chunks : ℕ → Bool
is_chunks n = list_any (λ power. n == power) (64 ∷ 128 ∷ 256 ∷ 512 ∷ 1024 ∷ 2048 ∷ 4096 ∷ [])

-- words of a chunk: 4, 8 or 16
abbrev pub is_chunk_words : ℕ → Bool
is_chunk_words n = list_any (λ power. n == power) (4 ∷ 8 ∷ 16 ∷ [])
