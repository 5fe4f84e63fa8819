-- Which five numbers are a geometry (own).
use Rattle.std.specs.Prelude.{◌≡◌, ℕ, ◌-◌, ◌*◌, not, nat_lt, if◌then◌else◌, Option, Some, None}
use Rattle.cm_geo.specs.declared.geo.Geo.{Geo}
use Rattle.cm_geo.specs.declared.limits.TheConstants.{MAX_MAP_WORDS}
use Rattle.cm_geo.specs.declared.refused.GeoRefused.{GeoRefused}
use Rattle.cm_geo.specs.declared.refused.GeoRefused.TheVariants.{Segments, Tiers, Chunks, ChunkWords, Allowance, TooManyWords}
use Rattle.cm_geo.specs.Limits.{is_segments, is_tiers, is_chunks, is_chunk_words}
use Rattle.cm_geo.specs.Layout.{segment_words}

-- the first number that is outside its limit, in the order of the numbers; the words of the whole map come last
abbrev pub refusal : ℕ → ℕ → ℕ → ℕ → ℕ → Option GeoRefused
refusal segments tiers chunks chunk_words extra =
    if not (is_segments segments) then Some Segments
    else (if not (is_tiers tiers) then Some Tiers
    else (if not (is_chunks chunks) then Some Chunks
    else (if not (is_chunk_words chunk_words) then Some ChunkWords
    else (if nat_lt (segments * (tiers - 1)) extra then Some Allowance
    else (if nat_lt MAX_MAP_WORDS (segments * segment_words tiers chunks chunk_words) then Some TooManyWords
    else None)))))

-- the geometry has these numbers
pub record IsGeoOf (geo : Geo) (segments tiers chunks chunk_words extra : ℕ) : Type 0 where
  pub segments_is : geo.segments ≡ segments
  pub tiers_is : geo.tiers ≡ tiers
  pub chunks_is : geo.chunks ≡ chunks
  pub chunk_words_is : geo.chunk_words ≡ chunk_words
  pub extra_is : geo.extra ≡ extra
