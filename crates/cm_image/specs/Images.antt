-- The bytes of a map (own).
use Rattle.std.specs.Prelude.{ℕ, ◌<◌, ◌+◌, ◌*◌, ◌^◌, ◌++◌, ◌∷◌, [], List, All, codes, replicate}
use Rattle.std.specs.List.{flat_map}
use Rattle.byteorder.specs.Endian.{little_bytes}
use Rattle.cm_geo.specs.declared.geo.Geo.{Geo}
use Rattle.cm_geo.specs.Addresses.{words_in_map}
use Rattle.cm_words.specs.Maps.{IsWhole, MapWords}

-- the letters that an image begins with
abbrev pub letters : List ℕ
letters = codes "CMAPWORD"

-- the header: the letters, the version 1 and the geometry's numbers of four bytes each, and 32 bytes that are zero
unfoldable pub header_bytes : Geo → List ℕ
header_bytes geo =
    letters
    ++ flat_map (little_bytes 4) (1 ∷ geo.segments ∷ geo.tiers ∷ geo.chunks ∷ geo.chunk_words ∷ geo.extra ∷ [])
    ++ replicate 32 0

-- words, one after the other, eight bytes each
unfoldable pub word_bytes : List ℕ → List ℕ
word_bytes words = flat_map (little_bytes 8) words

-- the image of a map: its header, then its words
unfoldable pub image_bytes : MapWords → List ℕ
image_bytes map = header_bytes map.geo ++ word_bytes map.words

-- how many bytes the image of a geometry's map has
abbrev pub image_length : Geo → ℕ
image_length geo = 64 + 8 * words_in_map geo

-- as many words as the geometry wants, of 64 bits each
pub record IsMap (map : MapWords) : Type 0 where
  pub whole : IsWhole map
  pub fit : All (λ word. word < 2 ^ 64) map.words
