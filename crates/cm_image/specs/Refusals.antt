-- Which bytes are no image (own).
use Rattle.std.specs.Prelude.{ℕ, ◌+◌, ◌*◌, ◌==◌, ◌&&◌, not, nat_lt, if◌then◌else◌, Bool, List, length, drop, take, Option, Some, None, is_none}
use Rattle.std.specs.List.{list_all}
use Rattle.std.specs.Option.{option_or}
use Rattle.std.specs.Str.{bytes_eq}
use Rattle.byteorder.specs.Endian.{little_number}
use Rattle.cm_geo.specs.Geometry.{refusal}
use Rattle.cm_geo.specs.Layout.{segment_words}
use Rattle.cm_image.specs.declared.refused.ImageRefused.{ImageRefused}
use Rattle.cm_image.specs.declared.refused.ImageRefused.TheVariants.{Short, Long, Magic, Version, Geometry}
use Rattle.cm_image.specs.Images.{letters}

-- the number in four bytes of a header
unfoldable pub number_at : ℕ → List ℕ → ℕ
number_at place header = little_number 4 (drop place header)

-- the numbers of a header are a geometry, and its last 32 bytes are zero
abbrev pub is_geometry : List ℕ → Bool
is_geometry header =
    is_none (refusal (number_at 12 header) (number_at 16 header) (number_at 20 header) (number_at 24 header) (number_at 28 header))
    && list_all (λ byte. byte == 0) (drop 32 header)

-- what is wrong with a header of 64 bytes: the first that applies
abbrev pub header_refusal : List ℕ → Option ImageRefused
header_refusal header =
    if not (bytes_eq (take 8 header) letters) then Some Magic
    else (if not (number_at 8 header == 1) then Some Version
    else (if not (is_geometry header) then Some Geometry
    else None))

-- how many bytes an image with this header has
abbrev pub length_told : List ℕ → ℕ
length_told header =
    64 + 8 * (number_at 12 header * segment_words (number_at 16 header) (number_at 20 header) (number_at 24 header))

-- what is wrong with a length, where another is wanted
abbrev pub length_refusal : ℕ → ℕ → Option ImageRefused
length_refusal wanted length =
    if nat_lt length wanted then Some Short
    else (if nat_lt wanted length then Some Long
    else None)

-- why bytes are no image: too few for a header, then the header, then the length
unfoldable pub refusal_of : List ℕ → Option ImageRefused
refusal_of bytes =
    if nat_lt (length bytes) 64 then Some Short
    else option_or (header_refusal (take 64 bytes)) (length_refusal (length_told (take 64 bytes)) (length bytes))
