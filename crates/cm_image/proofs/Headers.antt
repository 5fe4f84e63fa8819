-- The header of an image.
use Rattle.std.proofs.Common.{◌≡◌, ◌<◌, ◌≤◌, ◌+◌, ◌*◌, ◌-◌, ◌^◌, ◌&&◌, ◌++◌, ◌∷◌, ◌∙◌, [], ℕ, Bool, true, false, List, length, take, drop, replicate, Some, None, length-drop, refl, sym, ap, append_assoc, eqb, ltb, arith}
use Rattle.std.proofs.lemmas.List.{take-append-drop, drop-drop}
use Rattle.std.proofs.lemmas.Bool.{eq-eqb, false≢true, le-ltb}
use Rattle.std.proofs.lemmas.Slice.Eq.{bytes_eq-Decides}
use Rattle.std.proofs.Math.Bool.{and-false}
use Rattle.std.specs.Str.{bytes_eq}
use borrow.Rule.Slice.PartMut.{put_mid}
use Rattle.cm_image.specs.declared.refused.ImageRefused.{ImageRefused}
use Rattle.std.proofs.lemmas.Bool.Decides.{Decides-eqb}
use Rattle.std.specs.List.{flat_map, list_all}
use Rattle.byteorder.specs.Endian.{little_bytes, little_number}
use Rattle.cm_geo.specs.declared.geo.Geo.{Geo}
use Rattle.cm_geo.specs.Geometry.{IsGeoOf, refusal}
use Rattle.cm_geo.specs.Layout.{segment_words}
use Rattle.cm_geo.specs.Addresses.{words_in_segment}
use Rattle.cm_geo.specs.contracts.geo.Geo as geo_row
use Rattle.cm_geo.proofs.Ranges.{segments_range, tiers_range, chunks_range, chunk_words_range}
use Rattle.byteorder.specs.Numbers.{little_number-reads_back}
use Rattle.cm_geo.specs.declared.refused.GeoRefused.{GeoRefused}
use Rattle.std.specs.Prelude.{if◌then◌else◌, is_none, not, Option}
use Rattle.cm_image.specs.declared.refused.ImageRefused.TheVariants.{Geometry, Magic, Version}
use Rattle.cm_image.specs.Images.{header_bytes, image_length, letters}
use Rattle.cm_image.specs.Refusals.{header_refusal, is_geometry, length_told, number_at}
use Rattle.cm_image.proofs.Bytes.{AreBytes, numbers_at, numbers-again}

-- two tests that both pass
both : (one other : Bool) → (one && other) ≡ true → (one ≡ true) × (other ≡ true)
both true true e = (refl, refl)
both true false e = absurd (false≢true e)
both false other e = absurd (false≢true e)

-- bytes that are all zero
pub zeros : (bytes : List ℕ) → list_all (λ byte. eqb byte 0) bytes ≡ true → bytes ≡ replicate (length bytes) 0
zeros [] all = refl
zeros (b ∷ bytes) all =
    let split = both (eqb b 0) (list_all (λ byte. eqb byte 0) bytes) all in
    let head : b ≡ 0 = (Decides-eqb b 0).0 split.0 in
    ap (λ (n : ℕ). n ∷ bytes) head ∙ ap (λ (rest : List ℕ). 0 ∷ rest) (zeros bytes split.1)

-- the header of a geometry has 64 bytes
pub length-header : (geo : Geo) → length (header_bytes geo) ≡ 64
unfolding header_bytes
length-header geo = refl

-- a header with these parts is that of its numbers
pub header-whole : (header : List ℕ) (geo : Geo) → length header ≡ 64 → AreBytes header → take 8 header ≡ letters → number_at 8 header ≡ 1
    → IsGeoOf geo (number_at 12 header) (number_at 16 header) (number_at 20 header) (number_at 24 header) (number_at 28 header)
    → list_all (λ byte. eqb byte 0) (drop 32 header) ≡ true → header ≡ header_bytes geo
unfolding header_bytes
header-whole header geo long small magic version is zero_bytes =
    let numbers : (1 ∷ geo.segments ∷ geo.tiers ∷ geo.chunks ∷ geo.chunk_words ∷ geo.extra ∷ []) ≡ numbers_at 8 6 header =
    cc (is.segments_is, is.tiers_is, is.chunks_is, is.chunk_words_is, is.extra_is, version) in
    let middle : flat_map (little_bytes 4) (1 ∷ geo.segments ∷ geo.tiers ∷ geo.chunks ∷ geo.chunk_words ∷ geo.extra ∷ []) ≡ take 24 (drop 8 header) =
    ap (flat_map (little_bytes 4)) numbers ∙ numbers-again 8 6 header (omega arith) small in
    let last_long : length (drop 32 header) ≡ 32 = omega (arith, length-drop 32 header) in
    let last : drop 32 header ≡ replicate 32 0 = zeros (drop 32 header) zero_bytes ∙ ap (λ (n : ℕ). replicate n 0) last_long in
    let rest : drop 8 header ≡ take 24 (drop 8 header) ++ drop 32 header =
    sym (take-append-drop 24 (drop 8 header)) ∙ ap (λ (t : List ℕ). take 24 (drop 8 header) ++ t) (drop-drop 24 8 header) in
    let numbered = flat_map (little_bytes 4) (1 ∷ geo.segments ∷ geo.tiers ∷ geo.chunks ∷ geo.chunk_words ∷ geo.extra ∷ []) in
    sym (take-append-drop 8 header) ∙ ap (λ (t : List ℕ). t ++ drop 8 header) magic ∙ ap (λ (t : List ℕ). letters ++ t) rest
    ∙ ap (λ (t : List ℕ). letters ++ (t ++ drop 32 header)) (sym middle)
    ∙ ap (λ (t : List ℕ). letters ++ (numbered ++ t)) last ∙ sym (append_assoc letters numbered (replicate 32 0))

-- five numbers are one geometry's
pub same_geo : (one other : Geo) → IsGeoOf one other.segments other.tiers other.chunks other.chunk_words other.extra → one ≡ other
same_geo one other is = geo_row.the_row.coded.inj one other (cc)

-- a number of a header, read as it was written
read : (number : ℕ) (rest : List ℕ) → number < 2 ^ 32 → little_number 4 (little_bytes 4 number ++ rest) ≡ number
read number rest fits = let below : number < 256 ^ 4 = fits in little_number-reads_back 4 number rest below

-- the header of a geometry has its numbers
pub numbers-header : (geo : Geo) → (number_at 8 (header_bytes geo) ≡ 1)
    × IsGeoOf geo (number_at 12 (header_bytes geo)) (number_at 16 (header_bytes geo)) (number_at 20 (header_bytes geo)) (number_at 24 (header_bytes geo)) (number_at 28 (header_bytes geo))
unfolding header_bytes number_at
numbers-header geo =
    let segments = segments_range geo in
    let tiers = tiers_range geo in
    let chunks = chunks_range geo in
    let chunk_words = chunk_words_range geo in
    let few : geo.segments * geo.tiers ≤ 512 = grind arith in
    let zero_bytes : List ℕ = replicate 32 0 in
    let five : List ℕ = flat_map (little_bytes 4) (geo.segments ∷ geo.tiers ∷ geo.chunks ∷ geo.chunk_words ∷ geo.extra ∷ []) ++ zero_bytes in
    let four : List ℕ = flat_map (little_bytes 4) (geo.tiers ∷ geo.chunks ∷ geo.chunk_words ∷ geo.extra ∷ []) ++ zero_bytes in
    let three : List ℕ = flat_map (little_bytes 4) (geo.chunks ∷ geo.chunk_words ∷ geo.extra ∷ []) ++ zero_bytes in
    let two : List ℕ = flat_map (little_bytes 4) (geo.chunk_words ∷ geo.extra ∷ []) ++ zero_bytes in
    let one : List ℕ = flat_map (little_bytes 4) (geo.extra ∷ []) ++ zero_bytes in (
      read 1 five (omega arith),
      record {
        segments_is = sym (read geo.segments four (omega arith));
        tiers_is = sym (read geo.tiers three (omega arith));
        chunks_is = sym (read geo.chunks two (omega arith));
        chunk_words_is = sym (read geo.chunk_words one (omega arith));
        extra_is = sym (read geo.extra zero_bytes (omega (arith, geo.extra_fit)));
      },
    )

-- a geometry's numbers are not refused
unrefused : (geo : Geo) → refusal geo.segments geo.tiers geo.chunks geo.chunk_words geo.extra ≡ None
unrefused geo =
    let tiers = tiers_range geo in
    let all : geo.segments * geo.tiers ≡ geo.segments * (geo.tiers - 1) + geo.segments = grind arith in
    let extra : ltb (geo.segments * (geo.tiers - 1)) geo.extra ≡ false = le-ltb _ _ (omega (arith, geo.extra_fit)) in
    let words : ltb (2 ^ 22) (geo.segments * segment_words geo.tiers geo.chunks geo.chunk_words) ≡ false = le-ltb _ _ geo.words_fit in
    rw (geo.segments_fit, geo.tiers_fit, geo.chunks_fit, geo.chunk_words_fit, extra, words) refl

-- nor are numbers that are a geometry's
accepts-numbers : (geo : Geo) (segments tiers chunks chunk_words extra : ℕ) → IsGeoOf geo segments tiers chunks chunk_words extra
    → refusal segments tiers chunks chunk_words extra ≡ None
accepts-numbers geo segments tiers chunks chunk_words extra is =
    rw (← is.segments_is, ← is.tiers_is, ← is.chunks_is, ← is.chunk_words_is, ← is.extra_is) (unrefused geo)

-- a geometry's header is not refused
pub accepts-header : (geo : Geo) → header_refusal (header_bytes geo) ≡ None
unfolding header_bytes number_at
accepts-header geo =
    let numbers : refusal (number_at 12 (header_bytes geo)) (number_at 16 (header_bytes geo)) (number_at 20 (header_bytes geo)) (number_at 24 (header_bytes geo)) (number_at 28 (header_bytes geo)) ≡ None =
    accepts-numbers geo _ _ _ _ _ (numbers-header geo).1 in
    let whole : is_geometry (header_bytes geo) ≡ true = ap (λ (r : Option GeoRefused). is_none r && true) numbers in
    ap (λ (b : Bool). if not b then Some Geometry else None) whole

-- a header with the numbers of a geometry tells the length of its image
pub told-header : (header : List ℕ) (geo : Geo)
    → IsGeoOf geo (number_at 12 header) (number_at 16 header) (number_at 20 header) (number_at 24 header) (number_at 28 header)
    → length_told header ≡ image_length geo
unfolding words_in_segment
told-header header geo is = rw (is.segments_is, is.tiers_is, is.chunks_is, is.chunk_words_is) refl

-- a header's refusal, by its three tests
abbrev by_tests : Bool → Bool → Bool → Option ImageRefused
by_tests magic version geometry =
    if not magic then Some Magic
    else (if not version then Some Version
    else (if not geometry then Some Geometry
    else None))

-- with the letters and the version, the geometry alone is left
by_geometry : (header : List ℕ) (is : Bool) → bytes_eq (take 8 header) letters ≡ true → number_at 8 header ≡ 1 → is_geometry header ≡ is
    → header_refusal header ≡ by_tests true true is
by_geometry header is magic version geometry =
    ap (λ (m : Bool). by_tests m (eqb (number_at 8 header) 1) (is_geometry header)) magic
    ∙ ap (λ (v : Bool). by_tests true v (is_geometry header)) (eq-eqb _ _ version) ∙ ap (by_tests true true) geometry

-- why a header's numbers are no geometry
abbrev pub numbers_refusal : List ℕ → Option GeoRefused
numbers_refusal header = refusal (number_at 12 header) (number_at 16 header) (number_at 20 header) (number_at 24 header) (number_at 28 header)

-- numbers that are no geometry
pub refuses-numbers : (header : List ℕ) (why : GeoRefused) → bytes_eq (take 8 header) letters ≡ true → number_at 8 header ≡ 1
    → numbers_refusal header ≡ Some why → header_refusal header ≡ Some Geometry
refuses-numbers header why magic version refused =
    by_geometry header false magic version (ap (λ (r : Option GeoRefused). is_none r && list_all (λ byte. eqb byte 0) (drop 32 header)) refused)

-- a reserved byte that isn't zero
pub refuses-reserved : (header : List ℕ) → bytes_eq (take 8 header) letters ≡ true → number_at 8 header ≡ 1
    → list_all (λ byte. eqb byte 0) (drop 32 header) ≡ false → header_refusal header ≡ Some Geometry
refuses-reserved header magic version zero_bytes =
    by_geometry header false magic version (ap (λ (b : Bool). is_none (numbers_refusal header) && b) zero_bytes ∙ and-false _)

-- a header with none of these is that of its geometry
pub accepts-tests : (header : List ℕ) (geo : Geo) → length header ≡ 64 → AreBytes header → bytes_eq (take 8 header) letters ≡ true → number_at 8 header ≡ 1
    → numbers_refusal header ≡ None → IsGeoOf geo (number_at 12 header) (number_at 16 header) (number_at 20 header) (number_at 24 header) (number_at 28 header)
    → list_all (λ byte. eqb byte 0) (drop 32 header) ≡ true → (header_refusal header ≡ None) × (header ≡ header_bytes geo)
accepts-tests header geo long small magic version unrefused_numbers is zero_bytes =
    let geometry : is_geometry header ≡ true =
    ap (λ (r : Option GeoRefused). is_none r && list_all (λ byte. eqb byte 0) (drop 32 header)) unrefused_numbers ∙ zero_bytes in (
      by_geometry header true magic version geometry,
      header-whole header geo long small ((bytes_eq-Decides (take 8 header) letters).0 magic) version is zero_bytes,
    )

-- the header, written into zeros
pub header-put : (geo : Geo) (front numbers : List ℕ) → front ≡ letters
    → numbers ≡ flat_map (little_bytes 4) (1 ∷ geo.segments ∷ geo.tiers ∷ geo.chunks ∷ geo.chunk_words ∷ geo.extra ∷ [])
    → put_mid 8 24 (front ++ drop 8 (replicate 64 0)) numbers ≡ header_bytes geo
unfolding header_bytes
header-put geo front numbers is_front is_numbers =
    ap (λ (t : List ℕ). put_mid 8 24 (t ++ drop 8 (replicate 64 0)) numbers) is_front
    ∙ ap (λ (t : List ℕ). put_mid 8 24 (letters ++ drop 8 (replicate 64 0)) t) is_numbers
