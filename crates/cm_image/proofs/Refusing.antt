-- Why a file is refused.
use Rattle.std.proofs.Common.{◌≡◌, ◌<◌, ◌≤◌, ◌*◌, ◌∙◌, ℕ, List, length, length-drop, take, drop, Option, Some, None, refl, subst, sym, ap, arith}
use Rattle.std.specs.Prelude.{option_map}
use Rattle.cm_geo.specs.declared.geo.Geo.{Geo}
use Rattle.cm_image.specs.declared.refused.ImageRefused.{ImageRefused}
use Rattle.cm_image.specs.declared.refused.ImageRefused.TheVariants.{Short}
use Rattle.cm_image.specs.declared.stored.ImageStop.{ImageStop}
use Rattle.cm_image.specs.declared.stored.ImageStop.TheVariants as stop
use Rattle.cm_image.specs.Files.{bytes_from}
use Rattle.cm_geo.specs.Addresses.{words_in_map}
use Rattle.cm_words.specs.Maps.{MapWords}
use Rattle.std.proofs.lemmas.List.{take_all}
use Rattle.cm_image.specs.Images.{IsMap, header_bytes, image_bytes, image_length, word_bytes}
use Rattle.cm_image.specs.Refusals.{header_refusal, length_refusal}
use Rattle.cm_image.specs.Stops.{BeginsImage, HoldsImage, HoldsRefused, IsFaultOrNoMemory, StopsGeo, StopsPiece, StopsRead}
use Rattle.cm_image.proofs.Wholes.{accepts-length, image-whole, never-refused, one-image, refuses-header, refuses-length, refuses-short}

-- a file without room for a header
pub refuses-file-short : (file : Option (List ℕ)) (size : ℕ) → option_map length file ≡ Some size → size < 64 → HoldsRefused file Short
refuses-file-short None size is few = absurd (cc is)
refuses-file-short (Some bytes) size is few =
    let long : length bytes ≡ size = cc is in
    refuses-short bytes (omega arith)

-- a file whose header is refused
pub refuses-file-header : (file : Option (List ℕ)) (size : ℕ) (header : List ℕ) (why : ImageRefused) → option_map length file ≡ Some size → 64 ≤ size
    → header ≡ take 64 (bytes_from file 0) → header_refusal header ≡ Some why → HoldsRefused file why
refuses-file-header None size header why is room begins refused = absurd (cc is)
refuses-file-header (Some bytes) size header why is room begins refused =
    let long : length bytes ≡ size = cc is in
    refuses-header bytes why (omega arith) (ap header_refusal (sym begins) ∙ refused)

-- a file of another length than its geometry wants
pub refuses-file-length : (file : Option (List ℕ)) (size : ℕ) (header : List ℕ) (geo : Geo) (why : ImageRefused) → option_map length file ≡ Some size → 64 ≤ size
    → header ≡ take 64 (bytes_from file 0) → header ≡ header_bytes geo → length_refusal (image_length geo) size ≡ Some why → HoldsRefused file why
refuses-file-length None size header geo why is room begins header_is refused = absurd (cc is)
refuses-file-length (Some bytes) size header geo why is room begins header_is refused =
    let long : length bytes ≡ size = cc is in
    refuses-length bytes geo (omega arith) (sym begins ∙ header_is) ∙ ap (length_refusal (image_length geo)) long ∙ refused

-- a file with room for a header doesn't end before it
pub stops-geo-from_piece : (tells : Type 0) (file : Option (List ℕ)) (size before now : ℕ) (why : ImageStop) → 64 ≤ size
    → StopsPiece tells (bytes_from file 0) 64 before now why → StopsGeo tells file size before now why
stops-geo-from_piece tells file size before now stop.Missing room stops = stops
stops-geo-from_piece tells None size before now (stop.Refused why) room stops = λ told is. absurd (cc is)
stops-geo-from_piece tells (Some bytes) size before now (stop.Refused why) room stops = λ told is.
    let long : length bytes ≡ size = cc is in
    absurd (omega (arith, stops told))
stops-geo-from_piece tells file size before now stop.Fault room stops = stops
stops-geo-from_piece tells file size before now stop.NoMemory room stops = stops

-- a file of the length that its geometry wants has all its words
never-ends : (file : Option (List ℕ)) (geo : Geo) (size : ℕ) → option_map length file ≡ Some size → size ≡ image_length geo
    → length (bytes_from file 64) < 8 * words_in_map geo → ⊥
never-ends None geo size is whole short = cc is
never-ends (Some bytes) geo size is whole short =
    let long : length bytes ≡ size = cc is in
    omega (arith, length-drop 64 bytes)

-- what stopped the header stops the reading
pub stops-read-from_geo : (tells told : Type 0) (file later : Option (List ℕ)) (size before mid now : ℕ) (why : ImageStop)
    → (tells → told) → (tells → later ≡ file) → (tells → option_map length file ≡ Some size) → before ≤ mid → StopsGeo told later size mid now why
    → StopsRead tells file before now why
stops-read-from_geo tells told file later size before mid now stop.Missing still same long rises stops = absurd stops
stops-read-from_geo tells told file later size before mid now (stop.Refused why) still same long rises stops = λ tells_now.
    subst (λ (f : Option (List ℕ)). HoldsRefused f why) (same tells_now)
    (stops (still tells_now) (ap (option_map (length {A = ℕ})) (same tells_now) ∙ long tells_now))
stops-read-from_geo tells told file later size before mid now stop.Fault still same long rises stops = omega arith
stops-read-from_geo tells told file later size before mid now stop.NoMemory still same long rises stops = tt

-- a file of the length that its geometry wants doesn't end within its words
pub stops-read-from_words : (tells told : Type 0) (file later : Option (List ℕ)) (geo : Geo) (size before mid now : ℕ) (why : ImageStop)
    → (tells → told) → (tells → later ≡ file) → (tells → option_map length file ≡ Some size) → size ≡ image_length geo → before ≤ mid
    → StopsPiece told (bytes_from later 64) (8 * words_in_map geo) mid now why → StopsRead tells file before now why
stops-read-from_words tells told file later geo size before mid now stop.Missing still same long whole rises stops = absurd stops
stops-read-from_words tells told file later geo size before mid now (stop.Refused why) still same long whole rises stops = λ tells_now.
    let there : option_map (length {A = ℕ}) later ≡ Some size = ap (option_map (length {A = ℕ})) (same tells_now) ∙ long tells_now in
    absurd (never-ends later geo size there whole (stops (still tells_now)))
stops-read-from_words tells told file later geo size before mid now stop.Fault still same long whole rises stops = omega arith
stops-read-from_words tells told file later geo size before mid now stop.NoMemory still same long whole rises stops = tt

-- where the image of a map is there, nothing but a fault or want of memory stops the reading
pub each-from_stops : (tells : Type 0) (file : Option (List ℕ)) (before now : ℕ) (why : ImageStop) (map : MapWords) → StopsRead tells file before now why
    → IsMap map → tells → file ≡ Some (image_bytes map) → IsFaultOrNoMemory why
each-from_stops tells file before now stop.Missing map stops is told there =
    let none : None ≡ Some (image_bytes map) = sym (stops told) ∙ there in
    absurd (cc none)
each-from_stops tells file before now (stop.Refused why) map stops is told there =
    never-refused (image_bytes map) why map (subst (λ (f : Option (List ℕ)). HoldsRefused f why) there (stops told)) is refl
each-from_stops tells file before now stop.Fault map stops is told there = tt
each-from_stops tells file before now stop.NoMemory map stops is told there = tt

-- a header and the words behind it are the image that is there
pub holds-image : (file : Option (List ℕ)) (geo : Geo) (size : ℕ) (words : List ℕ) → option_map length file ≡ Some size → size ≡ image_length geo
    → BeginsImage file geo → word_bytes words ≡ take (8 * words_in_map geo) (bytes_from file 64) → HoldsImage file (record { geo = geo; words = words })
holds-image None geo size words is whole begins same = absurd (cc is)
holds-image (Some bytes) geo size words is whole begins same =
    let long : length bytes ≡ image_length geo = cc (is, whole) in
    let rest : word_bytes words ≡ drop 64 bytes = same ∙ take_all (8 * words_in_map geo) (drop 64 bytes) (omega (arith, length-drop 64 bytes)) in
    (refuses-length bytes geo (omega arith) begins ∙ accepts-length _ _ long, image-whole bytes geo words begins rest)

-- an image that is there is one map's
pub one-held : (file : Option (List ℕ)) (found map : MapWords) → HoldsImage file found → IsMap found → IsMap map → file ≡ Some (image_bytes map) → found ≡ map
one-held None found map holds fits is there = absurd holds
one-held (Some bytes) found map holds fits is there =
    let same : bytes ≡ image_bytes map = cc there in
    one-image found map fits is (sym holds.1 ∙ same)
