-- The image of a map as a whole, and what is refused.
use Rattle.std.proofs.Common.{◌≡◌, ◌<◌, ◌≤◌, ◌+◌, ◌*◌, ◌^◌, ◌++◌, ◌∙◌, [], ℕ, false, true, List, length, take, drop, Option, Some, None, length-append, length-drop, length-take, refl, sym, ap, ltb, lt-ltb, arith}
use Rattle.std.specs.Option.{option_or}
use Rattle.std.specs.List.{flat_map}
use Rattle.std.proofs.lemmas.Bool.{le-ltb}
use Rattle.std.proofs.lemmas.List.{append-nil, drop_at, take_all, take_at, take-append-drop}
use Rattle.std.proofs.lemmas.Grind.{flat_map-append}
use Rattle.std.proofs.Math.Nat.{mul-le-mul_right}
use Rattle.std.proofs.Math.Seq.{take-add}
use Rattle.cm_geo.specs.Addresses.{words_in_segment}
use Rattle.cm_geo.proofs.Ranges.{map_limit}
use Rattle.byteorder.specs.Endian.{little_bytes}
use Rattle.std.proofs.lemmas.List.Elements.{recursion_from_All}
use Rattle.cm_geo.specs.declared.geo.Geo.{Geo}
use Rattle.cm_words.specs.Maps.{IsWhole, MapWords, segment_in}
use Rattle.cm_image.specs.declared.refused.ImageRefused.{ImageRefused}
use Rattle.cm_image.specs.declared.refused.ImageRefused.TheVariants.{Short}
use Rattle.cm_image.specs.Images.{IsMap, header_bytes, image_bytes, image_length, word_bytes}
use Rattle.cm_image.specs.Refusals.{header_refusal, length_refusal, length_told, number_at, refusal_of}
use Rattle.cm_image.proofs.Bytes.{length-bytes, one-list}
use Rattle.cm_image.proofs.Headers.{accepts-header, length-header, numbers-header, same_geo, told-header}

-- the header of an image
pub take-image : (map : MapWords) → take 64 (image_bytes map) ≡ header_bytes map.geo
unfolding image_bytes
take-image map = take_at (header_bytes map.geo) (word_bytes map.words) 64 (length-header map.geo)

-- the words of an image
pub drop-image : (map : MapWords) → drop 64 (image_bytes map) ≡ word_bytes map.words
unfolding image_bytes
drop-image map = drop_at (header_bytes map.geo) (word_bytes map.words) 64 (length-header map.geo)

-- how many bytes words have
pub length-words : (words : List ℕ) → length (word_bytes words) ≡ 8 * length words
unfolding word_bytes
length-words words = length-bytes 8 words

-- how many bytes an image has
pub length-image : (map : MapWords) → IsWhole map → length (image_bytes map) ≡ image_length map.geo
unfolding image_bytes
length-image map whole = omega (arith, length-append (header_bytes map.geo) (word_bytes map.words), length-header map.geo, length-words map.words)

-- too few bytes for a header are short
pub refuses-short : (bytes : List ℕ) → length bytes < 64 → refusal_of bytes ≡ Some Short
unfolding refusal_of
refuses-short bytes few =
    let test : ltb (length bytes) 64 ≡ true = lt-ltb _ _ few in
    rw test refl

-- with enough bytes the header is refused first, and then the length
pub refuses-later : (bytes : List ℕ) → 64 ≤ length bytes
    → refusal_of bytes ≡ option_or (header_refusal (take 64 bytes)) (length_refusal (length_told (take 64 bytes)) (length bytes))
unfolding refusal_of
refuses-later bytes enough =
    let test : ltb (length bytes) 64 ≡ false = le-ltb _ _ enough in
    rw test refl

-- a header that is refused
pub refuses-header : (bytes : List ℕ) (why : ImageRefused) → 64 ≤ length bytes → header_refusal (take 64 bytes) ≡ Some why → refusal_of bytes ≡ Some why
refuses-header bytes why enough refused =
    refuses-later bytes enough ∙ ap (λ (r : Option ImageRefused). option_or r (length_refusal (length_told (take 64 bytes)) (length bytes))) refused

-- behind a geometry's header, the length
pub refuses-length : (bytes : List ℕ) (geo : Geo) → 64 ≤ length bytes → take 64 bytes ≡ header_bytes geo
    → refusal_of bytes ≡ length_refusal (image_length geo) (length bytes)
refuses-length bytes geo enough header =
    let told : length_told (take 64 bytes) ≡ image_length geo = ap length_told header ∙ told-header (header_bytes geo) geo (numbers-header geo).1 in
    let passes : header_refusal (take 64 bytes) ≡ None = ap header_refusal header ∙ accepts-header geo in
    refuses-later bytes enough ∙ ap (λ (r : Option ImageRefused). option_or r (length_refusal (length_told (take 64 bytes)) (length bytes))) passes
    ∙ ap (λ (n : ℕ). length_refusal n (length bytes)) told

-- the wanted length is not refused
pub accepts-length : (wanted long : ℕ) → long ≡ wanted → length_refusal wanted long ≡ None
accepts-length wanted long same =
    let below : ltb long wanted ≡ false = le-ltb _ _ (omega arith) in
    let above : ltb wanted long ≡ false = le-ltb _ _ (omega arith) in
    rw (below, above) refl

-- an image is not refused
pub accepts-image : (map : MapWords) → IsWhole map → refusal_of (image_bytes map) ≡ None
accepts-image map whole =
    let long = length-image map whole in
    refuses-length (image_bytes map) map.geo (omega arith) (take-image map) ∙ accepts-length _ _ long

-- a map is its geometry and its words
same_map : (one other : MapWords) → one.geo ≡ other.geo → one.words ≡ other.words → one ≡ other
same_map one other geo words i = record { geo = geo i; words = words i }

-- an image is one map's
pub one-image : (one other : MapWords) → IsMap one → IsMap other → image_bytes one ≡ image_bytes other → one ≡ other
unfolding word_bytes
one-image one other is also same =
    let header : header_bytes one.geo ≡ header_bytes other.geo = sym (take-image one) ∙ ap (take 64) same ∙ take-image other in
    let numbers = (numbers-header one.geo).1 in
    let others = (numbers-header other.geo).1 in
    let geo : one.geo ≡ other.geo = same_geo one.geo other.geo (record {
      segments_is = numbers.segments_is ∙ ap (number_at 12) header ∙ sym others.segments_is;
      tiers_is = numbers.tiers_is ∙ ap (number_at 16) header ∙ sym others.tiers_is;
      chunks_is = numbers.chunks_is ∙ ap (number_at 20) header ∙ sym others.chunks_is;
      chunk_words_is = numbers.chunk_words_is ∙ ap (number_at 24) header ∙ sym others.chunk_words_is;
      extra_is = numbers.extra_is ∙ ap (number_at 28) header ∙ sym others.extra_is;
    }) in
    let bytes : word_bytes one.words ≡ word_bytes other.words = sym (drop-image one) ∙ ap (drop 64) same ∙ drop-image other in
    let words : one.words ≡ other.words =
    one-list 8 one.words other.words (omega arith) (recursion_from_All (λ word. word < 2 ^ 64) one.words is.fit) (recursion_from_All (λ word. word < 2 ^ 64) other.words also.fit) bytes in
    same_map one other geo words

-- bytes with a geometry's header and words behind it are an image
pub image-whole : (bytes : List ℕ) (geo : Geo) (words : List ℕ) → take 64 bytes ≡ header_bytes geo → word_bytes words ≡ drop 64 bytes
    → bytes ≡ image_bytes (record { geo = geo; words = words })
unfolding image_bytes
image-whole bytes geo words header rest =
    sym (take-append-drop 64 bytes) ∙ ap (λ (t : List ℕ). t ++ drop 64 bytes) header ∙ ap (λ (t : List ℕ). header_bytes geo ++ t) (sym rest)

-- a map's image is not refused
pub never-refused : (bytes : List ℕ) (why : ImageRefused) (map : MapWords) → refusal_of bytes ≡ Some why → IsMap map → bytes ≡ image_bytes map → ⊥
never-refused bytes why map refused is image =
    let none : refusal_of bytes ≡ None = ap refusal_of image ∙ accepts-image map is.whole in
    let apart : Some why ≡ None = sym refused ∙ none in
    cc apart

-- no words have no bytes
pub word_bytes-none : (words : List ℕ) → word_bytes (take 0 words) ≡ []
unfolding word_bytes
word_bytes-none words = refl

-- a front of words, and the next ones
pub word_bytes-more : (from count : ℕ) (words : List ℕ) → word_bytes (take from words) ++ word_bytes (take count (drop from words)) ≡ word_bytes (take (from + count) words)
unfolding word_bytes
word_bytes-more from count words =
    sym (flat_map-append (little_bytes 8) (take from words) (take count (drop from words))) ∙ ap (flat_map (little_bytes 8)) (sym (take-add from count words))

-- the words of a segment are the next ones behind those of the segments before
pub word_bytes-segment : (map : MapWords) (segment : ℕ) → word_bytes (take (segment * words_in_segment map.geo) map.words) ++ word_bytes (segment_in map segment)
    ≡ word_bytes (take ((segment + 1) * words_in_segment map.geo) map.words)
word_bytes-segment map segment =
    let next : segment * words_in_segment map.geo + words_in_segment map.geo ≡ (segment + 1) * words_in_segment map.geo = grind arith in
    word_bytes-more (segment * words_in_segment map.geo) (words_in_segment map.geo) map.words ∙ ap (λ (n : ℕ). word_bytes (take n map.words)) next

-- the words of all segments are those of the map
pub image-segments : (map : MapWords) (segment : ℕ) → IsWhole map → map.geo.segments ≤ segment
    → header_bytes map.geo ++ word_bytes (take (segment * words_in_segment map.geo) map.words) ≡ image_bytes map
unfolding image_bytes
image-segments map segment whole all =
    let room : map.geo.segments * words_in_segment map.geo ≤ segment * words_in_segment map.geo = mul-le-mul_right (words_in_segment map.geo) all in
    ap (λ (t : List ℕ). header_bytes map.geo ++ word_bytes t) (take_all _ map.words (omega arith))

-- the header alone, before any words
pub image-none : (geo : Geo) (count : ℕ) (words : List ℕ) → header_bytes geo ≡ header_bytes geo ++ word_bytes (take (0 * count) words)
unfolding word_bytes
image-none geo count words =
    let none : 0 * count ≡ 0 = omega arith in
    sym (ap (λ (n : ℕ). header_bytes geo ++ word_bytes (take n words)) none ∙ append-nil (header_bytes geo))

-- a front of an image and a further segment are no more bytes than a map may have
pub image-room : (map : MapWords) (front : List ℕ) (segment : ℕ) → IsWhole map → front ≡ header_bytes map.geo ++ word_bytes (take (segment * words_in_segment map.geo) map.words)
    → length front + 8 * length (segment_in map segment) < 2 ^ 63
image-room map front segment whole is =
    let before = take (segment * words_in_segment map.geo) map.words in
    let behind = drop (segment * words_in_segment map.geo) map.words in
    let long : length front ≡ 64 + 8 * length before =
    ap (λ (t : List ℕ). length t) is ∙ omega (arith, length-append (header_bytes map.geo) (word_bytes before), length-header map.geo, length-words before) in
    omega (arith, long, length-take (segment * words_in_segment map.geo) map.words, length-drop (segment * words_in_segment map.geo) map.words, length-take (words_in_segment map.geo) behind, map_limit map.geo)

-- the bytes of words, and then of more
pub word_bytes-append : (words more : List ℕ) → word_bytes (words ++ more) ≡ word_bytes words ++ word_bytes more
unfolding word_bytes
word_bytes-append words more = flat_map-append (little_bytes 8) words more

-- words that were appended to none
pub word_bytes-first : (old new bytes : List ℕ) → old ≡ [] → word_bytes new ≡ word_bytes old ++ bytes → word_bytes new ≡ bytes
unfolding word_bytes
word_bytes-first old new bytes none same = same ∙ ap (λ (words : List ℕ). word_bytes words ++ bytes) none
