-- The words of an entry that stands in a segment.
use Rattle.std.proofs.Common.{◌≡◌, ℕ, ◌+◌, ◌-◌, ◌*◌, ◌/◌, ◌%◌, ◌^◌, ◌<◌, ◌≤◌, ◌&&◌, true, List, length, nat_le, take, drop, refl, ap, sym, ◌∙◌, arith}
use Rattle.std.proofs.lemmas.Bool.Decides.{nat_tests}
use Rattle.std.proofs.lemmas.List.{length-drop, length-take-le}
use Rattle.std.proofs.Math.Nat.{div-add-mod, mod-lt}
use Rattle.cm_geo.specs.declared.geo.Geo.{Geo}
use Rattle.cm_geo.specs.declared.limits.TheConstants.{MAX_KEY_BYTES, MAX_RUN_CHUNKS, MAX_VALUE_BYTES}
use Rattle.cm_geo.specs.Addresses.{chunk_at, words_in_segment}
use Rattle.cm_geo.specs.Need.{Fits, need, parts_for}
use Rattle.cm_geo.proofs.AddressOrder.{run_in_range}
use Rattle.cm_geo.proofs.Ranges.{chunk_words_range}
use Rattle.cm_plain.specs.declared.reply.Pair.{Pair}
use Rattle.cm_plain.specs.Slots.{word_at}
use Rattle.cm_plain.specs.Readings.{HasEntry, HasKeyWords, bytes_at, checksum, entry_checksum, head_of, key_bytes, key_len, padded, reading_at, value_bytes, value_len}
use Rattle.cm_plain.proofs.Padding.{IsRead, bytes_len, is_read, padded_is, whole_words}

-- an entry's words, rounded up to chunks
pub words_within : (words size : ℕ) → 1 ≤ size → words ≤ parts_for size words * size
words_within words size nonzero =
    by_division words size ((words + size - 1) / size) ((words + size - 1) % size) (div-add-mod (words + size - 1) size) (mod-lt (words + size - 1) nonzero)
  where
    by_division : (words size parts rest : ℕ) → size * parts + rest ≡ words + size - 1 → rest < size → words ≤ parts * size
    by_division words size parts rest e below = grind arith

-- so they are words of the segment
pub room_is : (at count parts size range len : ℕ) → count ≤ parts * size → at + parts * size ≤ range → len ≡ range → at + count ≤ len
room_is at count parts size range len h k e = omega arith

-- behind the first two words there are the key's words
pub behind_room : (at pk pv len : ℕ) (rest : List ℕ) → length rest ≡ len - (at + 2 + 0) → at + (2 + pk + pv) ≤ len → pk ≤ length rest
behind_room at pk pv len rest e room = omega arith

-- and behind these the value's
pub behind_key : (at pk pv len : ℕ) (rest : List ℕ) → length rest ≡ len - (at + 2 + pk) → at + (2 + pk + pv) ≤ len → pv ≤ length rest
behind_key at pk pv len rest e room = omega arith

-- a number is its two halves
pub halves : (head key value : ℕ) → key ≡ head % 2 ^ 32 → value ≡ head / 2 ^ 32 → head ≡ key + 2 ^ 32 * value
halves head key value e e' = omega arith

-- the same words have the same checksum
pub checksum_same : (head head' : ℕ) (key key' value value' : List ℕ) → head ≡ head' → key ≡ key' → value ≡ value' → checksum head key value ≡ checksum head' key' value'
checksum_same head head' key key' value value' e f g = rw (e, f, g) refl

-- the words of a run that lies in the tier are words of the segment
room_there : (geo : Geo) (words : List ℕ) (place chunk head : ℕ) → length words ≡ words_in_segment geo → place < geo.tiers → chunk + need geo (key_len head) (value_len head) ≤ geo.chunks
    → chunk_at geo place chunk + (2 + parts_for 8 (key_len head) + parts_for 8 (value_len head)) ≤ length words
room_there geo words place chunk head length_is low inside =
    let chunk_words : 1 ≤ geo.chunk_words = omega (arith, (chunk_words_range geo).0) in
    let range = run_in_range geo place chunk (need geo (key_len head) (value_len head)) low inside in
    let enough = words_within (2 + parts_for 8 (key_len head) + parts_for 8 (value_len head)) geo.chunk_words chunk_words in
    room_is (chunk_at geo place chunk) (2 + parts_for 8 (key_len head) + parts_for 8 (value_len head)) (need geo (key_len head) (value_len head)) geo.chunk_words (words_in_segment geo) (length words) enough range length_is

-- the key's bytes are whole words, as many as the first word tells
pub key_size : (geo : Geo) (words : List ℕ) (place chunk head : ℕ) → length words ≡ words_in_segment geo → place < geo.tiers → chunk + need geo (key_len head) (value_len head) ≤ geo.chunks
    → length (key_bytes geo words place chunk head) ≡ 8 * parts_for 8 (key_len head)
key_size geo words place chunk head length_is low inside =
    let at : ℕ = chunk_at geo place chunk in
    let pk : ℕ = parts_for 8 (key_len head) in
    let pv : ℕ = parts_for 8 (value_len head) in
    let room : at + (2 + pk + pv) ≤ length words = room_there geo words place chunk head length_is low inside in
    bytes_len (take pk (drop (at + 2 + 0) words))
    ∙ ap (λ (n : ℕ). 8 * n) (length-take-le pk (drop (at + 2 + 0) words) (behind_room at pk pv (length words) (drop (at + 2 + 0) words) (length-drop (at + 2 + 0) words) room))

-- and so are the value's
pub value_size : (geo : Geo) (words : List ℕ) (place chunk head : ℕ) → length words ≡ words_in_segment geo → place < geo.tiers → chunk + need geo (key_len head) (value_len head) ≤ geo.chunks
    → length (value_bytes geo words place chunk head) ≡ 8 * parts_for 8 (value_len head)
value_size geo words place chunk head length_is low inside =
    let at : ℕ = chunk_at geo place chunk in
    let pk : ℕ = parts_for 8 (key_len head) in
    let pv : ℕ = parts_for 8 (value_len head) in
    let room : at + (2 + pk + pv) ≤ length words = room_there geo words place chunk head length_is low inside in
    bytes_len (take pv (drop (at + 2 + pk) words))
    ∙ ap (λ (n : ℕ). 8 * n) (length-take-le pv (drop (at + 2 + pk) words) (behind_key at pk pv (length words) (drop (at + 2 + pk) words) (length-drop (at + 2 + pk) words) room))

-- what the words are where an entry of a key and a value stands
pub record HasWords (geo : Geo) (words : List ℕ) (place chunk : ℕ) (key value : List ℕ) : Type 0 where
  pub fits : Fits geo (length key) (length value)
  pub inside : chunk + need geo (length key) (length value) ≤ geo.chunks
  pub head_is : word_at words (chunk_at geo place chunk) ≡ head_of key value
  pub key_words : HasKeyWords geo words place chunk key
  pub value_words : bytes_at geo words place chunk (parts_for 8 (length key)) (parts_for 8 (length value)) ≡ padded value
  pub checksum_is : word_at words (chunk_at geo place chunk + 1) ≡ entry_checksum key value

pub has_words : (geo : Geo) (words : List ℕ) (place chunk : ℕ) (key value : List ℕ) → length words ≡ words_in_segment geo → place < geo.tiers → HasEntry geo words place chunk key value
    → HasWords geo words place chunk key value
unfolding reading_at entry_checksum
has_words geo words place chunk key value length_is low stands =
    let at : ℕ = chunk_at geo place chunk in
    let head : ℕ = word_at words at in
    let pk : ℕ = parts_for 8 (key_len head) in
    let key_read : List ℕ = key_bytes geo words place chunk head in
    let value_read : List ℕ = value_bytes geo words place chunk head in
    let pair : Pair = record { key = key; value = value } in
    let read : IsRead geo chunk head (word_at words (at + 1)) key_read value_read pair = is_read geo chunk head (word_at words (at + 1)) key_read value_read pair stands in
    let fit = lengths_are (key_len head) (value_len head) (need geo (key_len head) (value_len head)) chunk geo.chunks read.fit in
    let key_long = key_size geo words place chunk head length_is low fit.4 in
    let value_long = value_size geo words place chunk head length_is low fit.4 in
    let key_words : key_read ≡ padded key = padded_is (key_len head) key_read key_long read.key_padded ∙ ap padded (sym read.key_is) in
    let value_words : value_read ≡ padded value = padded_is (value_len head) value_read value_long read.value_padded ∙ ap padded (sym read.value_is) in
    let key_length : length key ≡ key_len head = ap (λ (l : List ℕ). length l) read.key_is ∙ length-take-le (key_len head) key_read (whole_words (key_len head) (length key_read) key_long) in
    let value_length : length value ≡ value_len head = ap (λ (l : List ℕ). length l) read.value_is ∙ length-take-le (value_len head) value_read (whole_words (value_len head) (length value_read) value_long) in
    let head_is : head ≡ head_of key value = halves head (length key) (length value) key_length value_length in
    let fits : Fits geo (key_len head) (value_len head) = record { key_nonempty = fit.0; key_short = fit.1; value_short = fit.2; run_short = fit.3 } in
    record {
      fits = rw (key_length, value_length) fits;
      inside = rw (key_length, value_length) fit.4;
      head_is = head_is;
      key_words = ap (λ (n : ℕ). bytes_at geo words place chunk 0 (parts_for 8 n)) key_length ∙ key_words;
      value_words = ap (λ (n : ℕ). bytes_at geo words place chunk (parts_for 8 n) (parts_for 8 (length value))) key_length
          ∙ ap (λ (n : ℕ). bytes_at geo words place chunk pk (parts_for 8 n)) value_length ∙ value_words;
      checksum_is = sym read.sum_is ∙ checksum_same head (head_of key value) key_read (padded key) value_read (padded value) head_is key_words value_words;
    }
  where
    lengths_are : (key value need chunk chunks : ℕ) → (nat_le 1 key && (nat_le key MAX_KEY_BYTES && (nat_le value MAX_VALUE_BYTES && (nat_le need MAX_RUN_CHUNKS && nat_le (chunk + need) chunks)))) ≡ true
        → (1 ≤ key) × (key ≤ MAX_KEY_BYTES) × (value ≤ MAX_VALUE_BYTES) × (need ≤ MAX_RUN_CHUNKS) × (chunk + need ≤ chunks)
    lengths_are key value need chunk chunks e =
        (grind (arith, nat_tests), grind (arith, nat_tests), grind (arith, nat_tests), grind (arith, nat_tests), grind (arith, nat_tests))
