-- What is read where a value is replaced in place, while the first word and the key's words are those of an entry.
use Rattle.std.proofs.Common.{◌≡◌, ℕ, ◌+◌, ◌-◌, ◌*◌, ◌/◌, ◌%◌, ◌^◌, ◌<◌, ◌≤◌, ◌&&◌, true, replicate, List, length, nat_le, take, refl, ap, sym, subst, ◌∙◌, arith, inl, inr}
use Rattle.std.proofs.lemmas.Bool.{cases_Bool}
use Rattle.std.proofs.lemmas.Bool.Decides.{eqb_tells, nat_tests}
use Rattle.std.proofs.lemmas.List.{length-take-le}
use Rattle.std.proofs.Math.Seq.{take-append_seam}
use Rattle.cm_geo.specs.declared.geo.Geo.{Geo}
use Rattle.cm_geo.specs.declared.limits.TheConstants.{MAX_KEY_BYTES, MAX_RUN_CHUNKS, MAX_VALUE_BYTES}
use Rattle.cm_geo.specs.Addresses.{chunk_at, words_in_segment}
use Rattle.cm_geo.specs.Need.{Fits, need, parts_for}
use Rattle.cm_plain.specs.Slots.{word_at}
use Rattle.cm_plain.specs.Readings.{HasKeyWords, bytes_at, checksum, entry, entry_checksum, padded, head_of, is_padded, key_bytes, key_len, lengths_fit, reading_at, reading_of, value_bytes, value_len, wrong_checksum, wrong_padding}
use Rattle.cm_plain.proofs.Padding.{padded_is, whole_words}
use Rattle.cm_plain.proofs.EntryWords.{checksum_same, value_size}

-- the lengths that the first word gives
record HasLengths (head : ℕ) (key value : List ℕ) : Type 0 where
  key_is : key_len head ≡ length key
  value_is : value_len head ≡ length value

has_lengths : (head : ℕ) (key value : List ℕ) → length key ≤ MAX_KEY_BYTES → head ≡ head_of key value → HasLengths head key value
has_lengths head key value short e = record { key_is = low head (length key) (length value) short e; value_is = high head (length key) (length value) short e }
  where
    low : (head key value : ℕ) → key ≤ MAX_KEY_BYTES → head ≡ key + 2 ^ 32 * value → head % 2 ^ 32 ≡ key
    low head key value h e = omega arith

    high : (head key value : ℕ) → key ≤ MAX_KEY_BYTES → head ≡ key + 2 ^ 32 * value → head / 2 ^ 32 ≡ value
    high head key value h e = omega arith

-- such lengths may be stored
fits_there : (geo : Geo) (chunk head : ℕ) (key value : List ℕ) → HasLengths head key value → Fits geo (length key) (length value) → chunk + need geo (length key) (length value) ≤ geo.chunks
    → lengths_fit geo chunk head ≡ true
fits_there geo chunk head key value tells fits inside =
    rw (tells.key_is, tells.value_is) (all_of (length key) (length value) (need geo (length key) (length value)) chunk geo.chunks fits.key_nonempty fits.key_short fits.value_short fits.run_short inside)
  where
    all_of : (key value need chunk chunks : ℕ) → 1 ≤ key → key ≤ MAX_KEY_BYTES → value ≤ MAX_VALUE_BYTES → need ≤ MAX_RUN_CHUNKS → chunk + need ≤ chunks
        → (nat_le 1 key && (nat_le key MAX_KEY_BYTES && (nat_le value MAX_VALUE_BYTES && (nat_le need MAX_RUN_CHUNKS && nat_le (chunk + need) chunks)))) ≡ true
    all_of key value need chunk chunks a b c d e = grind (arith, nat_tests)

-- what is read there: a wrong checksum or padding, or the key and a value as long as the first word says, with the checksum that stands there
pub data ReadsKey (geo : Geo) (words : List ℕ) (place chunk : ℕ) (key value : List ℕ) : Type 0 where
  bad_checksum : reading_at geo words place chunk ≡ wrong_checksum → ReadsKey geo words place chunk key value
  bad_padding : reading_at geo words place chunk ≡ wrong_padding → ReadsKey geo words place chunk key value
  good : (it : List ℕ) → reading_at geo words place chunk ≡ entry (record { key = key; value = it }) → length it ≡ length value
      → entry_checksum key it ≡ word_at words (chunk_at geo place chunk + 1) → ReadsKey geo words place chunk key value

-- the tests of the checksum and of the padding, one after the other
data Tested (geo : Geo) (chunk head stored_checksum : ℕ) (key value : List ℕ) : Type 0 where
  checksum_differs : reading_of geo chunk head stored_checksum key value ≡ wrong_checksum → Tested geo chunk head stored_checksum key value
  padding_differs : reading_of geo chunk head stored_checksum key value ≡ wrong_padding → Tested geo chunk head stored_checksum key value
  passed : checksum head key value ≡ stored_checksum → is_padded (value_len head) value ≡ true
      → reading_of geo chunk head stored_checksum key value ≡ entry (record { key = take (key_len head) key; value = take (value_len head) value }) → Tested geo chunk head stored_checksum key value

tested : (geo : Geo) (chunk head stored_checksum : ℕ) (key value : List ℕ) → lengths_fit geo chunk head ≡ true → Tested geo chunk head stored_checksum key value
tested geo chunk head stored_checksum key value fit = elim (eqb_tells (checksum head key value) stored_checksum) [
  | inr fails ↦ (let f = fails.0 in checksum_differs (rw (fit, f) refl))
  | inl same ↦ (let s = same.0 in elim (cases_Bool (is_padded (key_len head) key)) [
    | inr key_not ↦ padding_differs (rw (fit, s, key_not) refl)
    | inl key_padded ↦ elim (cases_Bool (is_padded (value_len head) value)) [
      | inr value_not ↦ padding_differs (rw (fit, s, key_padded, value_not) refl)
      | inl value_padded ↦ passed same.1 value_padded (rw (fit, s, key_padded, value_padded) refl)
    ]
  ])
]

-- where both pass, there is an entry
good_there : (geo : Geo) (words : List ℕ) (place chunk head : ℕ) (key value key_found value_found : List ℕ) → HasLengths head key value → head ≡ head_of key value
    → key_found ≡ padded key → length value_found ≡ 8 * parts_for 8 (value_len head) → is_padded (value_len head) value_found ≡ true
    → reading_at geo words place chunk ≡ entry (record { key = take (key_len head) key_found; value = take (value_len head) value_found })
    → checksum head key_found value_found ≡ word_at words (chunk_at geo place chunk + 1) → ReadsKey geo words place chunk key value
unfolding entry_checksum
good_there geo words place chunk head key value key_found value_found tells head_is key_words size value_padded reads sum_is =
    let it : List ℕ = take (value_len head) value_found in
    let key_is : take (key_len head) key_found ≡ key = rw (key_words, tells.key_is) (take-append_seam key (replicate (8 * parts_for 8 (length key) - length key) 0)) in
    let long : length it ≡ length value = length-take-le (value_len head) value_found (whole_words (value_len head) (length value_found) size) ∙ tells.value_is in
    let value_words : value_found ≡ padded it = padded_is (value_len head) value_found size value_padded in
    let head_it : head ≡ head_of key it = head_is ∙ ap (λ (n : ℕ). length key + 2 ^ 32 * n) (sym long) in
    let stored_checksum : entry_checksum key it ≡ checksum head key_found value_found = checksum_same (head_of key it) head (padded key) key_found (padded it) value_found (sym head_it) (sym key_words) (sym value_words) in
    good it (subst (λ (k : List ℕ). reading_at geo words place chunk ≡ entry (record { key = k; value = it })) key_is reads) long (stored_checksum ∙ sum_is)

-- what is read where the first word gives the lengths of a key and a value, and the key's words are there
pub reads_key : (geo : Geo) (words : List ℕ) (place chunk : ℕ) (key value : List ℕ) → length words ≡ words_in_segment geo → place < geo.tiers → Fits geo (length key) (length value)
    → chunk + need geo (length key) (length value) ≤ geo.chunks → word_at words (chunk_at geo place chunk) ≡ head_of key value → HasKeyWords geo words place chunk key
    → ReadsKey geo words place chunk key value
unfolding reading_at
reads_key geo words place chunk key value length_is low fits inside head_is has_key =
    let head : ℕ = word_at words (chunk_at geo place chunk) in
    let key_found : List ℕ = key_bytes geo words place chunk head in
    let value_found : List ℕ = value_bytes geo words place chunk head in
    let tells = has_lengths head key value fits.key_short head_is in
    let inside' : chunk + need geo (key_len head) (value_len head) ≤ geo.chunks = rw (tells.key_is, tells.value_is) inside in
    let key_words : key_found ≡ padded key = ap (λ (n : ℕ). bytes_at geo words place chunk 0 (parts_for 8 n)) tells.key_is ∙ has_key in
    elim (tested geo chunk head (word_at words (chunk_at geo place chunk + 1)) key_found value_found (fits_there geo chunk head key value tells fits inside)) [
      | checksum_differs e ↦ bad_checksum e
      | padding_differs e ↦ bad_padding e
      | passed sum_is value_padded e ↦ good_there geo words place chunk head key value key_found value_found tells head_is key_words (value_size geo words place chunk head length_is low inside') value_padded e sum_is
    ]
