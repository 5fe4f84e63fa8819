-- What stands in the words of a segment (own): its entries, and why none stands at a chunk.
use Rattle.std.specs.Prelude.{ℕ, ◌≡◌, ◌+◌, ◌-◌, ◌*◌, ◌/◌, ◌%◌, ◌^◌, ◌==◌, ◌&&◌, not, Bool, List, ◌++◌, length, nat_le, replicate, take, drop, flat_map, if◌then◌else◌}
use Rattle.std.specs.List.{list_all}
use Rattle.std.specs.Int.{to_le_bytes, w64}
use Rattle.cm_geo.specs.declared.geo.Geo.{Geo}
use Rattle.cm_geo.specs.declared.limits.TheConstants.{MAX_KEY_BYTES, MAX_RUN_CHUNKS, MAX_VALUE_BYTES}
use Rattle.cm_geo.specs.Addresses.{chunk_at}
use Rattle.cm_geo.specs.Hash.{hash}
use Rattle.cm_geo.specs.Need.{need, parts_for}
use Rattle.cm_plain.specs.declared.placed.Placed.{Placed}
use Rattle.cm_plain.specs.declared.reply.Pair.{Pair}
use Rattle.cm_plain.specs.Slots.{word_at}

-- the bytes of words, 8 a word, the lowest first
abbrev pub bytes_of : List ℕ → List ℕ
bytes_of words = flat_map (to_le_bytes w64) words

-- bytes with zeros behind them, up to whole words
abbrev pub padded : List ℕ → List ℕ
padded bytes = bytes ++ replicate (8 * parts_for 8 (length bytes) - length bytes) 0

-- the first word of an entry: the length of its key, and 2^32 times that of its value
abbrev pub head_of : List ℕ → List ℕ → ℕ
head_of key value = length key + 2 ^ 32 * length value

abbrev pub key_len : ℕ → ℕ
key_len head = head % 2 ^ 32

abbrev pub value_len : ℕ → ℕ
value_len head = head / 2 ^ 32

-- the bytes behind a chunk's first two words: so many words, from a word on
abbrev pub bytes_at : Geo → List ℕ → ℕ → ℕ → ℕ → ℕ → List ℕ
bytes_at geo words place chunk from count = bytes_of (take count (drop (chunk_at geo place chunk + 2 + from) words))

-- the bytes of the key's words and of the value's, with the lengths that the first word gives
abbrev pub key_bytes : Geo → List ℕ → ℕ → ℕ → ℕ → List ℕ
key_bytes geo words place chunk head = bytes_at geo words place chunk 0 (parts_for 8 (key_len head))

abbrev pub value_bytes : Geo → List ℕ → ℕ → ℕ → ℕ → List ℕ
value_bytes geo words place chunk head =
    bytes_at geo words place chunk (parts_for 8 (key_len head)) (parts_for 8 (value_len head))

-- the lengths may be stored, and the run lies in the tier
abbrev pub lengths_fit : Geo → ℕ → ℕ → Bool
lengths_fit geo chunk head =
    nat_le 1 (key_len head) && (nat_le (key_len head) MAX_KEY_BYTES && (nat_le (value_len head) MAX_VALUE_BYTES
    && (nat_le (need geo (key_len head) (value_len head)) MAX_RUN_CHUNKS && nat_le (chunk + need geo (key_len head) (value_len head)) geo.chunks)))

-- the checksum: the hash of the bytes of the first word, of the key's words and of the value's
abbrev pub checksum : ℕ → List ℕ → List ℕ → ℕ
checksum head key value = hash (to_le_bytes w64 head ++ key ++ value)

-- the checksum of a key's entry with a value
unfoldable pub entry_checksum : List ℕ → List ℕ → ℕ
entry_checksum key value = checksum (head_of key value) (padded key) (padded value)

-- the bytes behind so many are zero
abbrev pub is_padded : ℕ → List ℕ → Bool
is_padded count bytes = list_all (λ byte. byte == 0) (drop count bytes)

-- what is read at a chunk: an entry, or the first thing that is wrong there
pub data Reading : Type 0 where
  wrong_lengths : Reading
  wrong_checksum : Reading
  wrong_padding : Reading
  entry : Pair → Reading

abbrev pub reading_of : Geo → ℕ → ℕ → ℕ → List ℕ → List ℕ → Reading
reading_of geo chunk head stored_checksum key value =
    if not (lengths_fit geo chunk head) then wrong_lengths
    else (if not (checksum head key value == stored_checksum) then wrong_checksum
    else (if not (is_padded (key_len head) key && is_padded (value_len head) value) then wrong_padding
    else entry (record { key = take (key_len head) key; value = take (value_len head) value })))

unfoldable pub reading_at : Geo → List ℕ → ℕ → ℕ → Reading
reading_at geo words place chunk =
    let head = word_at words (chunk_at geo place chunk) in
    reading_of geo chunk head (word_at words (chunk_at geo place chunk + 1)) (key_bytes geo words place chunk head) (value_bytes geo words place chunk head)

-- an entry of this key and this value stands at a chunk
abbrev pub HasEntry : Geo → List ℕ → ℕ → ℕ → List ℕ → List ℕ → Type 0
HasEntry geo words place chunk key value = reading_at geo words place chunk ≡ entry (record { key = key; value = value })

-- an entry stands where it is placed
abbrev pub Stands : Geo → List ℕ → Placed → Type 0
Stands geo words placed = HasEntry geo words placed.place placed.chunk placed.key placed.value

-- the key's words stand at a chunk, whatever the first word gives
abbrev pub HasKeyWords : Geo → List ℕ → ℕ → ℕ → List ℕ → Type 0
HasKeyWords geo words place chunk key = bytes_at geo words place chunk 0 (parts_for 8 (length key)) ≡ padded key
