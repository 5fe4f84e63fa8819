-- How bytes are packed into words of 64 bits (own).
use Rattle.std.specs.Prelude.{ℕ, ◌-◌, ◌*◌, ◌<◌, ◌≤◌, List, ◌++◌, length, map, take, drop, replicate, fold}
use Rattle.cm_geo.specs.declared.limits.TheConstants.{MAX_KEY_BYTES, MAX_VALUE_BYTES}
use Rattle.std.specs.List.{range_with_len}
use Rattle.std.specs.Int.{from_le_bytes, w64}
use Rattle.cm_geo.specs.Hash.{hash_byte}
use Rattle.cm_geo.specs.Need.{parts_for}

-- at most 8 bytes, and zeros behind them
abbrev pub padded_word : List ℕ → List ℕ
padded_word bytes = bytes ++ replicate (8 - length bytes) 0

-- the word of at most 8 bytes, the first one lowest
unfoldable pub word_of : List ℕ → ℕ
word_of bytes = from_le_bytes w64 (padded_word bytes)

-- the bytes of one word among those of others
abbrev pub part_of : List ℕ → ℕ → List ℕ
part_of bytes number = take 8 (drop (8 * number) bytes)

-- the words of bytes, 8 bytes a word
unfoldable pub words_of : List ℕ → List ℕ
words_of bytes = map (λ number. word_of (part_of bytes number)) (range_with_len 0 (parts_for 8 (length bytes)))

-- the number of one of the words of at most 4096 bytes
pub record IsWordNumber (bytes : List ℕ) (number : ℕ) : Type 0 where
  pub within_limit : length bytes ≤ MAX_VALUE_BYTES
  pub low : number < parts_for 8 (length bytes)

-- a key and a value that are not too long
pub record AreShort (key value : List ℕ) : Type 0 where
  pub key_short : length key ≤ MAX_KEY_BYTES
  pub value_short : length value ≤ MAX_VALUE_BYTES

-- a hash that goes on over bytes
unfoldable pub hash_on : ℕ → List ℕ → ℕ
hash_on state bytes = fold hash_byte state bytes
