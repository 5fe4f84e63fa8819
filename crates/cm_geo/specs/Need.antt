-- How much room an entry takes (own).
use Rattle.std.specs.Prelude.{ℕ, ◌+◌, ◌-◌, ◌/◌, ◌≤◌}
use Rattle.cm_geo.specs.declared.geo.Geo.{Geo}
use Rattle.cm_geo.specs.declared.limits.TheConstants.{MAX_RUN_CHUNKS, MAX_KEY_BYTES, MAX_VALUE_BYTES}

-- so many parts of this size hold it: the quotient, rounded up
abbrev pub parts_for : ℕ → ℕ → ℕ
parts_for size whole = (whole + size - 1) / size

-- the chunks of an entry: two words, then the words of the key and of the value, 8 bytes a word
abbrev pub need : Geo → ℕ → ℕ → ℕ
need geo key_len value_len = parts_for geo.chunk_words (2 + parts_for 8 key_len + parts_for 8 value_len)

-- a key and a value of these lengths may be stored
pub record Fits (geo : Geo) (key_len value_len : ℕ) : Type 0 where
  pub key_nonempty : 1 ≤ key_len
  pub key_short : key_len ≤ MAX_KEY_BYTES
  pub value_short : value_len ≤ MAX_VALUE_BYTES
  pub run_short : need geo key_len value_len ≤ MAX_RUN_CHUNKS
