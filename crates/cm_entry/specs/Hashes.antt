-- The hash of what stands in the words of a segment, and the padding of its last word (own).
use Rattle.std.specs.Prelude.{ℕ, ◌≡◌, ◌+◌, ◌-◌, ◌<◌, ◌%◌, ◌==◌, ◌||◌, ◌&&◌, ◌++◌, Bool, List, take, drop, fold}
use Rattle.std.specs.List.{list_all}
use Rattle.std.specs.Int.{to_le_bytes, w64}
use Rattle.cm_geo.specs.Hash.{hash_byte}
use Rattle.cm_geo.specs.Need.{parts_for}
use Rattle.cm_plain.specs.Readings.{bytes_of, is_padded}
use Rattle.cm_plain.specs.Slots.{word_at}
use Rattle.cm_entry.specs.declared.span.Span.{Span}
use Rattle.cm_entry.specs.declared.checksum.SpanHash.{SpanHash}
use Rattle.cm_entry.specs.declared.checksum.WordsHash.{WordsHash}
use Rattle.cm_entry.specs.Spans.{bytes_in}

-- the hash went on from a state over the bytes of a span, and this is the span's last word
pub record IsSpanHash (words : List ℕ) (span : Span) (start : ℕ) (hash : SpanHash) : Type 0 where
  pub state_is : hash.state ≡ fold hash_byte start (bytes_in words span)
  pub last_is : 0 < span.len → hash.last ≡ word_at words (span.at + parts_for 8 span.len - 1)

-- the bytes of the last word, behind so many bytes in all, are zero
abbrev pub is_last_padded : ℕ → ℕ → Bool
is_last_padded len last = (len % 8 == 0) || list_all (λ byte. byte == 0) (drop (len % 8) (to_le_bytes w64 last))

-- the bytes of the words of so many bytes from an address on
abbrev pub whole_bytes : List ℕ → ℕ → ℕ → List ℕ
whole_bytes words at len = bytes_of (take (parts_for 8 len) (drop at words))

-- the hash went on over the whole words of so many bytes, and this tells whether the padding of the last one is zero
pub record IsWordsHash (words : List ℕ) (at len start : ℕ) (hash : WordsHash) : Type 0 where
  pub state_is : hash.state ≡ fold hash_byte start (whole_bytes words at len)
  pub padded_is : hash.padded ≡ is_padded len (whole_bytes words at len)

-- the hash went on over the words of a key and of the value behind it, and this tells whether the padding of each one's last word is zero
pub record IsEntryHash (words : List ℕ) (at key_len value_len start : ℕ) (hash : WordsHash) : Type 0 where
  pub state_is : hash.state ≡ fold hash_byte start (whole_bytes words at key_len ++ whole_bytes words (at + parts_for 8 key_len) value_len)
  pub padded_is : hash.padded ≡ (is_padded key_len (whole_bytes words at key_len) && is_padded value_len (whole_bytes words (at + parts_for 8 key_len) value_len))
