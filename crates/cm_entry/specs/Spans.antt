-- The bytes that stand in the words of a segment (own).
use Rattle.std.specs.Prelude.{ℕ, ◌≡◌, ◌≢◌, ◌+◌, ◌<◌, ◌≤◌, ◌^◌, List, Result, IfOk, length, take, drop}
use Rattle.cm_geo.specs.declared.limits.TheConstants.{MAX_KEY_BYTES, MAX_VALUE_BYTES}
use Rattle.cm_geo.specs.declared.geo.Geo.{Geo}
use Rattle.cm_geo.specs.Addresses.{chunk_at, words_in_segment}
use Rattle.cm_geo.specs.Need.{parts_for}
use Rattle.cm_plain.specs.declared.reply.Pair.{Pair}
use Rattle.cm_plain.specs.Readings.{bytes_of, entry, key_len, reading_at, value_len}
use Rattle.cm_plain.specs.Slots.{word_at}
use Rattle.cm_words.specs.declared.access.Access.TheVariants.{Closed}
use Rattle.cm_words.specs.Memory.{FitsNotes, MemSeen}
use Rattle.cm_words.specs.Calls.{LoadsOnce}
use Rattle.cm_entry.specs.declared.span.Span.{Span}

-- the bytes of so many words from an address on, up to a length
unfoldable pub bytes_from : List ℕ → ℕ → ℕ → ℕ → List ℕ
bytes_from words at len count = take len (bytes_of (take count (drop at words)))

-- the bytes of a span: those of its words, up to its length
abbrev pub bytes_in : List ℕ → Span → List ℕ
bytes_in words span = bytes_from words span.at span.len (parts_for 8 span.len)

-- the words of a span are words of the segment behind the lock word and the change number
pub record IsInside (geo : Geo) (span : Span) : Type 0 where
  pub inner : 1 < span.at
  pub within_limit : span.len ≤ MAX_VALUE_BYTES
  pub inside : span.at + parts_for 8 span.len ≤ words_in_segment geo

-- the words of a span may be loaded
pub record IsReadableSpan (m : MemSeen) (span : Span) : Type 0 where
  pub not_closed : m.setting.access ≢ Closed
  pub inside : IsInside m.setting.geo span

-- the words of a key and of the value behind it may be loaded
pub record AreReadable (m : MemSeen) (at key_len value_len : ℕ) : Type 0 where
  pub not_closed : m.setting.access ≢ Closed
  pub inner : 1 < at
  pub key_short : key_len ≤ MAX_KEY_BYTES
  pub value_short : value_len ≤ MAX_VALUE_BYTES
  pub inside : at + parts_for 8 key_len + parts_for 8 value_len ≤ words_in_segment m.setting.geo

-- a span that begins here ends far below the limit of addresses
pub record IsSpanStart (at most : ℕ) : Type 0 where
  pub inner : 1 < at
  pub low : at < 2 ^ 31
  pub most_short : most ≤ MAX_VALUE_BYTES

-- the span of so many bytes from an address on, where these are at most so many, and their words are words of the segment
pub record IsSpanAt (geo : Geo) (at len most : ℕ) (span : Span) : Type 0 where
  pub inside : IsInside geo span
  pub within_limit : span.len ≤ most
  pub whole : len ≤ most → at + parts_for 8 len ≤ words_in_segment geo → span ≡ record { at = at; len = len }

-- these bytes stand in a span, and are all of it
pub record IsSpanOf (words : List ℕ) (span : Span) (bytes : List ℕ) : Type 0 where
  pub len_is : span.len ≡ length bytes
  pub bytes_are : bytes_in words span ≡ bytes

-- the key or the value of each entry that may be read at a chunk stands in a span
abbrev pub StandsIn : MemSeen → Geo → ℕ → ℕ → Span → (Pair → List ℕ) → Type 0
StandsIn m geo place chunk span part = (words : List ℕ) → FitsNotes m words → (pair : Pair) → reading_at geo words place chunk ≡ entry pair → IsSpanOf words span (part pair)

-- the span of the key or of the value at a chunk, which has at most so many bytes
pub record IsPartSpan (m : MemSeen) (geo : Geo) (place chunk most : ℕ) (part : Pair → List ℕ) (span : Span) : Type 0 where
  pub readable : IsReadableSpan m span
  pub within_limit : span.len ≤ most
  pub stands : StandsIn m geo place chunk span part

-- one load was made, and on Ok the answer is that span
pub record LoadsSpan {M E : Type 0} (seen : M → MemSeen) (same_rest : M → M → Type 0) (geo : Geo) (place chunk most : ℕ) (part : Pair → List ℕ) (old now : M) (result : Result Span E) : Type 0 where
  pub loads : LoadsOnce seen same_rest old now result
  pub span : IfOk result (IsPartSpan (seen now) geo place chunk most part)

-- the lengths in an entry's first word
pub record AreLengths (head key value : ℕ) : Type 0 where
  pub key_is : key ≡ key_len head
  pub value_is : value ≡ value_len head

-- the lengths in the first word at a chunk, which are those of an entry that is read there
pub record AreLengthsAt (geo : Geo) (words : List ℕ) (place chunk key value : ℕ) : Type 0 where
  pub halves : AreLengths (word_at words (chunk_at geo place chunk)) key value
  pub entry : (pair : Pair) → reading_at geo words place chunk ≡ entry pair → (key ≡ length pair.key) × (value ≡ length pair.value)
