-- Keys that begin with a prefix (own).
use Rattle.std.specs.Prelude.{ℕ, ◌≡◌, ◌≢◌, ◌≤◌, Bool, true, false, List, [], ◌∷◌, Result, Ok, Err, length, take, drop, Option, IfSome, MatchOption}
use Rattle.cm_geo.specs.declared.limits.TheConstants.{MAX_KEY_BYTES}
use Rattle.cm_geo.specs.declared.geo.Geo.{Geo}
use Rattle.cm_plain.specs.declared.reply.Pair.{Pair}
use Rattle.cm_plain.specs.Readings.{entry, reading_at}
use Rattle.cm_plain.specs.Steps.{has_prefix}
use Rattle.cm_words.specs.Memory.{FitsNotes, MemSeen}
use Rattle.cm_entry.specs.declared.span.Span.{Span}
use Rattle.cm_entry.specs.Spans.{bytes_from, bytes_in}

-- two lists are the same as far as both go
abbrev pub Agree : List ℕ → List ℕ → Type 0
Agree [] ys = Unit {0}
Agree (x ∷ xs) [] = Unit {0}
Agree (x ∷ xs) (y ∷ ys) = (x ≡ y) × Agree xs ys

-- the bytes of so many words of a span agree with a prefix
abbrev pub AgreeSoFar : MemSeen → Span → List ℕ → ℕ → Type 0
AgreeSoFar m span prefix count = (words : List ℕ) → FitsNotes m words → Agree (bytes_from words span.at span.len count) prefix

-- the bytes of a span begin with a prefix, and are copied; or they don't
abbrev pub IsPrefixCopy : List ℕ → Span → List ℕ → List ℕ → Bool → Type 0
IsPrefixCopy words span prefix out true = (has_prefix prefix (bytes_in words span) ≡ true) × (take span.len out ≡ bytes_in words span)
IsPrefixCopy words span prefix out false = has_prefix prefix (bytes_in words span) ≡ false

-- behind the span a list is as it was, and where the bytes don't begin with the prefix, behind so many
abbrev pub KeepsRestUnless : {E : Type 0} → ℕ → ℕ → List ℕ → List ℕ → Result Bool E → Type 0
KeepsRestUnless most unfound old now (Ok true) = drop most now ≡ drop most old
KeepsRestUnless most unfound old now (Ok false) = drop unfound now ≡ drop unfound old
KeepsRestUnless most unfound old now (Err error) = drop most now ≡ drop most old

-- so many bytes of a list are a key that begins with a prefix
pub record IsPrefixedKey (prefix key out : List ℕ) (len : ℕ) : Type 0 where
  pub prefixed : has_prefix prefix key ≡ true
  pub len_is : len ≡ length key
  pub copied : take len out ≡ key

-- the key of each entry that may be read at a chunk begins with the prefix, and is copied; or it doesn't
pub record IsKeyCopyIf (m : MemSeen) (geo : Geo) (place chunk : ℕ) (prefix out : List ℕ) (found : Option ℕ) : Type 0 where
  pub inside : IfSome found (λ len. (length prefix ≤ len) × (len ≤ MAX_KEY_BYTES))
  pub copied : (words : List ℕ) → FitsNotes m words → (pair : Pair) → reading_at geo words place chunk ≡ entry pair
      → MatchOption found (has_prefix prefix pair.key ≡ false) (IsPrefixedKey prefix pair.key out)

-- the lengths of an entry whose key is this one
pub record AreLengthsOf (pair : Pair) (key : List ℕ) (lengths : ℕ × ℕ) : Type 0 where
  pub key_is : pair.key ≡ key
  pub key_len_is : lengths.0 ≡ length pair.key
  pub value_len_is : lengths.1 ≡ length pair.value

-- each entry that may be read at a chunk has this key, and these are its lengths; or it has another key
abbrev pub AreLengthsIf : MemSeen → Geo → ℕ → ℕ → List ℕ → Option (ℕ × ℕ) → Type 0
AreLengthsIf m geo place chunk key found =
    (words : List ℕ) → FitsNotes m words → (pair : Pair) → reading_at geo words place chunk ≡ entry pair
    → MatchOption found (pair.key ≢ key) (AreLengthsOf pair key)
