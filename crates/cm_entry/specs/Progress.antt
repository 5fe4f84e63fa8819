-- How far a loop over the words of a span has come over a memory (own).
use Rattle.std.specs.Prelude.{ℕ, ◌≡◌, ◌+◌, ◌-◌, ◌*◌, ◌<◌, List, take, fold, min}
use Rattle.cm_geo.specs.Hash.{hash_byte}
use Rattle.cm_plain.specs.Slots.{word_at}
use Rattle.cm_words.specs.Memory.{FitsNotes, MemSeen}
use Rattle.cm_entry.specs.declared.span.Span.{Span}
use Rattle.cm_entry.specs.Spans.{bytes_from}

-- the hash went on over the bytes of so many words, the last of which is this one
pub record IsHashSoFar (words : List ℕ) (span : Span) (start state last count : ℕ) : Type 0 where
  pub state_is : state ≡ fold hash_byte start (bytes_from words span.at span.len count)
  pub last_is : 0 < count → last ≡ word_at words (span.at + count - 1)

abbrev pub AreHashesSoFar : MemSeen → Span → ℕ → ℕ → ℕ → ℕ → Type 0
AreHashesSoFar m span start state last count = (words : List ℕ) → FitsNotes m words → IsHashSoFar words span start state last count

-- the bytes of so many words are those of a list
abbrev pub EqualSoFar : MemSeen → Span → List ℕ → ℕ → Type 0
EqualSoFar m span bytes count = (words : List ℕ) → FitsNotes m words → bytes_from words span.at span.len count ≡ take (8 * count) bytes

-- the bytes of so many words are the first ones of a list
abbrev pub IsCopySoFar : MemSeen → Span → List ℕ → ℕ → Type 0
IsCopySoFar m span out count = (words : List ℕ) → FitsNotes m words → take (min (8 * count) span.len) out ≡ bytes_from words span.at span.len count
