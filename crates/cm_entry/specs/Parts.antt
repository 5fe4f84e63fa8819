-- What a call that reads a key or a value answers (own).
use Rattle.std.specs.Prelude.{ℕ, ◌≡◌, ◌≤◌, ◌↔◌, Bool, IsTrue, List, Option, Some, None, Result, Ok, Err, length, take, drop}
use Rattle.cm_geo.specs.declared.geo.Geo.{Geo}
use Rattle.cm_plain.specs.declared.reply.Pair.{Pair}
use Rattle.cm_plain.specs.Readings.{entry, reading_at}
use Rattle.cm_words.specs.Memory.{FitsNotes, MemSeen}

-- whether these bytes are the key or the value of each entry that may be read at a chunk
abbrev pub IsPartEqual : MemSeen → Geo → ℕ → ℕ → (Pair → List ℕ) → List ℕ → Bool → Type 0
IsPartEqual m geo place chunk part bytes equals =
    (words : List ℕ) → FitsNotes m words → (pair : Pair) → reading_at geo words place chunk ≡ entry pair → (IsTrue equals ↔ (part pair ≡ bytes))

-- the first bytes of a list, so many, are the key or the value of each entry that may be read at a chunk
pub record IsPartCopy (m : MemSeen) (geo : Geo) (place chunk most : ℕ) (part : Pair → List ℕ) (out : List ℕ) (len : ℕ) : Type 0 where
  pub within_limit : len ≤ most
  pub copied : (words : List ℕ) → FitsNotes m words → (pair : Pair) → reading_at geo words place chunk ≡ entry pair → (len ≡ length (part pair)) × (take len out ≡ part pair)

-- behind the length that is answered a list is as it was, and without an answer behind the greatest one
abbrev pub KeepsRest : {E : Type 0} → ℕ → List ℕ → List ℕ → Result ℕ E → Type 0
KeepsRest most old now (Ok len) = drop len now ≡ drop len old
KeepsRest most old now (Err error) = drop most now ≡ drop most old

-- the same of a call that may find nothing: behind the length of what it found, and else behind this one
abbrev pub KeepsRestIf : {A E : Type 0} → ℕ → ℕ → (A → ℕ) → List ℕ → List ℕ → Result (Option A) E → Type 0
KeepsRestIf most unfound len old now (Ok (Some found)) = drop (len found) now ≡ drop (len found) old
KeepsRestIf most unfound len old now (Ok None) = drop unfound now ≡ drop unfound old
KeepsRestIf most unfound len old now (Err error) = drop most now ≡ drop most old
