-- What contracts see of a stream, and what a call does to it (own).
use Rattle.std.specs.Prelude.{◌≡◌, ◌≤◌, ◌⊎◌, ◌+◌, ◌-◌, ◌^◌, ◌++◌, ℕ, List, length, min, Option, Result, OnErr, MatchResult}
use Rattle.std.specs.Io.KnownBytes.{Appends, Consumes, IsAtEnd}

-- the bytes that a source has left or a sink holds, where they are known, and how many of its calls failed
pub record StreamView : Type 0 where
  pub bytes : Option (List ℕ)
  pub faults : ℕ

-- the next count of faults, which stops at the last number of 64 bits
abbrev pub next_count : ℕ → ℕ
next_count faults = min (faults + 1) (2 ^ 64 - 1)

-- a fault was counted
abbrev pub CountsFault : StreamView → StreamView → Type 0
CountsFault old new = next_count old.faults ≤ new.faults

-- the count of faults never falls, and a failure comes only where one was counted
pub record ReportsFault {T E : Type 0} (old new : StreamView) (result : Result T E) : Type 0 where
  pub no_fewer : old.faults ≤ new.faults
  pub counts : OnErr result (CountsFault old new)

-- a failure is counted once, and nothing else is
abbrev pub CountsFailure : {T E : Type 0} → StreamView → StreamView → Result T E → Type 0
CountsFailure old new result = MatchResult result (λ _. new.faults ≡ old.faults) (λ _. new.faults ≡ next_count old.faults)

-- a prefix of the text was appended
abbrev pub AppendsPrefix : StreamView → StreamView → List ℕ → Type 0
AppendsPrefix old new text = (prefix suffix : List ℕ) × (text ≡ prefix ++ suffix) × Appends old.bytes new.bytes prefix

-- the text was appended, or a prefix of it and a fault was counted
abbrev pub AppendsUnlessFault : StreamView → StreamView → List ℕ → Type 0
AppendsUnlessFault old new text = Appends old.bytes new.bytes text ⊎ (CountsFault old new × AppendsPrefix old new text)

-- the bytes were read, and the source ended or `limit` bytes were read
pub record ReadsUpTo (limit : ℕ) (old new : StreamView) (bytes : List ℕ) : Type 0 where
  pub consumes : Consumes old.bytes new.bytes bytes
  pub within : length bytes ≤ limit
  pub ends : (length bytes ≡ limit) ⊎ IsAtEnd new.bytes
