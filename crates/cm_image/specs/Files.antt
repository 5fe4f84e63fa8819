-- The files that a vault tells (own).
use Rattle.std.specs.Prelude.{◌≡◌, ◌≢◌, ◌≤◌, ◌<◌, [], ℕ, List, Option, Some, None, length, drop, take}

-- the bytes of each name's file, or none where there is no file
abbrev pub Files : Type 0
Files = List ℕ → Option (List ℕ)

-- the same files
abbrev pub SameFiles : Files → Files → Type 0
SameFiles old new = (name : List ℕ) → new name ≡ old name

-- the same files but for this name
abbrev pub SameBut : List ℕ → Files → Files → Type 0
SameBut but old new = (name : List ℕ) → name ≢ but → new name ≡ old name

-- the bytes of a file from a place on; there are none where there is no file
abbrev pub bytes_from : Option (List ℕ) → ℕ → List ℕ
bytes_from None from = []
bytes_from (Some bytes) from = drop from bytes

-- so many bytes of a list stand at the front of the buffer, and some do where there are any and the buffer has room
pub record ReadsPrefix (bytes : List ℕ) (count : ℕ) (buffer : List ℕ) : Type 0 where
  pub prefix : take count buffer ≡ take count bytes
  pub within : count ≤ length bytes
  pub moves : 0 < length bytes → 0 < length buffer → 0 < count
