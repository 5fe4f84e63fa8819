-- A change number (own).
use Rattle.std.specs.Prelude.{ℕ, ◌≡◌, ◌%◌, ◌<◌, ◌^◌}

-- no change is being stored
abbrev pub IsEven : ℕ → Type 0
IsEven word = word % 2 ≡ 0

-- a change is being stored
abbrev pub IsOdd : ℕ → Type 0
IsOdd word = (word % 2 ≡ 1) × (word < 2 ^ 63)
