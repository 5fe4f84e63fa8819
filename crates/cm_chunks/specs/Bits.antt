-- Runs of clear bits in one word of 64 (own).
use Rattle.std.specs.Prelude.{ℕ, ◌+◌, ◌<◌, ◌≤◌, Option, MatchOption, IsBitSet}

-- so many bits of a word from this one on lie in it and are clear
pub record AreClear (word bit bits : ℕ) : Type 0 where
  pub inside : bit + bits ≤ 64
  pub clear : (other : ℕ) → bit ≤ other → other < bit + bits → IsBitSet word other → ⊥

-- the least bit from which so many are clear
pub record IsFirstClear (word bits bit : ℕ) : Type 0 where
  pub run : AreClear word bit bits
  pub least : (other : ℕ) → AreClear word other bits → bit ≤ other

-- it is found exactly where there is one
abbrev pub FindsClear : ℕ → ℕ → Option ℕ → Type 0
FindsClear word bits found = MatchOption found ((bit : ℕ) → AreClear word bit bits → ⊥) (IsFirstClear word bits)
