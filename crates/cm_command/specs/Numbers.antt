-- The numbers of a geometry, and their text (own).
use Rattle.std.specs.Prelude.{ℕ, ◌≡◌, ◌^◌, ◌<◌, ◌++◌, List, codes, decimal}
use Rattle.cm_command.specs.declared.numbers.Numbers.{Numbers}

-- the numbers where none are given
abbrev pub default_numbers : Numbers
default_numbers = record { segments = 16; tiers = 4; chunks = 1024; chunk_words = 8; extra = 48 }

-- the text of five numbers
abbrev pub numbers_text : Numbers → List ℕ
numbers_text n =
    decimal n.segments ++ codes "," ++ decimal n.tiers ++ codes "," ++ decimal n.chunks ++ codes "," ++ decimal n.chunk_words ++ codes "," ++ decimal n.extra

-- each is below 2 ^ 32
pub record AreInRange (n : Numbers) : Type 0 where
  pub segments : n.segments < 2 ^ 32
  pub tiers : n.tiers < 2 ^ 32
  pub chunks : n.chunks < 2 ^ 32
  pub chunk_words : n.chunk_words < 2 ^ 32
  pub extra : n.extra < 2 ^ 32

-- this is their text
abbrev pub AreNumbersOf : List ℕ → Numbers → Type 0
AreNumbersOf text n = (text ≡ numbers_text n) × AreInRange n
