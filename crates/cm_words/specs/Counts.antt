-- A count that contracts alone read (own).
use Rattle.std.specs.Prelude.{ℕ, ◌+◌}
use Rattle.cm_words.specs.declared.count.Earlier.{Earlier}
use Rattle.cm_words.specs.declared.count.Earlier.TheVariants.{Nothing, One}

-- one more than the earlier count
abbrev pub count_after : Earlier → ℕ
count_after Nothing = 0
count_after (One earlier) = earlier.value + 1
