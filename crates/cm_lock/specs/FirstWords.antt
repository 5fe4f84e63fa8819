-- Words that contracts alone read (own).
use Rattle.std.specs.Prelude.{ℕ, List, [], ◌∷◌}
use Rattle.cm_lock.specs.declared.first.WordList.{WordList}
use Rattle.cm_lock.specs.declared.first.WordList.TheVariants.{Nothing, One}

-- the words, the first one in front
abbrev pub words_in : WordList → List ℕ
words_in Nothing = []
words_in (One word later) = word ∷ later.value
