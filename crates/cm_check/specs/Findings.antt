-- Answers that name the first of a list (own).
use Rattle.std.specs.Prelude.{◌≡◌, List, [], ◌∷◌, Option, Some, None, Result, Ok, Err}

-- the first of a list, if it has any
abbrev pub first_of : {X : Type 0} → List X → Option X
first_of [] = None
first_of (x ∷ xs) = Some x

-- a list begins with this
abbrev pub Begins : {X : Type 0} → List X → X → Type 0
Begins {X} xs x = (rest : List X) × (xs ≡ x ∷ rest)

-- the answer is Ok where the list is empty, and else names its first
abbrev pub NamesFirst : {X T : Type 0} → List X → Result T X → Type 0
NamesFirst xs (Ok done) = xs ≡ []
NamesFirst xs (Err x) = Begins xs x
