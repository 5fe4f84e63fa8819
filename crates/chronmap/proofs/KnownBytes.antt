-- Known bytes that stayed, before bytes were read or written.
use Rattle.std.proofs.Common.{◌++◌, List, ℕ, Option, Some, None, ap, ◌∙◌, sym}
use Rattle.std.specs.Io.KnownBytes.{Appends, Consumes, Keeps}

-- what is read after they stayed
pub kept-Consumes : (a b c : Option (List ℕ)) (xs : List ℕ) → Keeps a b → Consumes b c xs → Consumes a c xs
kept-Consumes None b c xs p q = tt
kept-Consumes (Some x) None c xs p q = absurd p
kept-Consumes (Some x) (Some y) None xs p q = absurd q
kept-Consumes (Some x) (Some y) (Some z) xs p q = sym p ∙ q

-- what is written after they stayed
pub kept-Appends : (a b c : Option (List ℕ)) (xs : List ℕ) → Keeps a b → Appends b c xs → Appends a c xs
kept-Appends None b c xs p q = tt
kept-Appends (Some x) None c xs p q = absurd p
kept-Appends (Some x) (Some y) None xs p q = absurd q
kept-Appends (Some x) (Some y) (Some z) xs p q = q ∙ ap (λ (t : List ℕ). t ++ xs) p
