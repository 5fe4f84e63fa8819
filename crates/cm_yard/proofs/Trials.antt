-- What callers in the tests have at their end.
use Rattle.std.proofs.Common.{◌≡◌, ℕ, List, [], ◌∷◌, All, Contains, refl, sym, subst, arith}
use Rattle.std.proofs.lemmas.List.Elements.{All-cons, All-nil}
use Rattle.cm_yard.specs.declared.view.View.{View}
use Rattle.cm_yard.specs.Ends.{AllJoined}
use Rattle.cm_yard.specs.Views.{root_view, with_joined, with_seat}

-- a root that split off two seats and joined both
pub two_joined : (first second v : View) → first.number ≡ 0 → second.number ≡ 1 → v ≡ with_joined (with_joined (with_seat (with_seat root_view 0) 1) second) first → AllJoined v
two_joined first second v one two is =
    let joined : List ℕ = first.number ∷ second.number ∷ [] in
    subst AllJoined (sym is)
    (All-cons (Contains joined) 1 (0 ∷ []) (1, omega arith, two) (All-cons (Contains joined) 0 [] (0, omega arith, one) (All-nil (Contains joined))))

-- a root that made four seats and joined all
pub four_joined : (a b c d : ℕ) (rest : List ℕ) (v : View) → v.made ≡ d ∷ c ∷ b ∷ a ∷ [] → v.joined ≡ a ∷ b ∷ c ∷ d ∷ rest → AllJoined v
four_joined a b c d rest v made joined =
    let P : ℕ → Type 0 = Contains (a ∷ b ∷ c ∷ d ∷ rest) in
    let all : All P (d ∷ c ∷ b ∷ a ∷ []) =
    All-cons P d (c ∷ b ∷ a ∷ []) (3, omega arith, refl) (
    All-cons P c (b ∷ a ∷ []) (2, omega arith, refl) (
    All-cons P b (a ∷ []) (1, omega arith, refl) (
    All-cons P a [] (0, omega arith, refl) (All-nil P)))) in
    subst (λ (ns : List ℕ). All (Contains ns) v.made) (sym joined) (subst (All P) (sym made) all)
