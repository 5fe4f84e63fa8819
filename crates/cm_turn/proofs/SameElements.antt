-- Two lists with the same elements, each once, differ in their order alone.
use Rattle.std.proofs.Common.{◌≡◌, ◌≢◌, ◌∙◌, ◌⊎◌, List, [], ◌∷◌, ◌++◌, IsPermutation, refl, sym, ap, subst, inl, inr}
use Rattle.std.specs.List.{AllByRecursion}
use Rattle.std.proofs.lemmas.List.Sorted.{IsPermutation-refl, IsPermutation-sym, IsPermutation-trans, IsPermutation-cons, IsPermutation-middle}
use Rattle.cm_plain.proofs.Each.{Pairs}
use Rattle.cm_plain.proofs.ListElements.{In, in_either, in_has, in_left, in_right}

-- each element stands once
abbrev pub AreApart : {X : Type 0} → List X → Type 0
AreApart xs = Pairs (λ one other. one ≢ other) xs

-- an element has elements before it and behind it
splits : {X : Type 0} (x : X) (ys : List X) → In x ys → (front : List X) × (back : List X) × (ys ≡ front ++ x ∷ back)
splits x [] i = absurd i
splits {X} x (y ∷ ys) (inl e) = ([], ys, ap (λ (z : X). z ∷ ys) (sym e))
splits {X} x (y ∷ ys) (inr i) = let s = splits x ys i in (y ∷ s.0, s.1, ap (λ (zs : List X). y ∷ zs) s.2)

-- what holds of each holds without it
all_without : {X : Type 0} (P : X → Type 0) (front : List X) (x : X) (back : List X) → AllByRecursion P (front ++ x ∷ back) → AllByRecursion P (front ++ back)
all_without P [] x back h = h.1
all_without P (y ∷ front) x back h = (h.0, all_without P front x back h.1)

apart_without : {X : Type 0} (front : List X) (x : X) (back : List X) → AreApart (front ++ x ∷ back) → AreApart (front ++ back)
apart_without [] x back h = h.1
apart_without {X} (y ∷ front) x back h = (all_without (λ (z : X). y ≢ z) front x back h.0, apart_without front x back h.1)

-- and it is none of the others
is_out : {X : Type 0} (front : List X) (x : X) (back : List X) (z : X) → AreApart (front ++ x ∷ back) → In z (front ++ back) → z ≢ x
is_out {X} [] x back z h i = λ e. in_has (λ (y : X). x ≢ y) back z h.0 i (sym e)
is_out {X} (y ∷ front) x back z h (inl e) = λ f. in_has (λ (w : X). y ≢ w) (front ++ x ∷ back) x h.0 (in_right front (x ∷ back) x (inl refl)) (sym e ∙ f)
is_out (y ∷ front) x back z h (inr i) = is_out front x back z h.1 i

pub same_elements : {X : Type 0} (xs ys : List X) → AreApart xs → AreApart ys → ((x : X) → In x xs → In x ys) → ((y : X) → In y ys → In y xs) → IsPermutation xs ys
same_elements [] [] p q there back = IsPermutation-refl []
same_elements [] (y ∷ ys) p q there back = absurd (back y (inl refl))
same_elements {X} (x ∷ xs) ys p q there back =
    let s = splits x ys (there x (inl refl)) in
    let apart : AreApart (s.0 ++ x ∷ s.1) = subst (λ (zs : List X). AreApart zs) s.2 q in
    rw s.2 (IsPermutation-trans _ _ _ (IsPermutation-cons x xs (s.0 ++ s.1)
    (same_elements xs (s.0 ++ s.1) p.1 (apart_without s.0 x s.1 apart)
    (λ z i. onward s.0 s.1 z i (in_either s.0 (x ∷ s.1) z (subst (λ (zs : List X). In z zs) s.2 (there z (inr i)))))
    (λ z i. backward (back z (subst (λ (zs : List X). In z zs) (sym s.2) (within s.0 s.1 z (in_either s.0 s.1 z i)))) (is_out s.0 x s.1 z apart i))))
    (IsPermutation-sym _ _ (IsPermutation-middle s.0 x s.1)))
  where
    onward : (front back : List X) (z : X) → In z xs → In z front ⊎ In z (x ∷ back) → In z (front ++ back)
    onward front back z i (inl j) = in_left front back z j
    onward front back z i (inr (inl e)) = absurd (in_has (λ (y : X). x ≢ y) xs z p.0 i (sym e))
    onward front back z i (inr (inr j)) = in_right front back z j

    within : (front back : List X) (z : X) → In z front ⊎ In z back → In z (front ++ x ∷ back)
    within front back z (inl j) = in_left front (x ∷ back) z j
    within front back z (inr j) = in_right front (x ∷ back) z (inr j)

    backward : {z : X} → (z ≡ x) ⊎ In z xs → z ≢ x → In z xs
    backward (inl e) other = absurd (other e)
    backward (inr i) other = i
