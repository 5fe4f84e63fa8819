-- Sums over lists of which one element changes, and facts on their elements. An element is given by its place.
use Rattle.std.proofs.Common.{◌≡◌, ◌≢◌, ℕ, zero, suc, ◌+◌, ◌<◌, ◌≤◌, ◌==◌, if◌then◌else◌, List, [], ◌∷◌, ◌++◌, All, Any, length, set, get_or, count_by, sum_by, Contains, refl, sym, ap, ◌∙◌, subst, arith, length-set, length-append, get_or-set_same, get_or-set_other, inl, inr}
use Rattle.std.proofs.lemmas.Bool.{cases_eq}
use Rattle.std.proofs.lemmas.List.Sums.{sum_by-cons, sum_by-set}
use mathlib.Core.Logic.{dite}
use mathlib.Core.Option.{some, some-injective, some-ne-none}
use native.Mathlib.Decide.{ℕ_discrete}
use lib.ListN.{get_elem?}

-- 1 where two numbers are equal
abbrev pub one_if : ℕ → ℕ → ℕ
one_if n m = if n == m then 1 else 0

-- for equal numbers
pub one_if_same : (n m : ℕ) → n ≡ m → one_if n m ≡ 1
one_if_same n m e = grind arith

-- for others
pub one_if_other : (n m : ℕ) → n ≢ m → one_if n m ≡ 0
one_if_other n m ne = grind arith

module _ {X : Type 0} where
  -- what is at a place is inside the list
  pub at_inside : (l : List X) (i : ℕ) (v : X) → get_elem? l i ≡ some v → i < length l
  at_inside [] i v at = absurd (some-ne-none v (sym at))
  at_inside (x ∷ xs) zero v at = omega arith
  at_inside (x ∷ xs) (suc i) v at = let r = at_inside xs i v at in omega arith

  -- and is read there
  pub at_read : (l : List X) (i : ℕ) (v d : X) → get_elem? l i ≡ some v → get_or l i d ≡ v
  at_read [] i v d at = absurd (some-ne-none v (sym at))
  at_read (x ∷ xs) zero v d at = some-injective x v at
  at_read (x ∷ xs) (suc i) v d at = at_read xs i v d at

  -- what is read inside the list is at that place
  pub at_get : (l : List X) (i : ℕ) (d : X) → i < length l → get_elem? l i ≡ some (get_or l i d)
  at_get [] i d less = absurd (omega arith)
  at_get (x ∷ xs) zero d less = refl
  at_get (x ∷ xs) (suc i) d less = at_get xs i d (omega arith)

  -- a fact on each element holds of the one at a place
  pub all_at : (P : X → Type 0) (l : List X) (i : ℕ) (v : X) → get_elem? l i ≡ some v → All P l → P v
  all_at P l i v at all = subst P (at_read l i v v at) (all i v (at_inside l i v at))

  -- and what holds at each place holds of each element
  pub all_from : (P : X → Type 0) (l : List X) → ((i : ℕ) (v : X) → get_elem? l i ≡ some v → P v) → All P l
  all_from P l h i d less = h i (get_or l i d) (at_get l i d less)

  -- where one element changes, each other one may go from one fact to another
  pub all_set : (P Q : X → Type 0) (l : List X) (i : ℕ) (w : X) → ((j : ℕ) (u : X) → j ≢ i → get_elem? l j ≡ some u → P u → Q u) → All P l → Q w → All Q (set l i w)
  all_set P Q l i w others all mine j d less = elim (cases_eq j i) [
    | inl here ↦ subst Q (sym (ap (λ (k : ℕ). get_or (set l i w) k d) here ∙ get_or-set_same l i w d (let e = length-set l i w in omega arith))) mine
    | inr other ↦ (let inside : j < length l = subst (λ (n : ℕ). j < n) (length-set l i w) less in
        subst Q (sym (get_or-set_other l i j w d other)) (others j (get_or l j d) other (at_get l j d inside) (all j d inside)))
  ]

  -- and of each of a list of one
  pub all_one : (P : X → Type 0) (x : X) → P x → All P (x ∷ [])
  all_one P x h zero d less = h
  all_one P x h (suc k) d less = absurd (omega arith)

  -- the sum after one element changed
  pub sum_set : (f : X → ℕ) (l : List X) (i : ℕ) (v w : X) → get_elem? l i ≡ some v → sum_by f (set l i w) + f v ≡ sum_by f l + f w
  sum_set f l i v w at =
      let e = sum_by-set f l i w v (at_inside l i v at) in
      let is : f (get_or l i v) ≡ f v = ap f (at_read l i v v at) in
      omega arith

  -- it stays where the term stays
  pub sum_same : (f : X → ℕ) (l : List X) (i : ℕ) (v w : X) → get_elem? l i ≡ some v → f w ≡ f v → sum_by f (set l i w) ≡ sum_by f l
  sum_same f l i v w at e = let t = sum_set f l i v w at in omega arith

  -- one element's term is a part of the sum
  pub sum_part : (f : X → ℕ) (l : List X) (i : ℕ) (v : X) → get_elem? l i ≡ some v → f v ≤ sum_by f l
  sum_part f [] i v at = absurd (some-ne-none v (sym at))
  sum_part f (x ∷ xs) zero v at = let is : f x ≡ f v = ap f (some-injective x v at) in let c = sum_by-cons f x xs in omega arith
  sum_part f (x ∷ xs) (suc i) v at = let r = sum_part f xs i v at in let c = sum_by-cons f x xs in omega arith

  -- and so are those of two
  pub sum_two : (f : X → ℕ) (l : List X) (i j : ℕ) (v w : X) → i ≢ j → get_elem? l i ≡ some v → get_elem? l j ≡ some w → f v + f w ≤ sum_by f l
  sum_two f [] i j v w n e h = absurd (some-ne-none v (sym e))
  sum_two f (x ∷ xs) zero zero v w n e h = absurd (n refl)
  sum_two f (x ∷ xs) zero (suc j) v w n e h = let is : f x ≡ f v = ap f (some-injective x v e) in let r = sum_part f xs j w h in let c = sum_by-cons f x xs in omega arith
  sum_two f (x ∷ xs) (suc i) zero v w n e h = let is : f x ≡ f w = ap f (some-injective x w h) in let r = sum_part f xs i v e in let c = sum_by-cons f x xs in omega arith
  sum_two f (x ∷ xs) (suc i) (suc j) v w n e h = let r = sum_two f xs i j v w (λ q. n (ap suc q)) e h in let c = sum_by-cons f x xs in omega arith

  -- where one term is at most another for each element, so is the sum
  pub sum_le : (f g : X → ℕ) (l : List X) → ((i : ℕ) (v : X) → get_elem? l i ≡ some v → f v ≤ g v) → sum_by f l ≤ sum_by g l
  sum_le f g [] h = omega arith
  sum_le f g (x ∷ xs) h = let a = h zero x refl in let r = sum_le f g xs (λ i v e. h (suc i) v e) in let c = sum_by-cons f x xs in let d = sum_by-cons g x xs in omega arith

  -- and where the sums are equal, so are the terms
  pub sum_gap : (f g : X → ℕ) (l : List X) (i : ℕ) (v : X) → ((j : ℕ) (u : X) → get_elem? l j ≡ some u → f u ≤ g u) → get_elem? l i ≡ some v → sum_by f l + g v ≤ sum_by g l + f v
  sum_gap f g [] i v h at = absurd (some-ne-none v (sym at))
  sum_gap f g (x ∷ xs) zero v h at =
      let a : f x ≡ f v = ap f (some-injective x v at) in let b : g x ≡ g v = ap g (some-injective x v at) in
      let r = sum_le f g xs (λ i u e. h (suc i) u e) in let c = sum_by-cons f x xs in let d = sum_by-cons g x xs in omega arith
  sum_gap f g (x ∷ xs) (suc i) v h at =
      let a = h zero x refl in let r = sum_gap f g xs i v (λ j u e. h (suc j) u e) at in let c = sum_by-cons f x xs in let d = sum_by-cons g x xs in omega arith

  -- where each element counts nothing, so does the sum
  pub sum_none : (f : X → ℕ) (l : List X) → ((j : ℕ) (u : X) → get_elem? l j ≡ some u → f u ≡ 0) → sum_by f l ≡ 0
  sum_none f [] h = refl
  sum_none f (x ∷ xs) h = let a = h zero x refl in let r = sum_none f xs (λ j u e. h (suc j) u e) in let c = sum_by-cons f x xs in omega arith

  -- where all but one count nothing, the sum is that one's term
  pub sum_alone : (f : X → ℕ) (l : List X) (i : ℕ) (v : X) → get_elem? l i ≡ some v → ((j : ℕ) (u : X) → j ≢ i → get_elem? l j ≡ some u → f u ≡ 0) → sum_by f l ≡ f v
  sum_alone f [] i v at h = absurd (some-ne-none v (sym at))
  sum_alone f (x ∷ xs) zero v at h =
      let is : f x ≡ f v = ap f (some-injective x v at) in
      let r = sum_none f xs (λ j u e. h (suc j) u (λ z. omega arith) e) in
      let c = sum_by-cons f x xs in
      omega arith
  sum_alone f (x ∷ xs) (suc i) v at h =
      let a = h zero x (λ z. omega arith) refl in
      let r = sum_alone f xs i v at (λ j u ne e. h (suc j) u (λ z. ne (omega arith)) e) in
      let c = sum_by-cons f x xs in
      omega arith

  -- an element with a fact stays one where another list element changes, or where it changes and keeps the fact
  pub any_set : (P : X → Type 0) (l : List X) (i : ℕ) (v w : X) → get_elem? l i ≡ some v → (P v → P w) → Any P l → Any P (set l i w)
  any_set P l i v w at more any =
      let k = any.0 in let x = any.1 in let less = any.2 in let is = any.3 in let holds = any.4 in
      elim (cases_eq k i) [
        | inl here ↦ (
            let same : x ≡ v = sym is ∙ (ap (λ (j : ℕ). get_or l j x) here ∙ at_read l i v x at) in
            let inside = at_inside l i v at in
            (i, w, subst (λ (n : ℕ). i < n) (sym (length-set l i w)) inside, get_or-set_same l i w w inside, more (subst P same holds)))
        | inr other ↦ (k, x, subst (λ (n : ℕ). k < n) (sym (length-set l i w)) less, get_or-set_other l i k w x other ∙ is, holds)
      ]

  -- the element that changed has the fact
  pub any_has : (P : X → Type 0) (l : List X) (i : ℕ) (v w : X) → get_elem? l i ≡ some v → P w → Any P (set l i w)
  any_has P l i v w at h =
      let inside = at_inside l i v at in
      (i, w, subst (λ (n : ℕ). i < n) (sym (length-set l i w)) inside, get_or-set_same l i w w inside, h)

  -- and it stays one where one element more comes behind
  pub any_snoc : (P : X → Type 0) (l : List X) (w : X) → Any P l → Any P (l ++ w ∷ [])
  any_snoc P l w any =
      let k = any.0 in let x = any.1 in let less = any.2 in let is = any.3 in
      (k, x, (let e = length-append l (w ∷ []) in omega arith), front l k less ∙ is, any.4)
    where
      front : (xs : List X) (j : ℕ) → j < length xs → get_or (xs ++ w ∷ []) j (any.1) ≡ get_or xs j (any.1)
      front [] j less = absurd (omega arith)
      front (y ∷ ys) zero less = refl
      front (y ∷ ys) (suc j) less = front ys j (omega arith)

  at_same : (l : List X) (k : ℕ) (x : X) → k < length l → get_or l k x ≡ x → get_elem? l k ≡ some x
  at_same l k x less is = at_get l k x less ∙ ap some is

  -- where no other element has the fact, this one has it
  pub any_alone : (P : X → Type 0) (l : List X) (i : ℕ) (v : X) → get_elem? l i ≡ some v → ((j : ℕ) (u : X) → j ≢ i → get_elem? l j ≡ some u → P u → ⊥) → Any P l → P v
  any_alone P l i v at none any =
      let k = any.0 in let x = any.1 in let less = any.2 in let is = any.3 in
      let there = at_same l k x less is in
      elim (cases_eq k i) [
        | inl here ↦ subst P (some-injective x v (sym there ∙ (ap (λ (j : ℕ). get_elem? l j) here ∙ at))) any.4
        | inr other ↦ absurd (none k x other there any.4)
      ]

  -- of a list of one
  pub any_one : (P : X → Type 0) (x : X) → P x → Any P (x ∷ [])
  any_one P x h = (0, x, omega arith, refl, h)

-- how often a number is in a list of numbers with one more in front
pub count_cons : (n m : ℕ) (ns : List ℕ) → count_by (λ (k : ℕ). k == n) (m ∷ ns) ≡ one_if m n + count_by (λ (k : ℕ). k == n) ns
count_cons n m ns = sum_by-cons (λ (k : ℕ). one_if k n) m ns

-- in front of which it stands itself
pub count_here : (n : ℕ) (ns : List ℕ) → count_by (λ (k : ℕ). k == n) (n ∷ ns) ≡ 1 + count_by (λ (k : ℕ). k == n) ns
count_here n ns = let c = count_cons n n ns in let i = one_if_same n n refl in omega arith

-- in front of which another one stands
pub count_there : (n m : ℕ) (ns : List ℕ) → m ≢ n → count_by (λ (k : ℕ). k == n) (m ∷ ns) ≡ count_by (λ (k : ℕ). k == n) ns
count_there n m ns ne = let c = count_cons n m ns in let i = one_if_other m n ne in omega arith

-- a number that is counted is in the list
pub counted_there : (n : ℕ) (ns : List ℕ) → 0 < count_by (λ (k : ℕ). k == n) ns → Contains ns n
counted_there n [] h = absurd (omega arith)
counted_there n (m ∷ ns) h = dite (ℕ_discrete m n)
    (λ e. (0, omega arith, e))
    (λ ne. let c = count_there n m ns ne in let r = counted_there n ns (omega arith) in (suc r.0, (let l = r.1 in omega arith), r.2))

-- a number in the list is counted
pub there_counted : (n : ℕ) (ns : List ℕ) → Contains ns n → 0 < count_by (λ (k : ℕ). k == n) ns
there_counted n [] h = let l = h.1 in absurd (omega arith)
there_counted n (m ∷ ns) h = dite (ℕ_discrete m n)
    (λ e. let c = count_cons n m ns in let i = one_if_same m n e in omega arith)
    (λ ne. let c = count_there n m ns ne in let r = there_counted n ns (back h.0 h.1 h.2 ne) in omega arith)
  where
    back : (k : ℕ) → k < length (m ∷ ns) → get_or (m ∷ ns) k n ≡ n → m ≢ n → Contains ns n
    back zero less is ne = absurd (ne is)
    back (suc k) less is ne = (k, omega arith, is)
