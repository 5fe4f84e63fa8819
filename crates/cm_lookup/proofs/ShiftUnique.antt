-- A slot has one shift.
use Rattle.cm_words.specs.Stores.{WordStore, store_at}
use Rattle.std.proofs.Common.{◌≡◌, ◌≢◌, ℕ, ◌+◌, ◌<◌, List, [], ◌∷◌, ◌++◌, refl, sym, ◌∙◌, subst, arith, inl, inr}
use Rattle.std.proofs.lemmas.Bool.{cases_lt, cases_order}
use Rattle.cm_lookup.specs.Rings.{Ring, ring_slot, word_behind}
use Rattle.cm_lookup.specs.Shifts.{IsShift, Shift, Stays}
use Rattle.cm_lookup.specs.Shifts.Shift.{begins, stays, moves}

-- a shift that looked at a slot came from the shift before it did
pub record CameFrom (ring : Ring) (slots : List ℕ) (slot hole steps : ℕ) (made : List WordStore) : Type 0 where
  pub earlier_hole : ℕ
  pub earlier : List WordStore
  pub shift : Shift ring slots slot earlier_hole steps earlier
  pub occupied : word_behind ring slots slot steps ≢ 0
  pub stayed : Stays ring slot earlier_hole steps (word_behind ring slots slot steps) → (hole ≡ earlier_hole) × (made ≡ earlier)
  pub went : (Stays ring slot earlier_hole steps (word_behind ring slots slot steps) → ⊥) → (hole ≡ steps) × (made ≡ earlier ++ store_at (ring_slot ring slot earlier_hole) (word_behind ring slots slot steps) ∷ [])

-- every shift has begun
begun : (ring : Ring) (slots : List ℕ) (slot hole steps : ℕ) (made : List WordStore) → Shift ring slots slot hole steps made → 0 < steps
begun ring slots slot hole steps made begins = omega arith
begun ring slots slot hole steps made (stays h s m shift below occupied stay) = omega arith
begun ring slots slot hole steps made (moves h s m shift below occupied fuse) = omega arith

came_from : (ring : Ring) (slots : List ℕ) (slot hole later steps : ℕ) (made : List WordStore) → Shift ring slots slot hole later made → later ≡ steps + 1 → 0 < steps → CameFrom ring slots slot hole steps made
came_from ring slots slot hole later steps made begins e occupied = absurd (omega arith)
came_from ring slots slot hole later steps made (stays h s m shift below full stay) e occupied =
    let same : s ≡ steps = omega arith in
    subst (λ (k : ℕ). CameFrom ring slots slot h k m) same
    (record { earlier_hole = h; earlier = m; shift = shift; occupied = full; stayed = λ _. (refl, refl); went = λ fuse. absurd (fuse stay) })
came_from ring slots slot hole later steps made (moves h s m shift below full fuse) e occupied =
    let same : s ≡ steps = omega arith in
    subst (λ (k : ℕ). CameFrom ring slots slot s k (m ++ store_at (ring_slot ring slot h) (word_behind ring slots slot s) ∷ [])) same
    (record { earlier_hole = h; earlier = m; shift = shift; occupied = full; stayed = λ stay. absurd (fuse stay); went = λ _. (refl, refl) })

-- no slot that was looked at was empty
passed : (ring : Ring) (slots : List ℕ) (slot hole steps : ℕ) (made : List WordStore) → Shift ring slots slot hole steps made → (other : ℕ) → 0 < other → other < steps → word_behind ring slots slot other ≢ 0
passed ring slots slot hole steps made begins other occupied below = absurd (omega arith)
passed ring slots slot hole steps made (stays h s m shift inside full stay) other occupied below = elim (cases_lt other s) [
  | inl less ↦ passed ring slots slot h s m shift other occupied less
  | inr more ↦ (let same : s ≡ other = omega arith in subst (λ (k : ℕ). word_behind ring slots slot k ≢ 0) same full)
]
passed ring slots slot hole steps made (moves h s m shift inside full fuse) other occupied below = elim (cases_lt other s) [
  | inl less ↦ passed ring slots slot h s m shift other occupied less
  | inr more ↦ (let same : s ≡ other = omega arith in subst (λ (k : ℕ). word_behind ring slots slot k ≢ 0) same full)
]

-- at its beginning
at_first : (ring : Ring) (slots : List ℕ) (slot hole steps : ℕ) (made : List WordStore) → Shift ring slots slot hole steps made → steps ≡ 1 → (0 ≡ hole) × ([] ≡ made)
at_first ring slots slot hole steps made begins e = (refl, refl)
at_first ring slots slot hole steps made (stays h s m shift below full stay) e = absurd (omega (arith, begun ring slots slot h s m shift))
at_first ring slots slot hole steps made (moves h s m shift below full fuse) e = absurd (omega (arith, begun ring slots slot h s m shift))

-- two shifts that looked at as many slots are one
same_so_far : (ring : Ring) (slots : List ℕ) (slot hole steps other_hole other_steps : ℕ) (made other : List WordStore) → Shift ring slots slot hole steps made → Shift ring slots slot other_hole other_steps other
    → steps ≡ other_steps → (hole ≡ other_hole) × (made ≡ other)
same_so_far ring slots slot hole steps other_hole other_steps made other begins b e = at_first ring slots slot other_hole other_steps other b (sym e)
same_so_far ring slots slot hole steps other_hole other_steps made other (stays h s m shift below full stay) b e =
    let from = came_from ring slots slot other_hole other_steps s other b (sym e) (begun ring slots slot h s m shift) in
    let same = same_so_far ring slots slot h s from.earlier_hole s m from.earlier shift from.shift refl in
    let ends = from.stayed (subst (λ (k : ℕ). Stays ring slot k s (word_behind ring slots slot s)) same.0 stay) in
    (same.0 ∙ sym ends.0, same.1 ∙ sym ends.1)
same_so_far ring slots slot hole steps other_hole other_steps made other (moves h s m shift below full fuse) b e =
    let from = came_from ring slots slot other_hole other_steps s other b (sym e) (begun ring slots slot h s m shift) in
    let same = same_so_far ring slots slot h s from.earlier_hole s m from.earlier shift from.shift refl in
    let ends = from.went (subst (λ (k : ℕ). Stays ring slot k s (word_behind ring slots slot s) → ⊥) same.0 fuse) in
    (sym ends.0, one_more m from.earlier h from.earlier_hole same.1 same.0 ∙ sym ends.1)
  where
    one_more : (ms ns : List WordStore) (i j : ℕ) → ms ≡ ns → i ≡ j → ms ++ store_at (ring_slot ring slot i) (word_behind ring slots slot s) ∷ [] ≡ ns ++ store_at (ring_slot ring slot j) (word_behind ring slots slot s) ∷ []
    one_more ms ns i j p q = rw (p, q) refl

-- two whole shifts of a slot make the same stores
pub one_shift : (ring : Ring) (slots : List ℕ) (slot : ℕ) (a b : List WordStore) → IsShift ring slots slot a → IsShift ring slots slot b → a ≡ b
one_shift ring slots slot a b one other = elim (cases_order one.steps other.steps) [
  | inl same ↦
      let both = same_so_far ring slots slot one.hole one.steps other.hole other.steps one.made other.made one.shift other.shift same in
      one.stores_are ∙ (last one.made other.made one.hole other.hole both.1 both.0 ∙ sym other.stores_are)
  | inr apart ↦ elim apart [
    | inl less ↦ absurd (passed ring slots slot other.hole other.steps other.made other.shift one.steps (begun ring slots slot one.hole one.steps one.made one.shift) less one.empty)
    | inr more ↦ absurd (passed ring slots slot one.hole one.steps one.made one.shift other.steps (begun ring slots slot other.hole other.steps other.made other.shift) more other.empty)
  ]
]
  where
    last : (ms ns : List WordStore) (i j : ℕ) → ms ≡ ns → i ≡ j → ms ++ store_at (ring_slot ring slot i) 0 ∷ [] ≡ ns ++ store_at (ring_slot ring slot j) 0 ∷ []
    last ms ns i j p q = rw (p, q) refl
