-- Going round the end: steps from a slot to another, and the slot so many steps behind one.
use Rattle.std.proofs.Common.{◌≡◌, ◌≢◌, ℕ, ◌+◌, ◌-◌, ◌%◌, ◌<◌, ◌≤◌, ◌⊎◌, ◌↔◌, inl, inr, arith, sym, ap, ◌∙◌, mod-lt}
use Rattle.std.proofs.lemmas.Bool.{cases_lt}
use Rattle.std.proofs.Math.Nat.{mod-eq_of_lt, mod-eq-sub-mod}
use Rattle.cm_lookup.specs.Rings.{IsRing, Ring, ring_steps, ring_slot}
use Rattle.cm_lookup.specs.Shifts.{Stays}

-- a number below twice the size, without its end
wrapped : (size a : ℕ) → a < size + size → ((a < size) × (a % size ≡ a)) ⊎ ((size ≤ a) × (a % size + size ≡ a))
wrapped size a below = elim (cases_lt a size) [
  | inl less ↦ inl (less, mod-eq_of_lt less)
  | inr more ↦
      let less : a - size < size = omega arith in
      let e : a % size ≡ a - size = mod-eq-sub-mod more ∙ mod-eq_of_lt less in
      inr (more, omega arith)
]

-- the slot so many steps behind one, before the end or behind it
pub ring_slot_is : (ring : Ring) (from steps : ℕ) → from < ring.size → steps < ring.size
    → ((from + steps < ring.size) × (ring_slot ring from steps ≡ from + steps)) ⊎ ((ring.size ≤ from + steps) × (ring_slot ring from steps + ring.size ≡ from + steps))
ring_slot_is ring from steps from_below steps_below = wrapped ring.size (from + steps) (omega arith)

-- the way to a slot that is not before one, or round the end
pub ring_steps_is : (ring : Ring) (from to : ℕ) → from < ring.size → to < ring.size
    → ((from ≤ to) × (ring_steps ring from to + from ≡ to)) ⊎ ((to < from) × (ring_steps ring from to + from ≡ to + ring.size))
ring_steps_is ring from to from_below to_below = elim (wrapped ring.size (to + ring.size - from) (omega arith)) [
  | inl less ↦ inr (omega arith, omega arith)
  | inr more ↦ inl (omega arith, omega arith)
]

-- both are within the ring
pub ring_steps_below : (ring : Ring) (from to : ℕ) → 0 < ring.size → ring_steps ring from to < ring.size
ring_steps_below ring from to nonzero = mod-lt (to + ring.size - from) nonzero

pub ring_slot_below : (ring : Ring) (from steps : ℕ) → 0 < ring.size → ring_slot ring from steps < ring.size
ring_slot_below ring from steps nonzero = mod-lt (from + steps) nonzero

-- no steps lead nowhere
pub ring_slot_none : (ring : Ring) (from : ℕ) → from < ring.size → ring_slot ring from 0 ≡ from
ring_slot_none ring from below = elim (ring_slot_is ring from 0 below (omega arith)) [ inl h ↦ omega arith | inr h ↦ omega arith ]

-- the way to a slot leads to it
pub ring_slot-ring_steps : (ring : Ring) (from to : ℕ) → from < ring.size → to < ring.size → ring_slot ring from (ring_steps ring from to) ≡ to
ring_slot-ring_steps ring from to from_below to_below =
    let below : ring_steps ring from to < ring.size = ring_steps_below ring from to (omega arith) in
    elim (ring_steps_is ring from to from_below to_below) [
      | inl h ↦ elim (ring_slot_is ring from (ring_steps ring from to) from_below below) [ inl k ↦ omega arith | inr k ↦ omega arith ]
      | inr h ↦ elim (ring_slot_is ring from (ring_steps ring from to) from_below below) [ inl k ↦ omega arith | inr k ↦ omega arith ]
    ]

-- and the slot so many steps behind is so many steps away
pub ring_steps-ring_slot : (ring : Ring) (from steps : ℕ) → from < ring.size → steps < ring.size → ring_steps ring from (ring_slot ring from steps) ≡ steps
ring_steps-ring_slot ring from steps from_below steps_below =
    let below : ring_slot ring from steps < ring.size = ring_slot_below ring from steps (omega arith) in
    elim (ring_steps_is ring from (ring_slot ring from steps) from_below below) [
      | inl h ↦ elim (ring_slot_is ring from steps from_below steps_below) [ inl k ↦ omega arith | inr k ↦ omega arith ]
      | inr h ↦ elim (ring_slot_is ring from steps from_below steps_below) [ inl k ↦ omega arith | inr k ↦ omega arith ]
    ]

-- different steps lead to different slots
pub ring_slot_apart : (ring : Ring) (from steps other : ℕ) → from < ring.size → steps < ring.size → other < ring.size → steps ≢ other → ring_slot ring from steps ≢ ring_slot ring from other
ring_slot_apart ring from steps other below steps_below other_below differ same =
    differ (sym (ring_steps-ring_slot ring from steps below steps_below) ∙ ap (ring_steps ring from) same ∙ ring_steps-ring_slot ring from other below other_below)

-- from a slot that is passed, the same steps lead to the same slot
pub ring_slot_together : (ring : Ring) (from other steps passed more : ℕ) → from < ring.size → other < ring.size → steps + more < ring.size → passed + more < ring.size
    → ring_slot ring from steps ≡ ring_slot ring other passed → ring_slot ring from (steps + more) ≡ ring_slot ring other (passed + more)
ring_slot_together ring from other steps passed more from_below other_below steps_below passed_below same =
    let a = ring_slot_is ring from steps from_below (omega arith) in
    let b = ring_slot_is ring other passed other_below (omega arith) in
    let c = ring_slot_is ring from (steps + more) from_below steps_below in
    let d = ring_slot_is ring other (passed + more) other_below passed_below in
    omega arith

-- a word that doesn't stay has its home no nearer than the hole: the way to it leads over the hole
pub ring_steps_over : (ring : Ring) (home slot hole steps : ℕ) → home < ring.size → slot < ring.size → hole < steps → steps < ring.size
    → steps ≤ ring_steps ring home (ring_slot ring slot steps) + hole → ring_steps ring home (ring_slot ring slot hole) + steps ≡ ring_steps ring home (ring_slot ring slot steps) + hole
ring_steps_over ring home slot hole steps home_below slot_below before below far =
    let a = ring_slot_is ring slot hole slot_below (omega arith) in
    let b = ring_slot_is ring slot steps slot_below below in
    let c = ring_steps_is ring home (ring_slot ring slot hole) home_below (ring_slot_below ring slot hole (omega arith)) in
    let d = ring_steps_is ring home (ring_slot ring slot steps) home_below (ring_slot_below ring slot steps (omega arith)) in
    omega arith

-- the way to a slot behind one that it passes
pub ring_steps_passing : (ring : Ring) (home slot hole steps passed : ℕ) → home < ring.size → slot < ring.size → hole < ring.size → steps < ring.size
    → passed < ring_steps ring home (ring_slot ring slot steps) → ring_slot ring home passed ≡ ring_slot ring slot hole
    → ((hole < steps) × (ring_steps ring home (ring_slot ring slot steps) + hole ≡ passed + steps)) ⊎ ((steps < hole) × (ring_steps ring home (ring_slot ring slot steps) + hole ≡ passed + steps + ring.size))
ring_steps_passing ring home slot hole steps passed home_below slot_below hole_below steps_below on_way same =
    let inside : ring_steps ring home (ring_slot ring slot steps) < ring.size = ring_steps_below ring home (ring_slot ring slot steps) (omega arith) in
    let a = ring_slot_is ring slot hole slot_below hole_below in
    let b = ring_slot_is ring slot steps slot_below steps_below in
    let c = ring_slot_is ring home passed home_below (omega arith) in
    let d = ring_steps_is ring home (ring_slot ring slot steps) home_below (ring_slot_below ring slot steps (omega arith)) in
    elim (cases_lt hole steps) [
      | inl before ↦ inl (before, omega arith)
      | inr behind ↦ inr (omega arith, omega arith)
    ]

-- a slot lies after another and not after a third, in the order from the other: just where the way from it to the third is shorter
pub lies_between : (ring : Ring) (from middle to : ℕ) → from < ring.size → middle < ring.size → to < ring.size
    → (ring_steps ring middle to < ring_steps ring from to) ↔ ((0 < ring_steps ring from middle) × (ring_steps ring from middle ≤ ring_steps ring from to))
lies_between ring from middle to from_below middle_below to_below =
    let a = ring_steps_is ring from middle from_below middle_below in
    let b = ring_steps_is ring from to from_below to_below in
    let c = ring_steps_is ring middle to middle_below to_below in
    (λ shorter. (omega arith, omega arith), λ between. omega arith)

-- the way between two slots behind a third
pub ring_steps_ahead : (ring : Ring) (slot hole steps : ℕ) → slot < ring.size → hole ≤ steps → steps < ring.size → ring_steps ring (ring_slot ring slot hole) (ring_slot ring slot steps) + hole ≡ steps
ring_steps_ahead ring slot hole steps slot_below before below =
    let a = ring_slot_is ring slot hole slot_below (omega arith) in
    let b = ring_slot_is ring slot steps slot_below below in
    let c = ring_steps_is ring (ring_slot ring slot hole) (ring_slot ring slot steps) (ring_slot_below ring slot hole (omega arith)) (ring_slot_below ring slot steps (omega arith)) in
    omega arith

-- a word stays just where its home lies after the hole and not after its slot, in the order from the hole
pub stays_lies : (ring : Ring) (slot hole steps word : ℕ) → IsRing ring → slot < ring.size → hole < steps → steps < ring.size
    → Stays ring slot hole steps word ↔ ((0 < ring_steps ring (ring_slot ring slot hole) (ring.home word)) × (ring_steps ring (ring_slot ring slot hole) (ring.home word) ≤ ring_steps ring (ring_slot ring slot hole) (ring_slot ring slot steps)))
stays_lies ring slot hole steps word ring_is slot_below before below =
    let ahead = ring_steps_ahead ring slot hole steps slot_below (omega arith) below in
    let lies = lies_between ring (ring_slot ring slot hole) (ring.home word) (ring_slot ring slot steps) (ring_slot_below ring slot hole ring_is.nonzero) (ring_is.inside word) (ring_slot_below ring slot steps ring_is.nonzero) in
    (λ stay. lies.0 (omega arith), λ between. (let shorter = lies.1 between in omega arith))
