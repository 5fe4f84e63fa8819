-- A shift comes to an end where the ring has an empty slot.
use Rattle.cm_words.specs.Stores.{WordStore, store_at}
use Rattle.std.proofs.Common.{◌≡◌, ◌≢◌, ℕ, ◌+◌, ◌<◌, ◌≤◌, ◌⊎◌, List, [], ◌∷◌, ◌++◌, get_or, refl, sym, subst, ap, ◌∙◌, arith, zero, suc, inl, inr, add-one}
use Rattle.std.proofs.lemmas.Bool.{cases_eq, cases_lt}
use Rattle.cm_lookup.specs.Rings.{Ring, ring_steps, ring_slot, word_behind}
use Rattle.cm_lookup.specs.Shifts.{IsShift, Shift}
use Rattle.cm_lookup.specs.Shifts.Shift.{begins, stays, moves}
use Rattle.cm_lookup.proofs.RingArithmetic.{ring_slot-ring_steps, ring_slot_none, ring_steps_below}
use Rattle.cm_lookup.proofs.Shifting.{IsTable, shifting}

-- as many slots as are not empty behind one: no more than the steps to an empty slot
pub ends_within : (ring : Ring) (slots : List ℕ) (slot steps number : ℕ) → 0 < ring.size → slot < ring.size → get_or slots slot 0 ≢ 0 → number < ring.size → get_or slots number 0 ≡ 0
    → ((other : ℕ) → 0 < other → other < steps → word_behind ring slots slot other ≢ 0) → steps ≤ ring_steps ring slot number
ends_within ring slots slot steps number nonzero inside removed below empty seen =
    let back : ring_slot ring slot (ring_steps ring slot number) ≡ number = ring_slot-ring_steps ring slot number inside below in
    let there : word_behind ring slots slot (ring_steps ring slot number) ≡ 0 = ap (λ (k : ℕ). get_or slots k 0) back ∙ empty in
    let ahead : 0 < ring_steps ring slot number = elim (cases_eq (ring_steps ring slot number) 0) [
      | inl none ↦ absurd (removed (ap (λ (k : ℕ). get_or slots k 0) (sym (ring_slot_none ring slot inside) ∙ ap (ring_slot ring slot) (sym none)) ∙ there))
      | inr more ↦ omega arith
    ] in
    elim (cases_lt (ring_steps ring slot number) steps) [
      | inl less ↦ absurd (seen (ring_steps ring slot number) ahead less there)
      | inr more ↦ more
    ]

-- so there are never as many as there are slots
pub meets : (ring : Ring) (slots : List ℕ) (slot hole steps number : ℕ) (made : List WordStore) → IsTable ring slots slot → get_or slots slot 0 ≢ 0 → number < ring.size → get_or slots number 0 ≡ 0
    → Shift ring slots slot hole steps made → steps < ring.size
meets ring slots slot hole steps number made table removed below empty shift =
    let so_far = shifting ring slots slot hole steps made table shift in
    let within = ends_within ring slots slot steps number table.ring_is.nonzero table.inside removed below empty so_far.seen in
    omega (arith, ring_steps_below ring slot number table.ring_is.nonzero)

-- a shift that has come so far
pub record HasCome (ring : Ring) (slots : List ℕ) (slot steps : ℕ) : Type 0 where
  pub hole : ℕ
  pub made : List WordStore
  pub shift : Shift ring slots slot hole steps made

-- a shift that is whole
pub record HasEnded (ring : Ring) (slots : List ℕ) (slot : ℕ) : Type 0 where
  pub stores : List WordStore
  pub whole : IsShift ring slots slot stores

-- one step more, or the end
goes_on : (ring : Ring) (slots : List ℕ) (slot steps : ℕ) → steps < ring.size → HasCome ring slots slot steps → HasCome ring slots slot (steps + 1) ⊎ HasEnded ring slots slot
goes_on ring slots slot steps below come = elim (cases_eq (word_behind ring slots slot steps) 0) [
  | inl empty ↦ inr (record {
    stores = come.made ++ store_at (ring_slot ring slot come.hole) 0 ∷ [];
    whole = record { hole = come.hole; steps = steps; made = come.made; shift = come.shift; within = below; empty = empty; stores_are = refl };
  })
  | inr nonzero ↦ elim (cases_lt (ring_steps ring (ring.home (word_behind ring slots slot steps)) (ring_slot ring slot steps) + come.hole) steps) [
    | inl near ↦ inl (record { hole = come.hole; made = come.made; shift = stays come.hole steps come.made come.shift below nonzero near })
    | inr far ↦ inl (record {
      hole = steps;
      made = come.made ++ store_at (ring_slot ring slot come.hole) (word_behind ring slots slot steps) ∷ [];
      shift = moves come.hole steps come.made come.shift below nonzero (farther (ring_steps ring (ring.home (word_behind ring slots slot steps)) (ring_slot ring slot steps)) come.hole steps far);
    })
  ]
]
  where
    farther : (long hole steps : ℕ) → steps ≤ long + hole → long + hole < steps → ⊥
    farther long hole steps far near = omega arith

-- so many steps, or the end before
comes_to : (ring : Ring) (slots : List ℕ) (slot steps : ℕ) → steps < ring.size → HasCome ring slots slot (steps + 1) ⊎ HasEnded ring slots slot
comes_to ring slots slot zero below = inl (record { hole = 0; made = []; shift = begins })
comes_to ring slots slot (suc steps) below = elim (comes_to ring slots slot steps (omega arith)) [
  | inl come ↦ subst (λ (n : ℕ). HasCome ring slots slot (n + 1) ⊎ HasEnded ring slots slot) (add-one steps) (goes_on ring slots slot (steps + 1) (omega arith) come)
  | inr ended ↦ inr ended
]

-- the shift from a slot, where some slot is empty
pub shift_ends : (ring : Ring) (slots : List ℕ) (slot number : ℕ) → IsTable ring slots slot → get_or slots slot 0 ≢ 0 → number < ring.size → get_or slots number 0 ≡ 0 → HasEnded ring slots slot
shift_ends ring slots slot number table removed below empty = last ring.size refl
  where
    last : (size : ℕ) → size ≡ ring.size → HasEnded ring slots slot
    last zero e = absurd (omega (arith, table.ring_is.nonzero))
    last (suc size) e = elim (comes_to ring slots slot size (omega arith)) [
      | inl come ↦ absurd (too_far (meets ring slots slot come.hole (size + 1) number come.made table removed below empty come.shift))
      | inr ended ↦ ended
    ]
      where
        too_far : size + 1 < ring.size → ⊥
        too_far h = omega arith
