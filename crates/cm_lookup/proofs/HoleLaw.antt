-- The slot law but for a hole: when a word moves to the hole, and when the hole is emptied.
use Rattle.std.proofs.Common.{◌≡◌, ◌≢◌, ℕ, ◌+◌, ◌-◌, ◌<◌, ◌≤◌, List, length, get_or, set, sym, subst, ap, ◌∙◌, arith, inl, inr, get_or-set_same, get_or-set_other}
use Rattle.std.proofs.lemmas.Bool.{cases_eq, cases_order}
use Rattle.cm_lookup.specs.Rings.{Ring, IsRing, KeepsLaw, ring_steps, ring_slot, word_behind}
use Rattle.cm_lookup.specs.Shifts.{Stays}
use Rattle.cm_lookup.proofs.RingArithmetic.{ring_slot_below, ring_slot-ring_steps, ring_steps-ring_slot, ring_slot_apart, ring_slot_together, ring_steps_below, ring_steps_over, ring_steps_passing}

-- the slot law but for a hole: no slot from a word's home on to the word's slot is empty, the hole apart
pub record KeepsLawBut (ring : Ring) (slots : List ℕ) (hole : ℕ) : Type 0 where
  pub keeps : (number word : ℕ) → number < ring.size → number ≢ hole → get_or slots number 0 ≡ word → word ≢ 0
      → (steps : ℕ) → steps < ring_steps ring (ring.home word) number → ring_slot ring (ring.home word) steps ≢ hole → word_behind ring slots (ring.home word) steps ≢ 0

-- after a word was stored in the hole, no other slot is empty that was not
filled : (slots : List ℕ) (hole word other : ℕ) → hole < length slots → word ≢ 0 → (other ≢ hole → get_or slots other 0 ≢ 0) → get_or (set slots hole word) other 0 ≢ 0
filled slots hole word other below nonzero rest empty = elim (cases_eq other hole) [
  | inl same ↦ nonzero (sym (get_or-set_same slots hole word 0 below) ∙ (ap (λ (k : ℕ). get_or (set slots hole word) k 0) (sym same) ∙ empty))
  | inr differs ↦ rest differs (sym (get_or-set_other slots hole other word 0 differs) ∙ empty)
]

-- the way from a home to the hole that a word moves to is within the way to the slot that it leaves
moved_way : (ring : Ring) (now : List ℕ) (slot hole steps word passed : ℕ) → IsRing ring → slot < ring.size → hole < steps → steps < ring.size
    → word_behind ring now slot steps ≡ word → word ≢ 0 → (Stays ring slot hole steps word → ⊥) → KeepsLawBut ring now (ring_slot ring slot hole)
    → passed < ring_steps ring (ring.home word) (ring_slot ring slot hole) → word_behind ring now (ring.home word) passed ≢ 0
moved_way ring now slot hole steps word passed ring_is inside before below is nonzero fuse law on_way =
    let home_below : ring.home word < ring.size = ring_is.inside word in
    let hole_below : ring_slot ring slot hole < ring.size = ring_slot_below ring slot hole ring_is.nonzero in
    let far : steps ≤ ring_steps ring (ring.home word) (ring_slot ring slot steps) + hole = farther (ring_steps ring (ring.home word) (ring_slot ring slot steps)) hole steps fuse in
    let over = ring_steps_over ring (ring.home word) slot hole steps home_below inside before below far in
    let short : passed < ring.size = omega (arith, ring_steps_below ring (ring.home word) (ring_slot ring slot hole) ring_is.nonzero) in
    let not_hole : ring_slot ring (ring.home word) passed ≢ ring_slot ring slot hole =
    λ same. at_once (ring_steps ring (ring.home word) (ring_slot ring slot hole)) passed on_way (sym (ap (ring_steps ring (ring.home word)) same) ∙ ring_steps-ring_slot ring (ring.home word) passed home_below short) in
    law.keeps (ring_slot ring slot steps) word (ring_slot_below ring slot steps ring_is.nonzero) (ring_slot_apart ring slot steps hole inside below (omega arith) (omega arith)) is nonzero passed (omega arith) not_hole
  where
    farther : (long hole steps : ℕ) → (long + hole < steps → ⊥) → steps ≤ long + hole
    farther long hole steps fuse = omega arith

    at_once : (long passed : ℕ) → passed < long → long ≡ passed → ⊥
    at_once long passed less same = omega arith

-- a word moves to the hole, and its slot is the new hole
pub law_moves : (ring : Ring) (now : List ℕ) (slot hole steps word : ℕ) → IsRing ring → slot < ring.size → length now ≡ ring.size → hole < steps → steps < ring.size
    → word_behind ring now slot steps ≡ word → word ≢ 0 → (Stays ring slot hole steps word → ⊥)
    → KeepsLawBut ring now (ring_slot ring slot hole) → KeepsLawBut ring (set now (ring_slot ring slot hole) word) (ring_slot ring slot steps)
law_moves ring now slot hole steps word ring_is inside long before below is nonzero fuse law =
    let hole_below : ring_slot ring slot hole < length now = omega (arith, long, ring_slot_below ring slot hole ring_is.nonzero) in
    record {
      keeps = λ number other number_below differs other_is other_some passed on_way not_left. elim (cases_eq number (ring_slot ring slot hole)) [
        | inl same ↦
            let word_is : other ≡ word = sym other_is ∙ (ap (λ (k : ℕ). get_or (set now (ring_slot ring slot hole) word) k 0) same ∙ get_or-set_same now (ring_slot ring slot hole) word 0 hole_below) in
            let on_it : passed < ring_steps ring (ring.home word) (ring_slot ring slot hole) = subst (λ (k : ℕ). passed < ring_steps ring (ring.home word) k) same (subst (λ (w : ℕ). passed < ring_steps ring (ring.home w) number) word_is on_way) in
            subst (λ (w : ℕ). word_behind ring (set now (ring_slot ring slot hole) word) (ring.home w) passed ≢ 0) (sym word_is)
            (filled now (ring_slot ring slot hole) word (ring_slot ring (ring.home word) passed) hole_below nonzero (λ _. moved_way ring now slot hole steps word passed ring_is inside before below is nonzero fuse law on_it))
        | inr apart ↦
            let was : get_or now number 0 ≡ other = sym (get_or-set_other now (ring_slot ring slot hole) number word 0 apart) ∙ other_is in
            filled now (ring_slot ring slot hole) word (ring_slot ring (ring.home other) passed) hole_below nonzero (λ not_hole. law.keeps number other number_below apart was other_some passed on_way not_hole)
      ];
    }

-- no way leads over the hole and the first empty slot behind it
over_both : (ring : Ring) (now : List ℕ) (slot hole steps number word passed : ℕ) → IsRing ring → slot < ring.size → hole < steps → steps < ring.size
    → word_behind ring now slot steps ≡ 0 → KeepsLawBut ring now (ring_slot ring slot hole) → number < ring.size → number ≢ ring_slot ring slot hole → get_or now number 0 ≡ word → word ≢ 0
    → ring_slot ring (ring.home word) passed ≡ ring_slot ring slot hole → passed + steps < ring_steps ring (ring.home word) number + hole → ⊥
over_both ring now slot hole steps number word passed ring_is inside before below empty law number_below apart is nonzero same on_way =
    let home_below : ring.home word < ring.size = ring_is.inside word in
    let short : ring_steps ring (ring.home word) number < ring.size = ring_steps_below ring (ring.home word) number ring_is.nonzero in
    let there : ring_slot ring (ring.home word) (passed + (steps - hole)) ≡ ring_slot ring slot (hole + (steps - hole)) =
    ring_slot_together ring (ring.home word) slot passed hole (steps - hole) home_below inside (omega arith) (omega arith) same in
    let ahead : hole + (steps - hole) ≡ steps = omega arith in
    let there_too : ring_slot ring (ring.home word) (passed + (steps - hole)) ≡ ring_slot ring slot steps = there ∙ ap (ring_slot ring slot) ahead in
    let not_hole : ring_slot ring slot steps ≢ ring_slot ring slot hole = ring_slot_apart ring slot steps hole inside below (omega arith) (omega arith) in
    law.keeps number word number_below apart is nonzero (passed + (steps - hole)) (omega arith) (λ e. not_hole (sym there_too ∙ e)) (ap (λ (k : ℕ). get_or now k 0) there_too ∙ empty)

-- no way leads over the hole, once an empty slot was found behind it
none_over : (ring : Ring) (now : List ℕ) (slot hole steps number word passed : ℕ) → IsRing ring → slot < ring.size → hole < steps → steps < ring.size
    → ((other : ℕ) → hole < other → other < steps → Stays ring slot hole other (word_behind ring now slot other))
    → word_behind ring now slot steps ≡ 0 → KeepsLawBut ring now (ring_slot ring slot hole) → number < ring.size → number ≢ ring_slot ring slot hole → get_or now number 0 ≡ word → word ≢ 0
    → ring_slot ring (ring.home word) passed ≡ ring_slot ring slot hole → passed < ring_steps ring (ring.home word) number → ⊥
none_over ring now slot hole steps number word passed ring_is inside before below near empty law number_below apart is nonzero same on_way =
    let home_below : ring.home word < ring.size = ring_is.inside word in
    let place : ℕ = ring_steps ring slot number in
    let place_below : ring_steps ring slot number < ring.size = ring_steps_below ring slot number ring_is.nonzero in
    let back : ring_slot ring slot (ring_steps ring slot number) ≡ number = ring_slot-ring_steps ring slot number inside number_below in
    let passing = ring_steps_passing ring (ring.home word) slot hole (ring_steps ring slot number) passed home_below inside (omega arith) place_below
    (subst (λ (k : ℕ). passed < ring_steps ring (ring.home word) k) (sym back) on_way) same in
    let ring_steps_same : ring_steps ring (ring.home word) (ring_slot ring slot (ring_steps ring slot number)) ≡ ring_steps ring (ring.home word) number = ap (ring_steps ring (ring.home word)) back in
    let blocked = over_both ring now slot hole steps number word passed ring_is inside before below empty law number_below apart is nonzero same in
    elim passing [
      | inl behind ↦ elim (cases_order (ring_steps ring slot number) steps) [
        | inl equal ↦ nonzero (sym is ∙ (ap (λ (k : ℕ). get_or now k 0) (sym back ∙ ap (ring_slot ring slot) equal) ∙ empty))
        | inr other ↦ elim other [
          | inl less ↦
              let word_there : word_behind ring now slot (ring_steps ring slot number) ≡ word = ap (λ (k : ℕ). get_or now k 0) back ∙ is in
              let close : Stays ring slot hole (ring_steps ring slot number) word = subst (λ (w : ℕ). Stays ring slot hole (ring_steps ring slot number) w) word_there (near (ring_steps ring slot number) behind.0 less) in
              nearer (ring_steps ring (ring.home word) (ring_slot ring slot (ring_steps ring slot number))) hole passed (ring_steps ring slot number) close behind.1
          | inr more ↦ blocked (subst (λ (k : ℕ). passed + steps < k + hole) ring_steps_same (omega arith))
        ]
      ]
      | inr round ↦ blocked (subst (λ (k : ℕ). passed + steps < k + hole) ring_steps_same (omega arith))
    ]
  where
    nearer : (long hole passed place : ℕ) → long + hole < place → long + hole ≡ passed + place → ⊥
    nearer long hole passed place less same = omega arith

-- the hole is emptied, and the slot law holds
pub law_ends : (ring : Ring) (now : List ℕ) (slot hole steps : ℕ) → IsRing ring → slot < ring.size → length now ≡ ring.size → hole < steps → steps < ring.size
    → ((other : ℕ) → hole < other → other < steps → Stays ring slot hole other (word_behind ring now slot other))
    → word_behind ring now slot steps ≡ 0 → KeepsLawBut ring now (ring_slot ring slot hole) → KeepsLaw ring (set now (ring_slot ring slot hole) 0)
law_ends ring now slot hole steps ring_is inside long before below near empty law number word number_below is nonzero passed on_way =
    let hole_below : ring_slot ring slot hole < length now = omega (arith, long, ring_slot_below ring slot hole ring_is.nonzero) in
    let apart : number ≢ ring_slot ring slot hole =
    λ same. nonzero (sym is ∙ (ap (λ (k : ℕ). get_or (set now (ring_slot ring slot hole) 0) k 0) same ∙ get_or-set_same now (ring_slot ring slot hole) 0 0 hole_below)) in
    let was : get_or now number 0 ≡ word = sym (get_or-set_other now (ring_slot ring slot hole) number 0 0 apart) ∙ is in
    let not_hole : ring_slot ring (ring.home word) passed ≢ ring_slot ring slot hole =
    λ same. none_over ring now slot hole steps number word passed ring_is inside before below near empty law number_below apart was nonzero same on_way in
    λ gone. law.keeps number word number_below apart was nonzero passed on_way not_hole (sym (get_or-set_other now (ring_slot ring slot hole) (ring_slot ring (ring.home word) passed) 0 0 not_hole) ∙ gone)
