-- Which words stand in a ring of slots while a shift is under way.
use Rattle.std.proofs.Common.{◌≡◌, ◌≢◌, ℕ, ◌<◌, List, [], ◌∷◌, length, get_or, set, sym, subst, ap, ◌∙◌, arith, zero, suc, inl, inr, Contains, length-set, get_or-set_same, get_or-set_other}
use Rattle.std.proofs.lemmas.Bool.{cases_eq}
use Rattle.std.proofs.lemmas.List.Sorted.{Contains-permutation, IsPermutation-sym}
use Rattle.cm_plain.proofs.ListElements.{contains_more}
use Rattle.cm_lookup.specs.Rings.{Ring, ring_slot, word_behind, occupied_words}
use Rattle.cm_lookup.proofs.RingArithmetic.{ring_slot_below, ring_slot_none, ring_slot_apart}
use Rattle.cm_lookup.proofs.OccupiedWords.{taken_empty, taken_more, taken_none}
use Rattle.cm_lookup.proofs.Shifting.{IsTable, Shifting}

-- a slot's word is among the words
pub word_taken : (slots : List ℕ) (i word : ℕ) → i < length slots → get_or slots i 0 ≡ word → word ≢ 0 → Contains (occupied_words slots) word
word_taken [] i word below is nonzero = absurd (omega arith)
word_taken (x ∷ slots) zero word below is nonzero = subst (λ (ws : List ℕ). Contains ws word) (sym (taken_more x slots (subst (λ (w : ℕ). w ≢ 0) (sym is) nonzero))) (0, omega arith, is)
word_taken (x ∷ slots) (suc i) word below is nonzero =
    let later = word_taken slots i word (omega arith) is nonzero in
    elim (cases_eq x 0) [
      | inl empty ↦ subst (λ (ws : List ℕ). Contains ws word) (sym (taken_empty x slots empty)) later
      | inr full ↦ subst (λ (ws : List ℕ). Contains ws word) (sym (taken_more x slots full)) (contains_more word x (occupied_words slots) later)
    ]

-- a word stands in a slot
abbrev pub IsIn : List ℕ → ℕ → Type 0
IsIn slots word = (i : ℕ) × (i < length slots) × (get_or slots i 0 ≡ word)

-- one slot further
in_more : (x word : ℕ) (slots : List ℕ) → IsIn slots word → IsIn (x ∷ slots) word
in_more x word slots found = (suc found.0, omega arith, found.2)

-- and each of the words is a slot's
pub word_of_slot : (slots : List ℕ) (word : ℕ) → Contains (occupied_words slots) word → IsIn slots word
word_of_slot [] word has = absurd (none (subst (λ (ws : List ℕ). Contains ws word) taken_none has))
  where
    none : Contains [] word → ⊥
    none (k, below, is) = omega arith
word_of_slot (x ∷ slots) word has = elim (cases_eq x 0) [
  | inl empty ↦ in_more x word slots (word_of_slot slots word (subst (λ (ws : List ℕ). Contains ws word) (taken_empty x slots empty) has))
  | inr full ↦ first (word_of_slot slots word) (subst (λ (ws : List ℕ). Contains ws word) (taken_more x slots full) has)
]
  where
    first_at : (Contains (occupied_words slots) word → IsIn slots word) → (k : ℕ) → k < length (x ∷ occupied_words slots) → get_or (x ∷ occupied_words slots) k word ≡ word → IsIn (x ∷ slots) word
    first_at later zero below is = (0, omega arith, is)
    first_at later (suc k) below is = in_more x word slots (later (k, omega arith, is))

    first : (Contains (occupied_words slots) word → IsIn slots word) → Contains (x ∷ occupied_words slots) word → IsIn (x ∷ slots) word
    first later has = first_at later has.0 has.1 has.2

-- a word other than the removed one still stands in a slot, and not only in the hole
pub still_there : (ring : Ring) (slots now : List ℕ) (slot hole steps number word : ℕ) → IsTable ring slots slot → Shifting ring slots slot hole steps now
    → number < ring.size → number ≢ slot → get_or slots number 0 ≡ word → word ≢ 0
    → (other : ℕ) × (other < ring.size) × (other ≢ ring_slot ring slot hole) × (get_or now other 0 ≡ word)
still_there ring slots now slot hole steps number word table so_far below apart is nonzero =
    let was : Contains (occupied_words (set slots slot 0)) word = word_taken (set slots slot 0) number word (omega (arith, length-set {A = ℕ}, table.long)) (get_or-set_other slots slot number 0 0 apart ∙ is) nonzero in
    let found : IsIn (set now (ring_slot ring slot hole) 0) word = word_of_slot (set now (ring_slot ring slot hole) 0) word (Contains-permutation (occupied_words (set slots slot 0)) (occupied_words (set now (ring_slot ring slot hole) 0)) word so_far.words was) in
    let inside : ring_slot ring slot hole < length now = omega (arith, so_far.long, ring_slot_below ring slot hole table.ring_is.nonzero) in
    let differs : found.0 ≢ ring_slot ring slot hole =
    λ same. nonzero (sym found.2 ∙ (ap (λ (k : ℕ). get_or (set now (ring_slot ring slot hole) 0) k 0) same ∙ get_or-set_same now (ring_slot ring slot hole) 0 0 inside)) in
    (found.0, omega (arith, found.1, length-set now (ring_slot ring slot hole) 0, so_far.long), differs, sym (get_or-set_other now (ring_slot ring slot hole) found.0 0 0 differs) ∙ found.2)

-- a word that stands in a slot stood in one before
pub stood_before : (ring : Ring) (slots now : List ℕ) (slot hole steps number word : ℕ) → IsTable ring slots slot → Shifting ring slots slot hole steps now
    → number < ring.size → get_or now number 0 ≡ word → word ≢ 0
    → (other : ℕ) × (other < ring.size) × (get_or slots other 0 ≡ word)
stood_before ring slots now slot hole steps number word table so_far below is nonzero = elim (cases_eq number (ring_slot ring slot hole)) [
  | inl same ↦ (ring_slot ring slot hole, ring_slot_below ring slot hole table.ring_is.nonzero, sym so_far.held ∙ (ap (λ (k : ℕ). get_or now k 0) (sym same) ∙ is))
  | inr apart ↦
      let stands : Contains (occupied_words (set now (ring_slot ring slot hole) 0)) word =
      word_taken (set now (ring_slot ring slot hole) 0) number word (omega (arith, length-set now (ring_slot ring slot hole) 0, so_far.long)) (get_or-set_other now (ring_slot ring slot hole) number 0 0 apart ∙ is) nonzero in
      let found : IsIn (set slots slot 0) word = word_of_slot (set slots slot 0) word
      (Contains-permutation (occupied_words (set now (ring_slot ring slot hole) 0)) (occupied_words (set slots slot 0)) word (IsPermutation-sym (occupied_words (set slots slot 0)) (occupied_words (set now (ring_slot ring slot hole) 0)) so_far.words) stands) in
      let inside : slot < length slots = omega (arith, table.inside, table.long) in
      let differs : found.0 ≢ slot = λ same. nonzero (sym found.2 ∙ (ap (λ (k : ℕ). get_or (set slots slot 0) k 0) same ∙ get_or-set_same slots slot 0 0 inside)) in
      (found.0, omega (arith, found.1, length-set slots slot 0, table.long), sym (get_or-set_other slots slot found.0 0 0 differs) ∙ found.2)
]

-- behind the removed slot the hole's word is a copy: it stands in another slot too
pub hole_copied : (ring : Ring) (slots now : List ℕ) (slot hole steps : ℕ) → IsTable ring slots slot → Shifting ring slots slot hole steps now → 0 < hole
    → (other : ℕ) × (other < ring.size) × (other ≢ ring_slot ring slot hole) × (get_or now other 0 ≡ word_behind ring now slot hole)
hole_copied ring slots now slot hole steps table so_far behind =
    let apart : ring_slot ring slot hole ≢ slot =
    λ same. ring_slot_apart ring slot hole 0 table.inside (omega (arith, so_far.hole_before, so_far.within)) table.ring_is.nonzero (omega arith) (same ∙ sym (ring_slot_none ring slot table.inside)) in
    still_there ring slots now slot hole steps (ring_slot ring slot hole) (word_behind ring now slot hole) table so_far (ring_slot_below ring slot hole table.ring_is.nonzero) apart (sym so_far.held)
    (λ empty. so_far.seen hole behind so_far.hole_before (sym so_far.held ∙ empty))
