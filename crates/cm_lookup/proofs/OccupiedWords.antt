-- The words of the slots that aren't empty, in any order, when a word leaves its slot.
use Rattle.std.proofs.Common.{◌≡◌, ◌≢◌, ℕ, ◌<◌, false, ◌==◌, List, [], ◌∷◌, length, get_or, set, refl, sym, subst, ap, ◌∙◌, arith, zero, suc, inl, inr, ne_eqb, IsPermutation, set-set, length-set, get_or-set_same}
use Rattle.std.proofs.lemmas.Bool.{cases_eq}
use Rattle.std.proofs.lemmas.List.{set-get_or}
use Rattle.std.proofs.lemmas.List.Sorted.{IsPermutation-refl, IsPermutation-sym, IsPermutation-trans, IsPermutation-cons, IsPermutation-middle}
use Rattle.cm_lookup.specs.Rings.{occupied_words}

-- no slots have no words
pub taken_none : occupied_words [] ≡ []
unfolding occupied_words
taken_none = refl

-- an empty slot gives nothing
pub taken_empty : (word : ℕ) (slots : List ℕ) → word ≡ 0 → occupied_words (word ∷ slots) ≡ occupied_words slots
unfolding occupied_words
taken_empty word slots e = rw e refl

-- another one gives its word
pub taken_more : (word : ℕ) (slots : List ℕ) → word ≢ 0 → occupied_words (word ∷ slots) ≡ word ∷ occupied_words slots
unfolding occupied_words
taken_more word slots differs = let e : (word == 0) ≡ false = ne_eqb word 0 differs in rw e refl

-- equal lists instead
as_is : (xs ys zs ws : List ℕ) → xs ≡ ys → zs ≡ ws → IsPermutation ys ws → IsPermutation xs zs
as_is xs ys zs ws e f h = rw (e, f) h

-- a slot that is emptied takes just its word away
pub taken_off : (slots : List ℕ) (i word : ℕ) → i < length slots → get_or slots i 0 ≡ word → word ≢ 0 → IsPermutation (occupied_words slots) (word ∷ occupied_words (set slots i 0))
taken_off [] i word below is differs = absurd (omega arith)
taken_off (x ∷ slots) zero word below is differs =
    as_is _ (word ∷ occupied_words slots) _ (word ∷ occupied_words slots) (taken_more x slots (subst (λ (w : ℕ). w ≢ 0) (sym is) differs) ∙ ap (λ (w : ℕ). w ∷ occupied_words slots) is) (ap (λ (ws : List ℕ). word ∷ ws) (taken_empty 0 slots refl)) (IsPermutation-refl (word ∷ occupied_words slots))
taken_off (x ∷ slots) (suc i) word below is differs =
    let later = taken_off slots i word (omega arith) is differs in
    elim (cases_eq x 0) [
      | inl empty ↦ as_is _ (occupied_words slots) _ (word ∷ occupied_words (set slots i 0)) (taken_empty x slots empty) (ap (λ (ws : List ℕ). word ∷ ws) (taken_empty x (set slots i 0) empty)) later
      | inr nonzero ↦ as_is _ (x ∷ occupied_words slots) _ (word ∷ x ∷ occupied_words (set slots i 0)) (taken_more x slots nonzero) (ap (λ (ws : List ℕ). word ∷ ws) (taken_more x (set slots i 0) nonzero))
          (IsPermutation-trans _ _ _ (IsPermutation-cons x _ _ later) (IsPermutation-middle (x ∷ []) word (occupied_words (set slots i 0))))
    ]

-- a word that goes from its slot to an empty one stays among the words
pub taken_moved : (slots : List ℕ) (i j word : ℕ) → i < length slots → j < length slots → i ≢ j → get_or slots i 0 ≡ 0 → get_or slots j 0 ≡ word → word ≢ 0
    → IsPermutation (occupied_words slots) (occupied_words (set (set slots i word) j 0))
taken_moved [] i j word i_below j_below apart hole is differs = absurd (omega arith)
taken_moved (x ∷ slots) zero zero word i_below j_below apart hole is differs = absurd (apart refl)
taken_moved (x ∷ slots) zero (suc j) word i_below j_below apart hole is differs =
    as_is _ (occupied_words slots) _ (word ∷ occupied_words (set slots j 0)) (taken_empty x slots hole) (taken_more word (set slots j 0) differs) (taken_off slots j word (omega arith) is differs)
taken_moved (x ∷ slots) (suc i) zero word i_below j_below apart hole is differs =
    let back : set (set slots i word) i 0 ≡ slots = set-set slots i word 0 ∙ (ap (set slots i) (sym hole) ∙ set-get_or slots i 0) in
    let put : IsPermutation (occupied_words (set slots i word)) (word ∷ occupied_words (set (set slots i word) i 0)) = taken_off (set slots i word) i word (omega (arith, length-set {A = ℕ})) (get_or-set_same slots i word 0 (omega arith)) differs in
    as_is _ (word ∷ occupied_words slots) _ (occupied_words (set slots i word)) (taken_more x slots (subst (λ (w : ℕ). w ≢ 0) (sym is) differs) ∙ ap (λ (w : ℕ). w ∷ occupied_words slots) is) (taken_empty 0 (set slots i word) refl)
    (IsPermutation-sym _ _ (subst (λ (ws : List ℕ). IsPermutation (occupied_words (set slots i word)) (word ∷ occupied_words ws)) back put))
taken_moved (x ∷ slots) (suc i) (suc j) word i_below j_below apart hole is differs =
    let later = taken_moved slots i j word (omega arith) (omega arith) (λ e. apart (ap suc e)) hole is differs in
    elim (cases_eq x 0) [
      | inl empty ↦ as_is _ (occupied_words slots) _ (occupied_words (set (set slots i word) j 0)) (taken_empty x slots empty) (taken_empty x (set (set slots i word) j 0) empty) later
      | inr nonzero ↦ as_is _ (x ∷ occupied_words slots) _ (x ∷ occupied_words (set (set slots i word) j 0)) (taken_more x slots nonzero) (taken_more x (set (set slots i word) j 0) nonzero) (IsPermutation-cons x _ _ later)
    ]
