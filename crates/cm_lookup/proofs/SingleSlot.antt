-- A word that stands in just one slot still does after the slots' words were put in another order.
use Rattle.std.proofs.Common.{◌≡◌, ◌≢◌, ℕ, ◌+◌, ◌<◌, ◌==◌, true, false, cond, List, [], ◌∷◌, length, get_or, set, refl, sym, ap, ◌∙◌, arith, zero, suc, inl, inr, IsPermutation, length-set, get_or-set_same, get_or-set_other, eq-eqb, ne_eqb}
use Rattle.std.specs.List.{sum_by}
use Rattle.std.proofs.lemmas.Bool.{cases_eq}
use Rattle.std.proofs.lemmas.List.Sums.{sum_by-cons}
use Rattle.std.proofs.lemmas.List.Sorted.{sum_by-IsPermutation}
use Rattle.cm_lookup.specs.Rings.{occupied_words}
use Rattle.cm_lookup.proofs.OccupiedWords.{taken_empty, taken_more, taken_none}

-- 1 for the word, and 0 for another
abbrev is_it : ℕ → ℕ → ℕ
is_it word other = cond (other == word) 1 0

-- how often a word stands in slots
times : ℕ → List ℕ → ℕ
times word [] = 0
times word (x ∷ slots) = is_it word x + times word slots

-- a slot of the word counts, and no other
times_here : (word x : ℕ) (slots : List ℕ) → x ≡ word → times word (x ∷ slots) ≡ 1 + times word slots
unfolding times
times_here word x slots e = let t : (x == word) ≡ true = eq-eqb x word e in rw t refl

times_past : (word x : ℕ) (slots : List ℕ) → x ≢ word → times word (x ∷ slots) ≡ times word slots
unfolding times
times_past word x slots e = let t : (x == word) ≡ false = ne_eqb x word e in rw t (omega arith)

times_end : (word : ℕ) → times word [] ≡ 0
unfolding times
times_end word = refl

-- it is a sum
times_sum : (word : ℕ) (slots : List ℕ) → sum_by (is_it word) slots ≡ times word slots
unfolding times
times_sum word [] = refl
times_sum word (x ∷ slots) = sum_by-cons (is_it word) x slots ∙ ap (λ (n : ℕ). is_it word x + n) (times_sum word slots)

-- so the order makes no difference
times_same : (word : ℕ) (xs ys : List ℕ) → IsPermutation xs ys → times word ys ≡ times word xs
times_same word xs ys moved = sym (times_sum word ys) ∙ (sum_by-IsPermutation (is_it word) xs ys moved ∙ times_sum word xs)

-- nor do empty slots
times_taken : (word : ℕ) (slots : List ℕ) → word ≢ 0 → times word (occupied_words slots) ≡ times word slots
times_taken word [] nonzero = ap (times word) taken_none
times_taken word (x ∷ slots) nonzero = elim (cases_eq x 0) [
  | inl empty ↦ ap (times word) (taken_empty x slots empty) ∙ (times_taken word slots nonzero ∙ sym (times_past word x slots (λ e. nonzero (sym e ∙ empty))))
  | inr full ↦ ap (times word) (taken_more x slots full) ∙ elim (cases_eq x word) [
    | inl here ↦ times_here word x (occupied_words slots) here ∙ (ap (λ (n : ℕ). 1 + n) (times_taken word slots nonzero) ∙ sym (times_here word x slots here))
    | inr past ↦ times_past word x (occupied_words slots) past ∙ (times_taken word slots nonzero ∙ sym (times_past word x slots past))
  ]
]

-- a word stands in just one slot
pub record StandsOnce (slots : List ℕ) (word : ℕ) : Type 0 where
  pub number : ℕ
  pub below : number < length slots
  pub here : get_or slots number 0 ≡ word
  pub only : (other : ℕ) → other < length slots → get_or slots other 0 ≡ word → other ≡ number

-- a word that stands nowhere
none_times : (word : ℕ) (slots : List ℕ) → ((other : ℕ) → other < length slots → get_or slots other 0 ≢ word) → times word slots ≡ 0
none_times word [] none = times_end word
none_times word (x ∷ slots) none = times_past word x slots (none 0 (omega arith)) ∙ none_times word slots (λ k below. none (suc k) (omega arith))

times_none : (word : ℕ) (slots : List ℕ) → times word slots ≡ 0 → (other : ℕ) → other < length slots → get_or slots other 0 ≢ word
times_none word [] e other below = absurd (omega arith)
times_none word (x ∷ slots) e zero below = λ here. absurd (omega (arith, times_here word x slots here, e))
times_none word (x ∷ slots) e (suc other) below = elim (cases_eq x word) [
  | inl here ↦ absurd (omega (arith, times_here word x slots here, e))
  | inr past ↦ times_none word slots (sym (times_past word x slots past) ∙ e) other (omega arith)
]

-- standing once is standing one time
once_times : (word : ℕ) (slots : List ℕ) (number : ℕ) → number < length slots → get_or slots number 0 ≡ word → ((other : ℕ) → other < length slots → get_or slots other 0 ≡ word → other ≡ number) → times word slots ≡ 1
once_times word [] number below here only = absurd (omega arith)
once_times word (x ∷ slots) zero below here only =
    times_here word x slots here ∙ ap (λ (n : ℕ). 1 + n) (none_times word slots (λ k k_below same. absurd (next k (only (suc k) (omega arith) same))))
  where
    next : (k : ℕ) → suc k ≡ 0 → ⊥
    next k e = omega arith
once_times word (x ∷ slots) (suc number) below here only =
    times_past word x slots (λ same. absurd (next number (only 0 (omega arith) same)))
    ∙ once_times word slots number (omega arith) here (λ k k_below same. (let e : suc k ≡ suc number = only (suc k) (omega arith) same in omega arith))
  where
    next : (k : ℕ) → 0 ≡ suc k → ⊥
    next k e = omega arith

times_once : (word : ℕ) (slots : List ℕ) → times word slots ≡ 1 → StandsOnce slots word
times_once word [] e = absurd (omega (arith, times_end word, e))
times_once word (x ∷ slots) e = elim (cases_eq x word) [
  | inl here ↦ record {
    number = 0;
    below = omega arith;
    here = here;
    only = first here;
  }
  | inr past ↦
      let later = times_once word slots (sym (times_past word x slots past) ∙ e) in
      record { number = suc later.number; below = omega (arith, later.below); here = later.here; only = behind past later }
]
  where
    first : x ≡ word → (other : ℕ) → other < length (x ∷ slots) → get_or (x ∷ slots) other 0 ≡ word → other ≡ 0
    first here zero below same = refl
    first here (suc k) below same = absurd (times_none word slots (omega (arith, times_here word x slots here, e)) k (omega arith) same)

    behind : x ≢ word → (later : StandsOnce slots word) → (other : ℕ) → other < length (x ∷ slots) → get_or (x ∷ slots) other 0 ≡ word → other ≡ suc later.number
    behind past later zero below same = absurd (past same)
    behind past later (suc k) below same = ap suc (later.only k (omega arith) same)

-- in another order
pub once_moved : (word : ℕ) (xs ys : List ℕ) → IsPermutation (occupied_words xs) (occupied_words ys) → word ≢ 0 → StandsOnce xs word → StandsOnce ys word
once_moved word xs ys moved nonzero once =
    times_once word ys (sym (times_taken word ys nonzero) ∙ (times_same word (occupied_words xs) (occupied_words ys) moved ∙ (times_taken word xs nonzero ∙ once_times word xs once.number once.below once.here once.only)))

-- when another slot is emptied
pub once_emptied : (word slot : ℕ) (slots : List ℕ) → slot < length slots → word ≢ 0 → get_or slots slot 0 ≢ word → StandsOnce slots word → StandsOnce (set slots slot 0) word
once_emptied word slot slots inside nonzero other once = record {
  number = once.number;
  below = omega (arith, once.below, length-set slots slot 0);
  here = get_or-set_other slots slot once.number 0 0 (λ same. other (ap (λ (k : ℕ). get_or slots k 0) (sym same) ∙ once.here)) ∙ once.here;
  only = λ k below is. elim (cases_eq k slot) [
    | inl same ↦ absurd (nonzero (sym is ∙ (ap (λ (j : ℕ). get_or (set slots slot 0) j 0) same ∙ get_or-set_same slots slot 0 0 inside)))
    | inr apart ↦ once.only k (omega (arith, below, length-set slots slot 0)) (sym (get_or-set_other slots slot k 0 0 apart) ∙ is)
  ];
}
