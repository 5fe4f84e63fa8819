-- The origin of the words, through a load, a store and the begin of a change.
use Rattle.std.proofs.Common.{◌≡◌, ℕ, ◌<◌, List, length, set, get_or, Some, None, Option, refl, sym, ap, ◌∙◌, arith, get_or-set_other, get_or-set_same, inl, inr}
use Rattle.std.proofs.lemmas.Bool.{cases_eq}
use Rattle.std.proofs.lemmas.List.FromFn.{fill_by_all}
use Rattle.cm_words.specs.Memory.{MemSeen, Note, first_or, origin}
use Rattle.cm_words.proofs.Notes.{rebased}
use Rattle.cm_lock.specs.declared.view.NotedWord.{NotedWord}
use Rattle.cm_lock.specs.Views.{note_at, with_note, with_present_first}
use Rattle.cm_lock.proofs.Notes.{note_else, note_rebased, note_here, note_beside_lock}

-- words whose first words are the present ones are their own origin
pub origin_own : (m : MemSeen) (xs : List ℕ) → ((k : ℕ) → k < length xs → first_or (m.noted k) (get_or xs k 0) ≡ get_or xs k 0) → origin m xs ≡ xs
unfolding origin
origin_own m xs same = sym (fill_by_all (λ k. first_or (m.noted k) (get_or xs k 0)) xs (length xs) 0 refl (λ k h. sym (same k h)))

pub loaded_first : (ns : List NotedWord) (words : List ℕ) (at k : ℕ) → first_or (note_at (with_note ns at (get_or words at 0) (get_or words at 0)) k) (get_or words k 0) ≡ first_or (note_at ns k) (get_or words k 0)
loaded_first ns words at k = elim (cases_eq at 0) [
  | inl lock ↦ rw lock (ap (λ (o : Option Note). first_or o (get_or words k 0)) (note_beside_lock ns k (get_or words 0 0) (get_or words 0 0)))
  | inr inner ↦ elim (cases_eq k at) [
    | inl same ↦ rw (same, note_here ns at (get_or words at 0) (get_or words at 0) (omega arith)) refl
    | inr ne ↦ ap (λ (o : Option Note). first_or o (get_or words k 0)) (note_else ns at k (get_or words at 0) (get_or words at 0) ne)
  ]
]

pub stored_first : (ns : List NotedWord) (words : List ℕ) (at word k : ℕ) → 0 < at → k < length words → first_or (note_at (with_note ns at (get_or words at 0) word) k) (get_or (set words at word) k 0) ≡ first_or (note_at ns k) (get_or words k 0)
stored_first ns words at word k inner inside = elim (cases_eq k at) [
  | inl same ↦ rw (same, note_here ns at (get_or words at 0) word inner) refl
  | inr ne ↦ rw (note_else ns at k (get_or words at 0) word ne, get_or-set_other) refl
]

-- the note of a place, after the word there was loaded
pub loaded_noted : (ns : List NotedWord) (words : List ℕ) (at : ℕ) → ((k : ℕ) (note : Note) → note_at ns k ≡ Some note → get_or words k 0 ≡ note.present)
    → (k : ℕ) (note : Note) → note_at (with_note ns at (get_or words at 0) (get_or words at 0)) k ≡ Some note → get_or words k 0 ≡ note.present
loaded_noted ns words at noted k note e = elim (cases_eq at 0) [
  | inl lock ↦ noted k note (sym (note_beside_lock ns k (get_or words at 0) (get_or words at 0)) ∙ (ap (λ (a : ℕ). note_at (with_note ns a (get_or words at 0) (get_or words at 0)) k) (sym lock) ∙ e))
  | inr inner ↦ elim (cases_eq k at) [
    | inl same ↦ ap (λ (j : ℕ). get_or words j 0) same ∙ present_of _ _ note (sym (note_here ns at (get_or words at 0) (get_or words at 0) (omega arith)) ∙ (ap (note_at (with_note ns at (get_or words at 0) (get_or words at 0))) (sym same) ∙ e))
    | inr ne ↦ noted k note (sym (note_else ns at k (get_or words at 0) (get_or words at 0) ne) ∙ e)
  ]
]
  where
    present_of : (p f : ℕ) (note : Note) → Some (record { present = p; first = f }) ≡ Some note → p ≡ note.present
    present_of p f note e = cc

pub stored_noted : (ns : List NotedWord) (words : List ℕ) (at found word : ℕ) → 0 < at → at < length words → ((k : ℕ) (note : Note) → note_at ns k ≡ Some note → get_or words k 0 ≡ note.present)
    → (k : ℕ) (note : Note) → note_at (with_note ns at found word) k ≡ Some note → get_or (set words at word) k 0 ≡ note.present
stored_noted ns words at found word inner inside noted k note e = elim (cases_eq k at) [
  | inl same ↦ ap (λ (j : ℕ). get_or (set words at word) j 0) same ∙ (get_or-set_same words at word 0 inside ∙ present_of _ _ note (sym (note_here ns at found word inner) ∙ (ap (note_at (with_note ns at found word)) (sym same) ∙ e)))
  | inr ne ↦ get_or-set_other words at k word 0 ne ∙ noted k note (sym (note_else ns at k found word ne) ∙ e)
]
  where
    present_of : (p f : ℕ) (note : Note) → Some (record { present = p; first = f }) ≡ Some note → p ≡ note.present
    present_of p f note e = cc

-- the same notes, with the present words as first words
pub rebased_noted : (ns : List NotedWord) (words : List ℕ) → ((k : ℕ) (note : Note) → note_at ns k ≡ Some note → get_or words k 0 ≡ note.present)
    → (k : ℕ) (note : Note) → note_at (with_present_first ns) k ≡ Some note → get_or words k 0 ≡ note.present
rebased_noted ns words noted k note e = by_note (note_at ns k) refl
  where
    by_note : (o : Option Note) → note_at ns k ≡ o → get_or words k 0 ≡ note.present
    by_note None h = absurd (let z : None ≡ Some note = sym (note_rebased ns k ∙ ap rebased h) ∙ e in cc)
    by_note (Some n) h = let z : Some (record { present = n.present; first = n.present }) ≡ Some note = sym (note_rebased ns k ∙ ap rebased h) ∙ e in let p : n.present ≡ note.present = cc in noted k n h ∙ p

pub rebased_first : (ns : List NotedWord) (words : List ℕ) (k : ℕ) → ((note : Note) → note_at ns k ≡ Some note → get_or words k 0 ≡ note.present) → first_or (note_at (with_present_first ns) k) (get_or words k 0) ≡ get_or words k 0
rebased_first ns words k noted = by_note (note_at ns k) refl
  where
    by_note : (o : Option Note) → note_at ns k ≡ o → first_or (note_at (with_present_first ns) k) (get_or words k 0) ≡ get_or words k 0
    by_note None h = ap (λ (o : Option Note). first_or o (get_or words k 0)) (note_rebased ns k ∙ ap rebased h)
    by_note (Some n) h = ap (λ (o : Option Note). first_or o (get_or words k 0)) (note_rebased ns k ∙ ap rebased h) ∙ sym (noted n h)
