-- The notes of what a peek found, after one more word.
use Rattle.std.proofs.Common.{◌≡◌, ◌≢◌, ℕ, ◌<◌, ◌^◌, ◌||◌, ◌==◌, not, Bool, true, false, List, ◌∷◌, length, get_or, Option, Some, None, refl, ap, sym, ◌∙◌, arith, inl, inr, ◌⊎◌, nat_lt}
use Rattle.std.specs.Option.{option_map}
use Rattle.std.proofs.lemmas.Bool.{cases_Bool, cases_eq}
use Rattle.std.proofs.lemmas.Bool.Decides.{nat_tests}
use Rattle.std.proofs.lemmas.Grind.{common_steps}
use Rattle.cm_geo.specs.declared.geo.Geo.{Geo}
use Rattle.cm_geo.specs.Addresses.{words_in_segment}
use Rattle.cm_words.specs.declared.peek.FoundWord.{FoundWord}
use Rattle.cm_words.specs.Memory.{FitsNotes, MemSeen, Note, first_or}
use Rattle.cm_words.specs.Effects.{Keeps, Knows, Reads, StaysNoted}
use Rattle.cm_words.proofs.FittingLists.{reads_load}
use Rattle.cm_words.proofs.Notes.{NotesLoad}
use Rattle.cm_segment.specs.PeekNotes.{is_mixed, is_other, last_alone, newest_word, note_of, notes_behind, notes_of}

-- a segment has a head
pub head_inside : (geo : Geo) → 3 < words_in_segment geo
unfolding words_in_segment
head_inside geo = omega arith

-- ---- one address

-- behind the lock word and the change number
pub noted_behind : (found : List FoundWord) (at : ℕ) → 1 < at → notes_of found at ≡ notes_behind found at
noted_behind found at inner = grind (arith, common_steps, nat_tests)

-- the newest word is noted, also where two differ
pub noted_newest : (found : List FoundWord) (f : FoundWord) → 1 < f.at → notes_of (f ∷ found) f.at ≡ Some (note_of f.word)
noted_newest found f inner = noted_behind (f ∷ found) f.at inner ∙ by (is_mixed (f ∷ found)) refl
  where
    by : (mixed : Bool) → is_mixed (f ∷ found) ≡ mixed → notes_behind (f ∷ found) f.at ≡ Some (note_of f.word)
    by true e = rw e (grind (arith, nat_tests))
    by false e = rw e (grind (arith, nat_tests))

-- where two differ every address is noted
noted_mixed : (found : List FoundWord) (at : ℕ) → 1 < at → is_mixed found ≡ true → notes_of found at ≡ Some (note_of (last_alone found at))
noted_mixed found at inner mixed = noted_behind found at inner ∙ rw mixed refl

was_whole : (a b : Bool) → (a || b) ≡ false → (a ≡ false) × (b ≡ false)
was_whole false b e = (refl, e)
was_whole true b e = absurd (let no : true ≡ false = e in cc)

-- another address has the note from before
noted_other : (found : List FoundWord) (f : FoundWord) (at : ℕ) → is_mixed (f ∷ found) ≡ false → at ≢ f.at
    → notes_of (f ∷ found) at ≡ notes_of found at
noted_other found f at whole apart =
    let before = (was_whole (is_mixed found) (is_other (newest_word found f.at) f.word) whole).0 in
    let past : newest_word (f ∷ found) at ≡ newest_word found at = grind (arith, nat_tests) in
    rw (whole, before, past) refl

-- where no two differ the newest word is the one that was noted
same_first : (before : Option ℕ) (word : ℕ) → is_other before word ≡ false → first_or (option_map note_of before) word ≡ word
same_first None word e = refl
same_first (Some other) word e = same other word e
  where
    same : (a b : ℕ) → not (a == b) ≡ false → a ≡ b
    same a b e = grind (arith, nat_tests)

same_present : (before : Option ℕ) (word : ℕ) (note : Note) → is_other before word ≡ false → option_map note_of before ≡ Some note
    → note.present ≡ word
same_present None word note e is = absurd (let no : None ≡ Some note = is in cc)
same_present (Some other) word note e is =
    let same : note_of other ≡ note = (let s : Some (note_of other) ≡ Some note = is in cc) in ap (λ (n : Note). n.present) (sym same) ∙ same_first (Some other) word e

-- ---- two memories over such notes, the later one with one more word

module _ (old now : MemSeen) (found : List FoundWord) (f : FoundWord) (inner : 1 < f.at)
    (was : (k : ℕ) → old.noted k ≡ notes_of found k) (is : (k : ℕ) → now.noted k ≡ notes_of (f ∷ found) k) where
  notes_found : is_mixed (f ∷ found) ≡ false → NotesLoad old now f.at f.word
  notes_found whole =
      let before = was_whole (is_mixed found) (is_other (newest_word found f.at) f.word) whole in
      let stood : old.noted f.at ≡ option_map note_of (newest_word found f.at) = was f.at ∙ (noted_behind found f.at inner ∙ rw before.0 refl) in
      record {
        others = λ other apart. is other ∙ (noted_other found f other whole apart ∙ sym (was other));
        here = is f.at ∙ (noted_newest found f inner
            ∙ ap (λ (w : ℕ). Some (record { present = f.word; first = w })) (sym (ap (λ (n : Option Note). first_or n f.word) stood ∙ same_first (newest_word found f.at) f.word before.1)));
        stood = λ note e. same_present (newest_word found f.at) f.word note before.1 (sym stood ∙ e);
      }

  -- where two words differ no list fits
  fits_none : is_mixed (f ∷ found) ≡ true → (words : List ℕ) → FitsNotes now words → ⊥
  fits_none mixed words fits = elim (cases_eq f.at 2) [
    | inl second ↦ at_other 3 (omega arith) (omega (arith, second)) (head_inside now.setting.geo)
    | inr apart ↦ at_other 2 (omega arith) apart (let third = head_inside now.setting.geo in omega (arith, third))
  ]
    where
      at_other : (k : ℕ) → 1 < k → f.at ≢ k → k < words_in_segment now.setting.geo → ⊥
      at_other k inside apart below =
          let within : k < length words = rw fits.are.length_is below in
          let alone : last_alone (f ∷ found) k ≡ 2 ^ 64 = grind (arith, nat_tests) in
          let high : get_or words k 0 ≡ 2 ^ 64 = fits.present k (note_of (last_alone (f ∷ found) k)) within (is k ∙ noted_mixed (f ∷ found) k inside mixed) ∙ alone in
          let low : get_or words k 0 < 2 ^ 64 = fits.are.fit k 0 within in
          omega (arith, high, low)

  noted_still : is_mixed (f ∷ found) ≡ true → StaysNoted old now
  noted_still mixed k noted = elim (by k) [
    | inl head ↦ rw (is k, head) refl
    | inr inside ↦ rw (is k, noted_mixed (f ∷ found) k inside mixed) refl
  ]
    where
      by : (k : ℕ) → (nat_lt k 2 ≡ true) ⊎ (1 < k)
      by k = grind (arith, nat_tests)

  pub reads_found : f.at < words_in_segment now.setting.geo → Keeps old now → now.meter.stores ≡ old.meter.stores → Reads old now
  reads_found below keeps no_store = elim (cases_Bool (is_mixed (f ∷ found))) [
    | inl mixed ↦ record {
      keeps = keeps;
      fits = λ words fits. absurd (fits_none mixed words fits);
      origin = λ words fits. absurd (fits_none mixed words fits);
      noted = noted_still mixed;
      no_store = no_store;
    }
    | inr whole ↦ reads_load old now f.at f.word below keeps (notes_found whole) no_store
  ]

-- a word that is noted is known
pub knows_noted : (m : MemSeen) (at word : ℕ) → at < words_in_segment m.setting.geo → m.noted at ≡ Some (note_of word) → Knows m at word
knows_noted m at word below noted = record {
  noted = λ steady. rw noted refl;
  here = λ steady words fits. (let within : at < length words = rw fits.are.length_is below in fits.present at (note_of word) within noted);
}
