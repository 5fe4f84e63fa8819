-- The note of an address after a load, a store, and the begin and the end of a change.
use Rattle.std.proofs.Common.{◌≡◌, ◌≢◌, ℕ, ◌+◌, ◌<◌, List, [], ◌∷◌, Some, refl, sym, ap, ◌∙◌, arith, ◌^◌, ◌*◌}
use Rattle.cm_words.specs.Memory.{MemSeen, Note, first_or}
use Rattle.cm_words.proofs.Notes.{NotesBegin, NotesFinish, NotesLoad, NotesStore, rebased}
use Rattle.cm_lock.specs.declared.view.NotedWord.{NotedWord}
use Rattle.cm_lock.specs.Views.{note_at, newest_note, with_note, with_present_first}

pub note_here : (ns : List NotedWord) (at found word : ℕ) → 0 < at → note_at (with_note ns at found word) at ≡ Some (record { present = word; first = first_or (note_at ns at) found })
unfolding with_note
note_here ns at found word inner = grind arith

pub note_else : (ns : List NotedWord) (at other found word : ℕ) → other ≢ at → note_at (with_note ns at found word) other ≡ note_at ns other
unfolding with_note
note_else ns at other found word ne = grind arith

-- the lock word is never noted
pub note_beside_lock : (ns : List NotedWord) (other found word : ℕ) → note_at (with_note ns 0 found word) other ≡ note_at ns other
unfolding with_note
note_beside_lock ns other found word = grind arith

newest_rebased : (ns : List NotedWord) (at : ℕ) → newest_note (with_present_first ns) at ≡ rebased (newest_note ns at)
unfolding with_present_first
newest_rebased [] at = refl
newest_rebased (n ∷ ns) at = let r = newest_rebased ns at in grind arith

pub note_rebased : (ns : List NotedWord) (at : ℕ) → note_at (with_present_first ns) at ≡ rebased (note_at ns at)
note_rebased ns at = let r = newest_rebased ns at in grind arith

-- two memories over such notes
module _ (old now : MemSeen) (ns : List NotedWord) (was : (k : ℕ) → old.noted k ≡ note_at ns k) where
  pub notes_load : (at word : ℕ) → 0 < at → ((k : ℕ) → now.noted k ≡ note_at (with_note ns at word word) k) → ((note : Note) → note_at ns at ≡ Some note → note.present ≡ word) → NotesLoad old now at word
  notes_load at word inner is stood = record {
    others = λ other ne. is other ∙ note_else ns at other word word ne ∙ sym (was other);
    here = is at ∙ note_here ns at word word inner ∙ ap (λ n. Some (record { present = word; first = first_or n word })) (sym (was at));
    stood = λ note e. stood note (sym (was at) ∙ e);
  }

  pub notes_store : (at found word : ℕ) → 0 < at → ((k : ℕ) → now.noted k ≡ note_at (with_note ns at found word) k) → ((note : Note) → note_at ns at ≡ Some note → note.present ≡ found) → found < 2 ^ 64 → NotesStore old now at word found
  notes_store at found word inner is stood small = record {
    others = λ other ne. is other ∙ note_else ns at other found word ne ∙ sym (was other);
    here = is at ∙ note_here ns at found word inner ∙ ap (λ n. Some (record { present = word; first = first_or n found })) (sym (was at));
    stood = λ note e. stood note (sym (was at) ∙ e);
    small = small;
  }

  pub notes_begin : (note : Note) → note_at ns 1 ≡ Some note → note.present < 2 ^ 64 → ((k : ℕ) → now.noted k ≡ note_at (with_present_first (with_note ns 1 (note.present + 1) (note.present + 1))) k) → NotesBegin old now
  notes_begin note noted small is =
      let n : ℕ = note.present + 1 in record {
        others = λ other ne. is other ∙ note_rebased (with_note ns 1 n n) other ∙ ap rebased (note_else ns 1 other n n ne ∙ sym (was other));
        was = note;
        stood = was 1 ∙ noted;
        small = small;
        here = is 1 ∙ note_rebased (with_note ns 1 n n) 1 ∙ ap rebased (note_here ns 1 n n (omega arith));
      }

  pub notes_finish : (note : Note) (number : ℕ) → note_at ns 1 ≡ Some note → note.present < 2 ^ 64 → note.present + 1 ≡ 2 * number → ((k : ℕ) → now.noted k ≡ note_at (with_note ns 1 (note.present + 1) (note.present + 1)) k) → NotesFinish old now number
  notes_finish note number noted small twice is =
      let n : ℕ = note.present + 1 in record {
        others = λ other ne. is other ∙ note_else ns 1 other n n ne ∙ sym (was other);
        was = note;
        stood = was 1 ∙ noted;
        small = small;
        twice = twice;
        here = is 1 ∙ note_here ns 1 n n (omega arith) ∙ ap (λ o. Some (record { present = n; first = first_or o n })) noted;
      }
