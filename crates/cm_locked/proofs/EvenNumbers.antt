-- The change number that a guarded memory told stays known over loads.
use Rattle.std.proofs.Common.{◌≡◌, ℕ, ◌*◌, ◌<◌, ◌^◌, IsSome, IsSomeAnd, IsTrue, List, Option, Some, None, ◌∙◌, refl, sym, subst, arith}
use Rattle.cm_plain.specs.Slots.{word_at}
use Rattle.cm_words.specs.Memory.{FitsNotes, HasEvenNumber, MemSeen, Note, Setting}
use Rattle.cm_words.specs.Effects.{KnowsNumber, Reads}

is_noted : (note : Option Note) (P : Note → Type 0) → IsSomeAnd note P → IsSome note
is_noted None P h = absurd h
is_noted (Some note) P h = refl

pub even_after : (old m now : MemSeen) (number : ℕ) → IsTrue old.setting.guarded → Reads old m → KnowsNumber m number → number < 2 ^ 62 → Reads m now → HasEvenNumber now
even_after old m now number guarded before knows low reads =
    let still : IsTrue m.setting.guarded = subst (λ (s : Setting). IsTrue s.guarded) (sym before.keeps.setting) guarded in
    let here : (words : List ℕ) → FitsNotes now words → word_at words 1 ≡ 2 * number = λ words fits.
    knows.knows.here (λ _. omega arith) words (reads.fits words fits) ∙ knows.even still in
    record {
      noted = reads.noted 1 (is_noted (m.noted 1) (λ note. note.present ≡ knows.word) (knows.knows.noted (λ _. omega arith)));
      even = λ words fits. rw (here words fits) (omega arith);
      not_last = λ words fits. rw (here words fits) (omega arith);
    }
