-- How notes follow what was done to one word.
use Rattle.std.proofs.Common.{◌≡◌, ◌≢◌, ℕ, ◌+◌, ◌*◌, ◌<◌, ◌^◌, Some, None, Option}
use Rattle.cm_words.specs.Memory.{MemSeen, Note, first_or}

-- a place is noted with this word, which stood there; the others are as before
pub record NotesLoad (old now : MemSeen) (at word : ℕ) : Type 0 where
  pub others : (other : ℕ) → other ≢ at → now.noted other ≡ old.noted other
  pub here : now.noted at ≡ Some (record { present = word; first = first_or (old.noted at) word })
  pub stood : (note : Note) → old.noted at ≡ Some note → note.present ≡ word

-- a place is noted with this word after it was found with another one; the others are as before
pub record NotesStore (old now : MemSeen) (at word found : ℕ) : Type 0 where
  pub others : (other : ℕ) → other ≢ at → now.noted other ≡ old.noted other
  pub here : now.noted at ≡ Some (record { present = word; first = first_or (old.noted at) found })
  pub stood : (note : Note) → old.noted at ≡ Some note → note.present ≡ found
  pub small : found < 2 ^ 64

-- the present word becomes the first word
abbrev pub rebased : Option Note → Option Note
rebased None = None
rebased (Some note) = Some (record { present = note.present; first = note.present })

-- the change number, which was noted, is the next one, and the first words are the present ones
pub record NotesBegin (old now : MemSeen) : Type 0 where
  pub others : (other : ℕ) → other ≢ 1 → now.noted other ≡ rebased (old.noted other)
  pub was : Note
  pub stood : old.noted 1 ≡ Some was
  pub small : was.present < 2 ^ 64
  pub here : now.noted 1 ≡ Some (record { present = was.present + 1; first = was.present + 1 })

-- the change number, which was noted, is the next one, twice this number; the others are as before
pub record NotesFinish (old now : MemSeen) (number : ℕ) : Type 0 where
  pub others : (other : ℕ) → other ≢ 1 → now.noted other ≡ old.noted other
  pub was : Note
  pub stood : old.noted 1 ≡ Some was
  pub small : was.present < 2 ^ 64
  pub twice : was.present + 1 ≡ 2 * number
  pub here : now.noted 1 ≡ Some (record { present = was.present + 1; first = was.first })
