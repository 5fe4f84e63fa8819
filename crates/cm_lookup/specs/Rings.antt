-- A ring of slots, as linear probing has it (after Chronicle Map; that one goes round it upwards, and from the last slot to the first, is own).
-- Each slot holds a word, and 0 is an empty slot; the words are a list in the order of the slots.
use Rattle.cm_plain.specs.Lawful.{slot_behind, steps_between}
use Rattle.std.specs.Prelude.{ℕ, ◌≡◌, ◌≢◌, ◌<◌, ◌==◌, Bool, not, List, filter, slice_index}

-- how many slots there are, and at which the search for a word begins
pub record Ring : Type 0 where
  pub size : ℕ
  pub home : ℕ → ℕ

-- there are slots, and each search begins at one
pub record IsRing (ring : Ring) : Type 0 where
  pub nonzero : 0 < ring.size
  pub inside : (word : ℕ) → ring.home word < ring.size

-- the steps from a slot to another
abbrev pub ring_steps : Ring → ℕ → ℕ → ℕ
ring_steps ring from to = steps_between ring.size from to

-- the slot so many steps behind one
abbrev pub ring_slot : Ring → ℕ → ℕ → ℕ
ring_slot ring from steps = slot_behind ring.size from steps

-- the word so many steps behind a slot
abbrev pub word_behind : Ring → List ℕ → ℕ → ℕ → ℕ
word_behind ring slots from steps = slice_index slots (ring_slot ring from steps)

-- the slot law: no slot from a word's home on to the word's slot is empty
abbrev pub KeepsLaw : Ring → List ℕ → Type 0
KeepsLaw ring slots =
    (number word : ℕ) → number < ring.size → slice_index slots number ≡ word → word ≢ 0
    → (steps : ℕ) → steps < ring_steps ring (ring.home word) number → word_behind ring slots (ring.home word) steps ≢ 0

-- a slot isn't empty
abbrev pub is_occupied : ℕ → Bool
is_occupied word = not (word == 0)

-- the words of the slots that aren't empty
unfoldable pub occupied_words : List ℕ → List ℕ
occupied_words slots = filter is_occupied slots
