-- What a removal stores in a ring of slots (after Knuth's Algorithm R, with the direction of probing turned round).
use Rattle.cm_words.specs.Stores.{WordStore, store_at}
use Rattle.std.specs.Prelude.{ℕ, ◌≡◌, ◌≢◌, ◌+◌, ◌<◌, List, [], ◌∷◌, ◌++◌}
use Rattle.cm_lookup.specs.Rings.{Ring, ring_steps, ring_slot, word_behind}

-- A word so many steps behind the removed slot stays where it is, for the hole that is so many steps behind that slot:
-- the way from the word's home is shorter than the way from the hole, so the search for the word doesn't pass the hole.
abbrev pub Stays : Ring → ℕ → ℕ → ℕ → ℕ → Type 0
Stays ring slot hole steps word = ring_steps ring (ring.home word) (ring_slot ring slot steps) + hole < steps

-- the shift from a slot, before it looks at the slot so many steps behind: the steps to the hole, and the stores that were made
pub data Shift (ring : Ring) (slots : List ℕ) (slot : ℕ) : ℕ → ℕ → List WordStore → Type 0 where
  begins : Shift ring slots slot 0 1 []
  stays : (hole steps : ℕ) (made : List WordStore) → Shift ring slots slot hole steps made → steps < ring.size
      → word_behind ring slots slot steps ≢ 0 → Stays ring slot hole steps (word_behind ring slots slot steps)
      → Shift ring slots slot hole (steps + 1) made
  moves : (hole steps : ℕ) (made : List WordStore) → Shift ring slots slot hole steps made → steps < ring.size
      → word_behind ring slots slot steps ≢ 0 → (Stays ring slot hole steps (word_behind ring slots slot steps) → ⊥)
      → Shift ring slots slot steps (steps + 1) (made ++ store_at (ring_slot ring slot hole) (word_behind ring slots slot steps) ∷ [])

-- after these stores the shift makes this one: the word that doesn't stay goes to the hole, and at the first empty slot 0 does
pub data NextStore (ring : Ring) (slots : List ℕ) (slot : ℕ) : List WordStore → ℕ → ℕ → Type 0 where
  moved : (hole steps : ℕ) (made : List WordStore) → Shift ring slots slot hole steps made → steps < ring.size
      → word_behind ring slots slot steps ≢ 0 → (Stays ring slot hole steps (word_behind ring slots slot steps) → ⊥)
      → NextStore ring slots slot made (ring_slot ring slot hole) (word_behind ring slots slot steps)
  emptied : (hole steps : ℕ) (made : List WordStore) → Shift ring slots slot hole steps made → steps < ring.size
      → word_behind ring slots slot steps ≡ 0
      → NextStore ring slots slot made (ring_slot ring slot hole) 0

-- these are all the stores of the shift from a slot
pub record IsShift (ring : Ring) (slots : List ℕ) (slot : ℕ) (stores : List WordStore) : Type 0 where
  pub hole : ℕ
  pub steps : ℕ
  pub made : List WordStore
  pub shift : Shift ring slots slot hole steps made
  pub within : steps < ring.size
  pub empty : word_behind ring slots slot steps ≡ 0
  pub stores_are : stores ≡ made ++ store_at (ring_slot ring slot hole) 0 ∷ []
