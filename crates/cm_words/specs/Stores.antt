-- Stores in the words of a segment (own): what they lead to, which may be made, and which were made.
use Rattle.std.specs.Prelude.{ℕ, ◌≡◌, ◌+◌, List, [], ◌∷◌, ◌++◌, length, Option, slice_set}
use Rattle.cm_plain.specs.Changes.{Change}
use Rattle.cm_words.specs.Memory.{FitsNotes, IsAllowed, MemSeen, Setting, origin}
use Rattle.cm_words.specs.Effects.{Changes}

-- a store: an address of the segment, and the word that is stored there
pub record WordStore : Type 0 where
  pub at : ℕ
  pub word : ℕ

abbrev pub store_at : ℕ → ℕ → WordStore
store_at at word = record { at = at; word = word }

-- the list after stores, one after the other
abbrev pub after_stores : List ℕ → List WordStore → List ℕ
after_stores words [] = words
after_stores words (store ∷ stores) = after_stores (slice_set words store.at store.word) stores

-- each list that the stores lead to is allowed after the one before it
abbrev pub AllowsAll : Setting → Option Change → List ℕ → List ℕ → List WordStore → Type 0
AllowsAll setting plan origin words [] = Unit {0}
AllowsAll setting plan origin words (store ∷ stores) =
    IsAllowed setting plan origin words (slice_set words store.at store.word)
    × AllowsAll setting plan origin (slice_set words store.at store.word) stores

-- for each list that fits, the stores for it may be made one after the other
abbrev pub MayStoreEach : MemSeen → (List ℕ → List WordStore) → Type 0
MayStoreEach m stores = (words : List ℕ) → FitsNotes m words → AllowsAll m.setting m.plan (origin m words) words (stores words)

-- these stores may be made, whatever list fits
abbrev pub MayStoreAll : MemSeen → List WordStore → Type 0
MayStoreAll m stores = MayStoreEach m (λ _. stores)

-- these stores lead from a list to another, and as many were counted: each was made once
pub record Leads (old now : MemSeen) (stores : List WordStore) (before words : List ℕ) : Type 0 where
  pub leads : after_stores before stores ≡ words
  pub counted : now.meter.stores ≡ old.meter.stores + length stores

-- the stores for each list were made, and no others
abbrev pub WritesEach : MemSeen → MemSeen → (List ℕ → List WordStore) → Type 0
WritesEach old now stores = Changes old now (λ before words. Leads old now (stores before) before words)

-- these stores were made, and no others
abbrev pub Writes : MemSeen → MemSeen → List WordStore → Type 0
Writes old now stores = WritesEach old now (λ _. stores)

-- some of these stores lead from a list to another, from the first one on
pub record LeadsPrefix (old now : MemSeen) (stores : List WordStore) (before words : List ℕ) : Type 0 where
  pub made : List WordStore
  pub left : List WordStore
  pub parts : made ++ left ≡ stores
  pub by : Leads old now made before words

-- a prefix of the stores for each list was made
abbrev pub WritesPrefixEach : MemSeen → MemSeen → (List ℕ → List WordStore) → Type 0
WritesPrefixEach old now stores = Changes old now (λ before words. LeadsPrefix old now (stores before) before words)

-- a prefix of these stores was made, the same whatever list fits
pub record WritesPrefix (old now : MemSeen) (stores : List WordStore) : Type 0 where
  pub made : List WordStore
  pub left : List WordStore
  pub parts : made ++ left ≡ stores
  pub writes : Writes old now made
