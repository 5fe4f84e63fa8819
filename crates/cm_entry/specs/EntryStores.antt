-- The stores of an entry, and what they leave (own).
use Rattle.std.specs.Prelude.{ℕ, ◌≡◌, ◌+◌, ◌<◌, ◌≤◌, ◌==◌, List, [], ◌∷◌, ◌++◌, length, if◌then◌else◌}
use Rattle.cm_geo.specs.declared.limits.TheConstants.{MAX_VALUE_BYTES}
use Rattle.cm_geo.specs.declared.geo.Geo.{Geo}
use Rattle.cm_geo.specs.Addresses.{chunk_at, words_in_segment}
use Rattle.cm_geo.specs.Need.{Fits, need, parts_for}
use Rattle.cm_plain.specs.Slots.{word_at}
use Rattle.cm_plain.specs.Readings.{HasEntry, entry_checksum, head_of}
use Rattle.cm_words.specs.declared.access.Access.TheVariants.{Writable}
use Rattle.cm_words.specs.Memory.{MemSeen}
use Rattle.cm_words.specs.Effects.{Changes}
use Rattle.cm_words.specs.Stores.{Leads, WordStore, store_at}
use Rattle.cm_entry.specs.Packing.{AreShort, words_of}

-- a store of each word, at addresses one after the other
abbrev pub stores_from : ℕ → List ℕ → List WordStore
stores_from at [] = []
stores_from at (word ∷ words) = store_at at word ∷ stores_from (at + 1) words

-- the stores of a value at the entry that begins here: its words, and then the checksum
unfoldable pub value_stores : ℕ → List ℕ → List ℕ → List WordStore
value_stores at key value = stores_from (at + 2 + parts_for 8 (length key)) (words_of value) ++ store_at (at + 1) (entry_checksum key value) ∷ []

-- the stores of a whole entry: its first word, the key's words, and then those of a value
unfoldable pub entry_stores : ℕ → List ℕ → List ℕ → List WordStore
entry_stores at key value = store_at at (head_of key value) ∷ stores_from (at + 2) (words_of key) ++ value_stores at key value

-- the store of an entry's first word, unless it stands there
abbrev pub head_stores : ℕ → ℕ → List ℕ → List WordStore
head_stores at head words = if word_at words at == head then [] else store_at at head ∷ []

-- the stores of another value
unfoldable pub replacing_stores : ℕ → List ℕ → List ℕ → List ℕ → List WordStore
replacing_stores at key value words = head_stores at (head_of key value) words ++ value_stores at key value

-- words may be stored from an address on, 8 bytes a word: they are words of the segment, behind the lock word and the change number
pub record AreStorable (m : MemSeen) (at len : ℕ) : Type 0 where
  pub writable : m.setting.access ≡ Writable
  pub inner : 1 < at
  pub within_limit : len ≤ MAX_VALUE_BYTES
  pub in_range : at + parts_for 8 len ≤ words_in_segment m.setting.geo

-- and the words of an entry that begins here
pub record IsStorable (m : MemSeen) (at : ℕ) (key value : List ℕ) : Type 0 where
  pub writable : m.setting.access ≡ Writable
  pub inner : 1 < at
  pub lengths : AreShort key value
  pub in_range : at + 2 + parts_for 8 (length key) + parts_for 8 (length value) ≤ words_in_segment m.setting.geo

-- an entry may stand at a chunk: it fits, and its run ends within the tier
pub record HasRoom (geo : Geo) (place chunk : ℕ) (key value : List ℕ) : Type 0 where
  pub place_low : place < geo.tiers
  pub fits : Fits geo (length key) (length value)
  pub run : chunk + need geo (length key) (length value) ≤ geo.chunks

-- an entry of this key stands at a chunk
abbrev pub HasKey : Geo → List ℕ → ℕ → ℕ → List ℕ → Type 0
HasKey geo words place chunk key = (value : List ℕ) × HasEntry geo words place chunk key value

-- the stores for a list lead from it to another, which has the new value where that one had the key
pub record LeadsReplacement (old now : MemSeen) (geo : Geo) (place chunk : ℕ) (key value before words : List ℕ) : Type 0 where
  pub by : Leads old now (replacing_stores (chunk_at geo place chunk) key value before) before words
  pub stands : HasKey geo before place chunk key → HasEntry geo words place chunk key value

-- the value of an entry was replaced
abbrev pub Replaces : MemSeen → MemSeen → Geo → ℕ → ℕ → List ℕ → List ℕ → Type 0
Replaces old now geo place chunk key value = Changes old now (LeadsReplacement old now geo place chunk key value)
