-- What stands while an entry is stored: after some of its stores, from the first one on.
use Rattle.std.proofs.Common.{◌≡◌, ◌≢◌, ℕ, ◌+◌, ◌<◌, ◌≤◌, ◌⊎◌, List, [], ◌∷◌, ◌++◌, length, take, drop, get_or, slice_set, refl, ap, sym, ◌∙◌, subst, arith, inl, inr, get_or-set_other, get_or-set_same, length-set, append_assoc}
use Rattle.std.proofs.lemmas.Bool.Decides.{eqb_tells}
use Rattle.cm_geo.specs.declared.geo.Geo.{Geo}
use Rattle.cm_geo.specs.Addresses.{chunk_at, words_in_segment}
use Rattle.cm_geo.specs.Need.{parts_for}
use Rattle.cm_plain.specs.Readings.{HasEntry, bytes_of, entry_checksum, head_of}
use Rattle.cm_plain.specs.Changes.{entry_at}
use Rattle.cm_plain.specs.Torn.{IsBetween}
use Rattle.cm_words.specs.Stores.{WordStore, after_stores, store_at}
use Rattle.cm_entry.specs.Packing.{words_of}
use Rattle.cm_entry.specs.EntryStores.{HasRoom, entry_stores, head_stores, replacing_stores, stores_from, value_stores}
use Rattle.cm_entry.proofs.Packing.{AreBytes, words_len}
use Rattle.cm_entry.proofs.WordStores.{after_len, part_same}
use Rattle.cm_entry.proofs.StoredEntries.{EntryWords, inside_run, stood, value_replaced, words_stand}

-- each store is one of these
abbrev pub Each : (ℕ → ℕ → Type 0) → List WordStore → Type 0
Each P [] = Unit {0}
Each P (s ∷ stores) = P s.at s.word × Each P stores

each_append : (P : ℕ → ℕ → Type 0) (ss ts : List WordStore) → Each P ss → Each P ts → Each P (ss ++ ts)
each_append P [] ts p q = q
each_append P (s ∷ ss) ts p q = (p.0, each_append P ss ts p.1 q)

-- so is each of the first ones
pub each_prefix : (P : ℕ → ℕ → Type 0) (made left : List WordStore) → Each P (made ++ left) → Each P made
each_prefix P [] left p = tt
each_prefix P (s ∷ made) left p = (p.0, each_prefix P made left p.1)

each_from : (P : ℕ → ℕ → Type 0) (at : ℕ) (stored : List ℕ) → ((to word : ℕ) → at ≤ to → to < at + length stored → P to word) → Each P (stores_from at stored)
each_from P at [] all = tt
each_from P at (w ∷ stored) all = (all at w (omega arith) (omega arith), each_from P (at + 1) stored (λ to word low high. all to word (omega arith) (omega arith)))

-- a word that no store is made to stays
pub word_stays : (words : List ℕ) (stores : List WordStore) (other : ℕ) → Each (λ to word. to ≢ other) stores → get_or (after_stores words stores) other 0 ≡ get_or words other 0
word_stays words [] other apart = refl
word_stays words (s ∷ stores) other apart =
    let ne : other ≢ s.at = λ e. apart.0 (sym e) in
    word_stays (slice_set words s.at s.word) stores other apart.1 ∙ get_or-set_other words s.at other s.word 0 ne

-- ---- the words outside of the run stay

-- a store is made to so many words from an address on
abbrev pub IsWithin : ℕ → ℕ → ℕ → ℕ → Type 0
IsWithin at count to word = (at ≤ to) × (to < at + count)

value_within : (at : ℕ) (key value : List ℕ) → Each (IsWithin at (2 + parts_for 8 (length key) + parts_for 8 (length value))) (value_stores at key value)
unfolding value_stores
value_within at key value =
    let pk : ℕ = parts_for 8 (length key) in
    let pv : ℕ = parts_for 8 (length value) in
    let long : length (words_of value) ≡ pv = words_len value in
    each_append (IsWithin at (2 + pk + pv)) (stores_from (at + 2 + pk) (words_of value)) (store_at (at + 1) (entry_checksum key value) ∷ [])
    (each_from (IsWithin at (2 + pk + pv)) (at + 2 + pk) (words_of value) (λ to word low high. behind_key at pk pv to (length (words_of value)) long low high)) ((second at pk pv), tt)
  where
    behind_key : (at pk pv to n : ℕ) → n ≡ pv → at + 2 + pk ≤ to → to < at + 2 + pk + n → (at ≤ to) × (to < at + (2 + pk + pv))
    behind_key at pk pv to n e low high = (omega arith, omega arith)

    second : (at pk pv : ℕ) → (at ≤ at + 1) × (at + 1 < at + (2 + pk + pv))
    second at pk pv = (omega arith, omega arith)

-- the stores of an entry are made to the words of its run
pub entry_within : (at : ℕ) (key value : List ℕ) → Each (IsWithin at (2 + parts_for 8 (length key) + parts_for 8 (length value))) (entry_stores at key value)
unfolding entry_stores
entry_within at key value =
    let pk : ℕ = parts_for 8 (length key) in
    let pv : ℕ = parts_for 8 (length value) in
    let long : length (words_of key) ≡ pk = words_len key in (
      first at pk pv,
      each_append (IsWithin at (2 + pk + pv)) (stores_from (at + 2) (words_of key)) (value_stores at key value)
          (each_from (IsWithin at (2 + pk + pv)) (at + 2) (words_of key) (λ to word low high. behind at pk pv to (length (words_of key)) long low high)) (value_within at key value),
    )
  where
    first : (at pk pv : ℕ) → (at ≤ at) × (at < at + (2 + pk + pv))
    first at pk pv = (omega arith, omega arith)

    behind : (at pk pv to n : ℕ) → n ≡ pk → at + 2 ≤ to → to < at + 2 + n → (at ≤ to) × (to < at + (2 + pk + pv))
    behind at pk pv to n e low high = (omega arith, omega arith)

head_each : (P : ℕ → ℕ → Type 0) (at head : ℕ) (words : List ℕ) → P at head → Each P (head_stores at head words)
head_each P at head words p = elim (eqb_tells (get_or words at 0) head) [
  | inl same ↦ rw same.0 tt
  | inr other ↦ rw other.0 (p, tt)
]

-- and so are those of another value
pub replacing_within : (at : ℕ) (key value words : List ℕ) → Each (IsWithin at (2 + parts_for 8 (length key) + parts_for 8 (length value))) (replacing_stores at key value words)
unfolding replacing_stores
replacing_within at key value words =
    let count : ℕ = 2 + parts_for 8 (length key) + parts_for 8 (length value) in
    each_append (IsWithin at count) (head_stores at (head_of key value) words) (value_stores at key value)
    (head_each (IsWithin at count) at (head_of key value) words (first at (parts_for 8 (length key)) (parts_for 8 (length value)))) (value_within at key value)
  where
    first : (at pk pv : ℕ) → (at ≤ at) × (at < at + (2 + pk + pv))
    first at pk pv = (omega arith, omega arith)

-- some of the stores to a run leave each word outside of it
pub prefix_stays : (words : List ℕ) (at count other : ℕ) (made left stores : List WordStore) → made ++ left ≡ stores → Each (IsWithin at count) stores → (other < at) ⊎ (at + count ≤ other)
    → get_or (after_stores words made) other 0 ≡ get_or words other 0
prefix_stays words at count other made left stores parts within apart =
    word_stays words made other (each_apart made (each_prefix (IsWithin at count) made left (subst (λ (ss : List WordStore). Each (IsWithin at count) ss) (sym parts) within)))
  where
    differ : (to : ℕ) → (at ≤ to) × (to < at + count) → (other < at) ⊎ (at + count ≤ other) → to ≢ other
    differ to h (inl before) = omega arith
    differ to h (inr behind) = omega arith

    each_apart : (ss : List WordStore) → Each (IsWithin at count) ss → Each (λ to word. to ≢ other) ss
    each_apart [] h = tt
    each_apart (s ∷ ss) h = (differ s.at h.0 apart, each_apart ss h.1)

-- ---- a value that is replaced

-- all stores but the last one: the first word's, and those behind the key
abbrev IsBehindKey : ℕ → ℕ → ℕ → ℕ → ℕ → Type 0
IsBehindKey at pk head to word = ((to ≡ at) × (word ≡ head)) ⊎ (at + 2 + pk ≤ to)

-- some of these stores leave what is neither
behind_stays : (words : List ℕ) (at pk head other : ℕ) (made : List WordStore) → Each (IsBehindKey at pk head) made → at < other → other < at + 2 + pk → get_or (after_stores words made) other 0 ≡ get_or words other 0
behind_stays words at pk head other made each low high = word_stays words made other (each_apart made each)
  where
    differ : (to word : ℕ) → IsBehindKey at pk head to word → to ≢ other
    differ to word (inl first) = (let e = first.0 in omega arith)
    differ to word (inr behind) = omega arith

    each_apart : (ss : List WordStore) → Each (IsBehindKey at pk head) ss → Each (λ to word. to ≢ other) ss
    each_apart [] h = tt
    each_apart (s ∷ ss) h = (differ s.at s.word h.0, each_apart ss h.1)

-- the first word is the one before or the new one
behind_head : (words : List ℕ) (at pk head : ℕ) (made : List WordStore) → at < length words → Each (IsBehindKey at pk head) made → (get_or (after_stores words made) at 0 ≡ get_or words at 0) ⊎ (get_or (after_stores words made) at 0 ≡ head)
behind_head words at pk head [] inside each = inl refl
behind_head words at pk head (s ∷ made) inside each =
    next (behind_head (slice_set words s.at s.word) at pk head made (rw length-set inside) each.1) each.0
  where
    apart : (to : ℕ) → at + 2 + pk ≤ to → at ≢ to
    apart to h = omega arith

    next : (get_or (after_stores words (s ∷ made)) at 0 ≡ get_or (slice_set words s.at s.word) at 0) ⊎ (get_or (after_stores words (s ∷ made)) at 0 ≡ head) → IsBehindKey at pk head s.at s.word
        → (get_or (after_stores words (s ∷ made)) at 0 ≡ get_or words at 0) ⊎ (get_or (after_stores words (s ∷ made)) at 0 ≡ head)
    next (inr new) is = inr new
    next (inl same) (inl first) =
        inr (same ∙ (ap (λ (n : ℕ). get_or (slice_set words n s.word) at 0) first.0 ∙ (get_or-set_same words at s.word 0 inside ∙ first.1)))
    next (inl same) (inr behind) = inl (same ∙ get_or-set_other words s.at at s.word 0 (apart s.at behind))

-- some stores of a list that ends with this one: all of them, or some of those before the last
prefix_or_all : (last : WordStore) (made left stores : List WordStore) → made ++ left ≡ stores ++ last ∷ [] → (made ≡ stores ++ last ∷ []) ⊎ ((more : List WordStore) × (made ++ more ≡ stores))
prefix_or_all last [] left stores e = inr (stores, refl)
prefix_or_all last (m ∷ made) left [] e = inl (one e)
  where
    nothing : (xs ys : List WordStore) → xs ++ ys ≡ [] → xs ≡ []
    nothing [] ys e = refl
    nothing (x ∷ xs) ys e = cc e

    one : m ∷ (made ++ left) ≡ last ∷ [] → m ∷ made ≡ last ∷ []
    one e = (let head : m ≡ last = cc e in let rest : made ++ left ≡ [] = cc e in let none : made ≡ [] = nothing made left rest in rw (head, none) refl)
prefix_or_all last (m ∷ made) left (s ∷ stores) e =
    let head : m ≡ s = cc e in
    let rest : made ++ left ≡ stores ++ last ∷ [] = cc e in
    step head (prefix_or_all last made left stores rest)
  where
    step : m ≡ s → (made ≡ stores ++ last ∷ []) ⊎ ((more : List WordStore) × (made ++ more ≡ stores)) → (m ∷ made ≡ s ∷ stores ++ last ∷ []) ⊎ ((more : List WordStore) × (m ∷ made ++ more ≡ s ∷ stores))
    step head (inl all) = inl (rw (head, all) refl)
    step head (inr prefix) = inr (prefix.0, rw (head, prefix.1) refl)

prefix_each : (words : List ℕ) (at : ℕ) (key value : List ℕ) (made more : List WordStore) → made ++ more ≡ head_stores at (head_of key value) words ++ stores_from (at + 2 + parts_for 8 (length key)) (words_of value)
    → Each (IsBehindKey at (parts_for 8 (length key)) (head_of key value)) made
prefix_each words at key value made more parts =
    let pk : ℕ = parts_for 8 (length key) in
    let head : ℕ = head_of key value in
    let all : Each (IsBehindKey at pk head) (head_stores at head words ++ stores_from (at + 2 + pk) (words_of value))
    = each_append (IsBehindKey at pk head) (head_stores at head words) (stores_from (at + 2 + pk) (words_of value)) (head_each (IsBehindKey at pk head) at head words (inl (refl, refl)))
    (each_from (IsBehindKey at pk head) (at + 2 + pk) (words_of value) (λ to word low high. inr low)) in
    each_prefix (IsBehindKey at pk head) made more (subst (λ (ss : List WordStore). Each (IsBehindKey at pk head) ss) (sym parts) all)

-- while the value of an entry is replaced, its first word, its key's words and its checksum lie between the old entry and the new one
pub value_between : (geo : Geo) (words : List ℕ) (place chunk : ℕ) (key old value : List ℕ) (made left : List WordStore) → AreBytes value → HasRoom geo place chunk key value → length words ≡ words_in_segment geo
    → HasEntry geo words place chunk key old → made ++ left ≡ replacing_stores (chunk_at geo place chunk) key value words
    → IsBetween geo (after_stores words made) (entry_at key old place chunk) (entry_at key value place chunk)
unfolding replacing_stores value_stores entry_checksum
value_between geo words place chunk key old value made left small room length_is has parts =
    let at : ℕ = chunk_at geo place chunk in
    let first : List WordStore = head_stores at (head_of key value) words ++ stores_from (at + 2 + parts_for 8 (length key)) (words_of value) in
    let last_is : replacing_stores at key value words ≡ first ++ store_at (at + 1) (entry_checksum key value) ∷ []
    = sym (append_assoc (head_stores at (head_of key value) words) (stores_from (at + 2 + parts_for 8 (length key)) (words_of value)) (store_at (at + 1) (entry_checksum key value) ∷ [])) in
    elim (prefix_or_all (store_at (at + 1) (entry_checksum key value)) made left first (parts ∙ last_is)) [
      | inl all ↦ whole (subst (λ (ss : List WordStore). EntryWords (after_stores words ss) at key value) (sym (all ∙ sym last_is)) (value_replaced geo words place chunk key value small room length_is (old, has)))
      | inr prefix ↦ midway (prefix_each words at key value made prefix.0 prefix.1)
    ]
  where
    nothing : (n : ℕ) → n + 0 ≡ n
    nothing n = omega arith

    whole : EntryWords (after_stores words made) (chunk_at geo place chunk) key value → IsBetween geo (after_stores words made) (entry_at key old place chunk) (entry_at key value place chunk)
    whole stand = record {
      head = inr stand.head;
      key = ap (λ (a : ℕ). bytes_of (take (parts_for 8 (length key)) (drop a (after_stores words made)))) (nothing (chunk_at geo place chunk + 2)) ∙ stand.key_words;
      stored_checksum = inr (words_stand geo (after_stores words made) place chunk key value room stand);
    }

    midway : Each (IsBehindKey (chunk_at geo place chunk) (parts_for 8 (length key)) (head_of key value)) made → IsBetween geo (after_stores words made) (entry_at key old place chunk) (entry_at key value place chunk)
    midway each =
        let at : ℕ = chunk_at geo place chunk in
        let pk : ℕ = parts_for 8 (length key) in
        let pv : ℕ = parts_for 8 (length value) in
        let before : EntryWords words at key old = stood geo words place chunk key old length_is room.place_low has in
        let range = inside_run geo place chunk (length key) (length value) room.place_low room.run in
        let there : at < length words = begins at pk pv (words_in_segment geo) (length words) length_is range in
        let long : length (after_stores words made) ≡ length words = after_len words made in
        let keys : (j : ℕ) → j < pk → get_or (after_stores words made) (at + 2 + j) 0 ≡ get_or words (at + 2 + j) 0
        = λ j h. behind_stays words at pk (head_of key value) (at + 2 + j) made each (behind at j) (ahead at pk j h) in
        record {
          head = elim (behind_head words at pk (head_of key value) made there each) [
            | inl same ↦ inl (same ∙ before.head)
            | inr new ↦ inr new
          ];
          key = ap (λ (a : ℕ). bytes_of (take pk (drop a (after_stores words made)))) (nothing (at + 2))
              ∙ (ap bytes_of (part_same (after_stores words made) words (at + 2) pk (within at pk pv (words_in_segment geo) (length (after_stores words made)) (long ∙ length_is) range) (within at pk pv (words_in_segment geo) (length words) length_is range) keys) ∙ before.key_words);
          stored_checksum = inl (behind_stays words at pk (head_of key value) (at + 1) made each (second at) (below at pk) ∙ before.stored_checksum);
        }
      where
        begins : (at pk pv n m : ℕ) → m ≡ n → at + 2 + pk + pv ≤ n → at < m
        begins at pk pv n m e h = omega arith

        within : (at pk pv n m : ℕ) → m ≡ n → at + 2 + pk + pv ≤ n → at + 2 + pk ≤ m
        within at pk pv n m e h = omega arith

        behind : (at j : ℕ) → at < at + 2 + j
        behind at j = omega arith

        ahead : (at pk j : ℕ) → j < pk → at + 2 + j < at + 2 + pk
        ahead at pk j h = omega arith

        second : (at : ℕ) → at < at + 1
        second at = omega arith

        below : (at pk : ℕ) → at + 1 < at + 2 + pk
        below at pk = omega arith
