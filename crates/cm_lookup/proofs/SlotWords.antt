-- The words of slots: empty ones, the halves of a word, and hits.
use Rattle.std.proofs.Common.{◌≡◌, ◌≢◌, ℕ, ◌+◌, ◌-◌, ◌/◌, ◌%◌, ◌^◌, ◌<◌, ◌↔◌, ◌==◌, false, List, get_or, refl, sym, ap, ◌∙◌, arith, inl, inr, Some, None, ne_eqb}
use Rattle.std.proofs.lemmas.Bool.{cases_eq}
use Rattle.cm_geo.specs.declared.geo.Geo.{Geo}
use Rattle.cm_geo.specs.Addresses.{slot_at}
use Rattle.cm_plain.specs.Slots.{Slot, chunk_of_half, slot_in, slot_of_word, word_at}
use Rattle.cm_lookup.specs.Tiers.{slot_word}

-- the slot of a word that isn't 0
pub word_some : (word : ℕ) → word ≢ 0 → slot_of_word word ≡ Some (record { fingerprint = word / 2 ^ 32; chunk = chunk_of_half (word % 2 ^ 32) })
word_some word nonzero = let e : (word == 0) ≡ false = ne_eqb word 0 nonzero in rw e refl

-- the word 0 is the empty slot, and the only one
pub word_empty : (word : ℕ) → (slot_of_word word ≡ None) ↔ (word ≡ 0)
word_empty word = (forth, λ e. rw e refl)
  where
    forth : slot_of_word word ≡ None → word ≡ 0
    forth e = elim (cases_eq word 0) [ inl same ↦ same | inr nonzero ↦ (let h = sym (word_some word nonzero) ∙ e in cc h) ]

-- a slot has the fingerprint and the chunk of its word
pub word_parts : (word : ℕ) (slot : Slot) → slot_of_word word ≡ Some slot → (word ≢ 0) × (slot.fingerprint ≡ word / 2 ^ 32) × (slot.chunk ≡ chunk_of_half (word % 2 ^ 32))
word_parts word slot e = (nonzero, ap (λ (s : Slot). s.fingerprint) is, ap (λ (s : Slot). s.chunk) is)
  where
    nonzero : word ≢ 0
    nonzero z = let h = sym ((word_empty word).1 z) ∙ e in cc h

    one : (a b : Slot) → Some a ≡ Some b → b ≡ a
    one a b h = cc h

    is : slot ≡ record { fingerprint = word / 2 ^ 32; chunk = chunk_of_half (word % 2 ^ 32) }
    is = one (record { fingerprint = word / 2 ^ 32; chunk = chunk_of_half (word % 2 ^ 32) }) slot (sym (word_some word nonzero) ∙ e)

-- a word is 0 just where both its halves are
pub halves_empty : (word : ℕ) → (word ≡ 0) ↔ ((word / 2 ^ 32 ≡ 0) × (word % 2 ^ 32 ≡ 0))
halves_empty word = (λ e. rw e (refl, refl), λ both. omega (arith, both.0, both.1))

-- a half points to a chunk
pub half_chunk : (half chunk : ℕ) → (chunk_of_half half ≡ Some chunk) ↔ (half ≡ chunk + 1)
half_chunk half chunk = (forth, back)
  where
    one : (a b : ℕ) → Some a ≡ Some b → a ≡ b
    one a b h = cc h

    forth : chunk_of_half half ≡ Some chunk → half ≡ chunk + 1
    forth e = elim (cases_eq half 0) [
      | inl none ↦ (let h : None ≡ Some chunk = rw none at e in cc h)
      | inr nonzero ↦ (let t : (half == 0) ≡ false = ne_eqb half 0 nonzero in let h : Some (half - 1) ≡ Some chunk = rw t at e in let i : half - 1 ≡ chunk = one (half - 1) chunk h in omega arith)
    ]

    back : half ≡ chunk + 1 → chunk_of_half half ≡ Some chunk
    back e = let t : (half == 0) ≡ false = ne_eqb half 0 (omega arith) in let i : half - 1 ≡ chunk = omega arith in rw (t, i) refl

-- the slot that a word was made for
pub slot_of_slot_word : (fingerprint chunk : ℕ) → chunk + 1 < 2 ^ 32 → slot_of_word (slot_word fingerprint chunk) ≡ Some (record { fingerprint = fingerprint; chunk = Some chunk })
slot_of_slot_word fingerprint chunk below =
    let upper : slot_word fingerprint chunk / 2 ^ 32 ≡ fingerprint = omega arith in
    let lower : slot_word fingerprint chunk % 2 ^ 32 ≡ chunk + 1 = omega arith in
    word_some (slot_word fingerprint chunk) (omega arith) ∙ (rw (upper, (half_chunk (slot_word fingerprint chunk % 2 ^ 32) chunk).1 lower) refl)

-- ---- the slots of a tier

-- an empty slot is one whose word is 0
pub slot_empty : (geo : Geo) (words : List ℕ) (place slot : ℕ) → (slot_in geo words place slot ≡ None) ↔ (get_or words (slot_at geo place slot) 0 ≡ 0)
unfolding slot_in
slot_empty geo words place slot = word_empty (word_at words (slot_at geo place slot))

-- any other is the slot of its word
pub slot_some : (geo : Geo) (words : List ℕ) (place slot word : ℕ) → get_or words (slot_at geo place slot) 0 ≡ word → word ≢ 0
    → slot_in geo words place slot ≡ Some (record { fingerprint = word / 2 ^ 32; chunk = chunk_of_half (word % 2 ^ 32) })
unfolding slot_in
slot_some geo words place slot word is nonzero = ap slot_of_word is ∙ word_some word nonzero

-- and has the parts of its word
pub slot_parts : (geo : Geo) (words : List ℕ) (place number : ℕ) (slot : Slot) → slot_in geo words place number ≡ Some slot
    → (get_or words (slot_at geo place number) 0 ≢ 0) × (slot.fingerprint ≡ get_or words (slot_at geo place number) 0 / 2 ^ 32) × (slot.chunk ≡ chunk_of_half (get_or words (slot_at geo place number) 0 % 2 ^ 32))
unfolding slot_in
slot_parts geo words place number slot e = word_parts (word_at words (slot_at geo place number)) slot e
