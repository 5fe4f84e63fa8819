-- What is left of a list of words by stores at some words of its tiers.
use Rattle.cm_words.specs.Stores.{WordStore, after_stores}
use Rattle.std.proofs.Common.{◌≡◌, ◌≢◌, ℕ, ◌+◌, ◌*◌, ◌/◌, ◌<◌, ◌≤◌, List, [], ◌∷◌, slice_set, refl, sym, subst, ap, ◌∙◌, arith, length-set, get_or-set_other}
use Rattle.std.specs.List.{AllByRecursion}
use Rattle.cm_geo.specs.declared.geo.Geo.{Geo}
use Rattle.cm_geo.specs.Addresses.{bits_at, chunk_at, slot_at, tier_at, words_in_tier}
use Rattle.cm_geo.proofs.AddressOrder.{rows_in_order, tier_behind_head}
use Rattle.cm_geo.proofs.Unchanged.{offset_kept}
use Rattle.cm_plain.specs.Slots.{slot_in, slot_of_word, word_at}
use Rattle.cm_segment.specs.Frames.{IsBitWord, IsChunkWord, DiffersAt, chunk_offset}

-- an address is that of such a word
pub record IsTouchedAt (geo : Geo) (touched : ℕ → ℕ → Type 0) (at : ℕ) : Type 0 where
  pub place : ℕ
  pub offset : ℕ
  pub at_is : at ≡ tier_at geo place + offset
  pub inside : offset < words_in_tier geo
  pub touches : touched place offset

pub differs_none : (geo : Geo) (touched : ℕ → ℕ → Type 0) (words : List ℕ) → DiffersAt geo touched words words
differs_none geo touched words = record { length_is = refl; fourth = refl; others = λ q i below out. refl }

pub differs_weaker : (geo : Geo) (touched more : ℕ → ℕ → Type 0) (start words : List ℕ) → ((q i : ℕ) → touched q i → more q i)
    → DiffersAt geo touched start words → DiffersAt geo more start words
differs_weaker geo touched more start words weaker left =
    record { length_is = left.length_is; fourth = left.fourth; others = λ q i below out. left.others q i below (λ h. out (weaker q i h)) }

pub differs_then : (geo : Geo) (touched : ℕ → ℕ → Type 0) (start words later : List ℕ) → DiffersAt geo touched start words → DiffersAt geo touched words later
    → DiffersAt geo touched start later
differs_then geo touched start words later p q =
    record { length_is = q.length_is ∙ p.length_is; fourth = q.fourth ∙ p.fourth; others = λ k i below out. q.others k i below out ∙ p.others k i below out }

-- one store
pub differs_store : (geo : Geo) (touched : ℕ → ℕ → Type 0) (start words : List ℕ) (at word : ℕ) → IsTouchedAt geo touched at → DiffersAt geo touched start words
    → DiffersAt geo touched start (slice_set words at word)
differs_store geo touched start words at word is left = record {
  length_is = length-set words at word ∙ left.length_is;
  fourth = get_or-set_other words at 3 word 0 (head_apart at is.place is.offset is.at_is (tier_behind_head geo is.place)) ∙ left.fourth;
  others = λ q i below out.
      offset_kept geo words is.place q is.offset i at (tier_at geo q + i) word is.at_is refl is.inside below
      (λ same_place same_offset. out (here q i same_place same_offset))
      ∙ left.others q i below out;
}
  where
    head_apart : (at place offset : ℕ) → at ≡ tier_at geo place + offset → 4 ≤ tier_at geo place → 3 ≢ at
    head_apart at place offset e h = λ no. absurd (omega arith)

    here : (q i : ℕ) → q ≡ is.place → i ≡ is.offset → touched q i
    here q i e f = subst (λ (p : ℕ). touched p i) (sym e) (subst (λ (j : ℕ). touched is.place j) (sym f) is.touches)

-- a store in the segment's head
pub differs_head : (geo : Geo) (touched : ℕ → ℕ → Type 0) (start words : List ℕ) (at word : ℕ) → at < 3 → DiffersAt geo touched start words
    → DiffersAt geo touched start (slice_set words at word)
differs_head geo touched start words at word low left = record {
  length_is = length-set words at word ∙ left.length_is;
  fourth = get_or-set_other words at 3 word 0 (omega arith) ∙ left.fourth;
  others = λ q i below out. get_or-set_other words at (tier_at geo q + i) word 0 (behind q i (tier_behind_head geo q)) ∙ left.others q i below out;
}
  where
    behind : (q i : ℕ) → 4 ≤ tier_at geo q → tier_at geo q + i ≢ at
    behind q i h = λ no. absurd (omega arith)

-- stores one after the other
pub differs_stores : (geo : Geo) (touched : ℕ → ℕ → Type 0) (start words : List ℕ) (stores : List WordStore)
    → AllByRecursion (λ store. IsTouchedAt geo touched store.at) stores
    → DiffersAt geo touched start words → DiffersAt geo touched start (after_stores words stores)
differs_stores geo touched start words [] each left = left
differs_stores geo touched start words (store ∷ stores) each left =
    differs_stores geo touched start (slice_set words store.at store.word) stores each.1 (differs_store geo touched start words store.at store.word each.0 left)

-- ---- the offsets of words

-- a touched word of bits, of chunks, a slot, a count
pub touched_bits : (geo : Geo) (touched : ℕ → ℕ → Type 0) (place number : ℕ) → number < geo.chunks / 64 → ((i : ℕ) → IsBitWord geo i → touched place i)
    → IsTouchedAt geo touched (bits_at geo place number)
unfolding bits_at words_in_tier
touched_bits geo touched place number below touches = record {
  place = place;
  offset = 4 + number;
  at_is = omega arith;
  inside = omega arith;
  touches = touches (4 + number) (record { from = omega arith; to = omega arith });
}

pub touched_chunk : (geo : Geo) (touched : ℕ → ℕ → Type 0) (place chunk chunks j : ℕ) → chunk + chunks ≤ geo.chunks → j < chunks * geo.chunk_words
    → ((i : ℕ) → IsChunkWord geo chunk chunks i → touched place i)
    → IsTouchedAt geo touched (chunk_at geo place chunk + j)
unfolding chunk_at words_in_tier
touched_chunk geo touched place chunk chunks j within below touches =
    let rows = rows_in_order chunks geo.chunk_words chunk geo.chunks within in
    let both = rows_in_order chunks geo.chunk_words chunk (chunk + chunks) (omega arith) in
    record {
      place = place;
      offset = chunk_offset geo chunk + j;
      at_is = omega arith;
      inside = omega arith;
      touches = touches (chunk_offset geo chunk + j) (record { from = omega arith; to = omega arith });
    }

pub touched_slot : (geo : Geo) (touched : ℕ → ℕ → Type 0) (place slot : ℕ) → slot < 2 * geo.chunks → touched place (4 + geo.chunks / 64 + slot)
    → IsTouchedAt geo touched (slot_at geo place slot)
unfolding slot_at words_in_tier
touched_slot geo touched place slot below touches =
    record { place = place; offset = 4 + geo.chunks / 64 + slot; at_is = omega arith; inside = omega arith; touches = touches }

pub touched_count : (geo : Geo) (touched : ℕ → ℕ → Type 0) (place : ℕ) → touched place 1 → IsTouchedAt geo touched (tier_at geo place + 1)
unfolding words_in_tier
touched_count geo touched place touches = record { place = place; offset = 1; at_is = refl; inside = omega arith; touches = touches }

-- ---- what is left

-- a link
pub link_left : (geo : Geo) (touched : ℕ → ℕ → Type 0) (start words : List ℕ) (q : ℕ) → DiffersAt geo touched start words → (touched q 0 → ⊥)
    → word_at words (tier_at geo q) ≡ word_at start (tier_at geo q)
unfolding words_in_tier
link_left geo touched start words q left out =
    let e : tier_at geo q + 0 ≡ tier_at geo q = omega arith in
    subst (λ (n : ℕ). word_at words n ≡ word_at start n) e (left.others q 0 (omega arith) out)

-- a slot
pub slot_left : (geo : Geo) (touched : ℕ → ℕ → Type 0) (start words : List ℕ) (q slot : ℕ) → DiffersAt geo touched start words → slot < 2 * geo.chunks
    → (touched q (4 + geo.chunks / 64 + slot) → ⊥)
    → slot_in geo words q slot ≡ slot_in geo start q slot
unfolding slot_in slot_at words_in_tier
slot_left geo touched start words q slot left below out =
    let e : tier_at geo q + (4 + geo.chunks / 64 + slot) ≡ tier_at geo q + 4 + geo.chunks / 64 + slot = omega arith in
    ap slot_of_word (subst (λ (n : ℕ). word_at words n ≡ word_at start n) e (left.others q (4 + geo.chunks / 64 + slot) (omega arith) out))

-- a word of bits
pub bits_left : (geo : Geo) (touched : ℕ → ℕ → Type 0) (start words : List ℕ) (q number : ℕ) → DiffersAt geo touched start words → number < geo.chunks / 64
    → (touched q (4 + number) → ⊥)
    → word_at words (bits_at geo q number) ≡ word_at start (bits_at geo q number)
unfolding bits_at words_in_tier
bits_left geo touched start words q number left below out =
    let e : tier_at geo q + (4 + number) ≡ tier_at geo q + 4 + number = omega arith in
    subst (λ (n : ℕ). word_at words n ≡ word_at start n) e (left.others q (4 + number) (omega arith) out)

-- a word of a chunk
pub chunk_left : (geo : Geo) (touched : ℕ → ℕ → Type 0) (start words : List ℕ) (q chunk chunks j : ℕ) → DiffersAt geo touched start words
    → chunk + chunks ≤ geo.chunks → j < chunks * geo.chunk_words
    → (touched q (chunk_offset geo chunk + j) → ⊥) → word_at words (chunk_at geo q chunk + j) ≡ word_at start (chunk_at geo q chunk + j)
unfolding chunk_at words_in_tier
chunk_left geo touched start words q chunk chunks j left within below out =
    let rows = rows_in_order chunks geo.chunk_words chunk geo.chunks within in
    let e : tier_at geo q + (chunk_offset geo chunk + j) ≡ tier_at geo q + 4 + geo.chunks / 64 + 2 * geo.chunks + chunk * geo.chunk_words + j = omega arith in
    subst (λ (n : ℕ). word_at words n ≡ word_at start n) e (left.others q (chunk_offset geo chunk + j) (omega arith) out)
