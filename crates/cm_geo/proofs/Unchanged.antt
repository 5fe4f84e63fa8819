-- What a store leaves: a store at one word of a tier leaves every other word of every tier.
-- Each lemma takes the address that is stored at by an equation, so that `grind` can use it where a call gave the address.
use Rattle.std.proofs.Common.{◌≡◌, ◌≢◌, ℕ, ◌+◌, ◌*◌, ◌/◌, ◌<◌, ◌≤◌, List, get_or, slice_set, arith, get_or-set_other}
use Rattle.cm_geo.specs.declared.geo.Geo.{Geo}
use Rattle.cm_geo.specs.Addresses.{words_in_tier, tier_at, bits_at, slot_at, chunk_at}
use Rattle.cm_geo.proofs.AddressOrder.{rows_in_order}
use Rattle.cm_geo.proofs.AddressesApart.{same_offset}

-- a word of a run of chunks is a word of the tier's chunks
pub run_word_below : (geo : Geo) (c n i : ℕ) → c + n ≤ geo.chunks → i < n * geo.chunk_words → c * geo.chunk_words + i < geo.chunks * geo.chunk_words
run_word_below geo c n i within below = omega (arith, rows_in_order n geo.chunk_words c geo.chunks within)

-- a store at an offset of a tier leaves every other offset, and the other tiers
pub offset_kept : (geo : Geo) (words : List ℕ) (p q i j at to word : ℕ) → at ≡ tier_at geo p + i → to ≡ tier_at geo q + j → i < words_in_tier geo → j < words_in_tier geo → (q ≡ p → j ≢ i) → get_or (slice_set words at word) to 0 ≡ get_or words to 0
offset_kept geo words p q i j at to word at_is to_is i_below j_below differ =
    get_or-set_other words at to word 0 (λ same. (let both = same_offset geo q p j i j_below i_below (omega arith) in differ both.0 both.1))

-- ---- a store at a head word of a tier

-- leaves the other head words of tiers
pub tier_head_kept_by_tier_head : (geo : Geo) (words : List ℕ) (p q i j at word : ℕ) → at ≡ tier_at geo p + i → i < 4 → j < 4 → (q ≡ p → j ≢ i) → get_or (slice_set words at word) (tier_at geo q + j) 0 ≡ get_or words (tier_at geo q + j) 0
unfolding words_in_tier
tier_head_kept_by_tier_head geo words p q i j at word is i_below j_below differ =
    offset_kept geo words p q i j at _ word (omega arith) (omega arith) (omega arith) (omega arith) (λ e. (let other = differ e in omega arith))

-- leaves words of bits
pub bits_kept_by_tier_head : (geo : Geo) (words : List ℕ) (p q i j at word : ℕ) → at ≡ tier_at geo p + i → i < 4 → j < geo.chunks / 64 → get_or (slice_set words at word) (bits_at geo q j) 0 ≡ get_or words (bits_at geo q j) 0
unfolding bits_at words_in_tier
bits_kept_by_tier_head geo words p q i j at word is i_below j_below =
    offset_kept geo words p q i (4 + j) at _ word (omega arith) (omega arith) (omega arith) (omega arith) (λ _. omega arith)

-- leaves slots
pub slot_kept_by_tier_head : (geo : Geo) (words : List ℕ) (p q i j at word : ℕ) → at ≡ tier_at geo p + i → i < 4 → j < 2 * geo.chunks → get_or (slice_set words at word) (slot_at geo q j) 0 ≡ get_or words (slot_at geo q j) 0
unfolding slot_at words_in_tier
slot_kept_by_tier_head geo words p q i j at word is i_below j_below =
    offset_kept geo words p q i (4 + geo.chunks / 64 + j) at _ word (omega arith) (omega arith) (omega arith) (omega arith) (λ _. omega arith)

-- leaves words of chunks
pub chunk_word_kept_by_tier_head : (geo : Geo) (words : List ℕ) (p q i d j at word : ℕ) → at ≡ tier_at geo p + i → i < 4 → d * geo.chunk_words + j < geo.chunks * geo.chunk_words → get_or (slice_set words at word) (chunk_at geo q d + j) 0 ≡ get_or words (chunk_at geo q d + j) 0
unfolding chunk_at words_in_tier
chunk_word_kept_by_tier_head geo words p q i d j at word is i_below j_below =
    offset_kept geo words p q i (4 + geo.chunks / 64 + 2 * geo.chunks + (d * geo.chunk_words + j)) at _ word (omega arith) (omega arith) (omega arith) (omega arith) (λ _. omega arith)

-- all that such a store leaves
pub ruleset kept_by_tier_head = (tier_head_kept_by_tier_head, bits_kept_by_tier_head, slot_kept_by_tier_head, chunk_word_kept_by_tier_head)

-- ---- a store at a word of bits

-- leaves head words of tiers
pub tier_head_kept_by_bits : (geo : Geo) (words : List ℕ) (p q i j at word : ℕ) → at ≡ bits_at geo p i → i < geo.chunks / 64 → j < 4 → get_or (slice_set words at word) (tier_at geo q + j) 0 ≡ get_or words (tier_at geo q + j) 0
unfolding bits_at words_in_tier
tier_head_kept_by_bits geo words p q i j at word is i_below j_below =
    offset_kept geo words p q (4 + i) j at _ word (omega arith) (omega arith) (omega arith) (omega arith) (λ _. omega arith)

-- leaves the other words of bits
pub bits_kept_by_bits : (geo : Geo) (words : List ℕ) (p q i j at word : ℕ) → at ≡ bits_at geo p i → i < geo.chunks / 64 → j < geo.chunks / 64 → (q ≡ p → j ≢ i) → get_or (slice_set words at word) (bits_at geo q j) 0 ≡ get_or words (bits_at geo q j) 0
unfolding bits_at words_in_tier
bits_kept_by_bits geo words p q i j at word is i_below j_below differ =
    offset_kept geo words p q (4 + i) (4 + j) at _ word (omega arith) (omega arith) (omega arith) (omega arith) (λ e. (let other = differ e in omega arith))

-- leaves slots
pub slot_kept_by_bits : (geo : Geo) (words : List ℕ) (p q i j at word : ℕ) → at ≡ bits_at geo p i → i < geo.chunks / 64 → j < 2 * geo.chunks → get_or (slice_set words at word) (slot_at geo q j) 0 ≡ get_or words (slot_at geo q j) 0
unfolding bits_at slot_at words_in_tier
slot_kept_by_bits geo words p q i j at word is i_below j_below =
    offset_kept geo words p q (4 + i) (4 + geo.chunks / 64 + j) at _ word (omega arith) (omega arith) (omega arith) (omega arith) (λ _. omega arith)

-- leaves words of chunks
pub chunk_word_kept_by_bits : (geo : Geo) (words : List ℕ) (p q i d j at word : ℕ) → at ≡ bits_at geo p i → i < geo.chunks / 64 → d * geo.chunk_words + j < geo.chunks * geo.chunk_words → get_or (slice_set words at word) (chunk_at geo q d + j) 0 ≡ get_or words (chunk_at geo q d + j) 0
unfolding bits_at chunk_at words_in_tier
chunk_word_kept_by_bits geo words p q i d j at word is i_below j_below =
    offset_kept geo words p q (4 + i) (4 + geo.chunks / 64 + 2 * geo.chunks + (d * geo.chunk_words + j)) at _ word (omega arith) (omega arith) (omega arith) (omega arith) (λ _. omega arith)

-- all that such a store leaves
pub ruleset kept_by_bits = (tier_head_kept_by_bits, bits_kept_by_bits, slot_kept_by_bits, chunk_word_kept_by_bits)

-- ---- a store at a slot

-- leaves head words of tiers
pub tier_head_kept_by_slot : (geo : Geo) (words : List ℕ) (p q i j at word : ℕ) → at ≡ slot_at geo p i → i < 2 * geo.chunks → j < 4 → get_or (slice_set words at word) (tier_at geo q + j) 0 ≡ get_or words (tier_at geo q + j) 0
unfolding slot_at words_in_tier
tier_head_kept_by_slot geo words p q i j at word is i_below j_below =
    offset_kept geo words p q (4 + geo.chunks / 64 + i) j at _ word (omega arith) (omega arith) (omega arith) (omega arith) (λ _. omega arith)

-- leaves words of bits
pub bits_kept_by_slot : (geo : Geo) (words : List ℕ) (p q i j at word : ℕ) → at ≡ slot_at geo p i → i < 2 * geo.chunks → j < geo.chunks / 64 → get_or (slice_set words at word) (bits_at geo q j) 0 ≡ get_or words (bits_at geo q j) 0
unfolding slot_at bits_at words_in_tier
bits_kept_by_slot geo words p q i j at word is i_below j_below =
    offset_kept geo words p q (4 + geo.chunks / 64 + i) (4 + j) at _ word (omega arith) (omega arith) (omega arith) (omega arith) (λ _. omega arith)

-- leaves the other slots
pub slot_kept_by_slot : (geo : Geo) (words : List ℕ) (p q i j at word : ℕ) → at ≡ slot_at geo p i → i < 2 * geo.chunks → j < 2 * geo.chunks → (q ≡ p → j ≢ i) → get_or (slice_set words at word) (slot_at geo q j) 0 ≡ get_or words (slot_at geo q j) 0
unfolding slot_at words_in_tier
slot_kept_by_slot geo words p q i j at word is i_below j_below differ =
    offset_kept geo words p q (4 + geo.chunks / 64 + i) (4 + geo.chunks / 64 + j) at _ word (omega arith) (omega arith) (omega arith) (omega arith) (λ e. (let other = differ e in omega arith))

-- leaves words of chunks
pub chunk_word_kept_by_slot : (geo : Geo) (words : List ℕ) (p q i d j at word : ℕ) → at ≡ slot_at geo p i → i < 2 * geo.chunks → d * geo.chunk_words + j < geo.chunks * geo.chunk_words → get_or (slice_set words at word) (chunk_at geo q d + j) 0 ≡ get_or words (chunk_at geo q d + j) 0
unfolding slot_at chunk_at words_in_tier
chunk_word_kept_by_slot geo words p q i d j at word is i_below j_below =
    offset_kept geo words p q (4 + geo.chunks / 64 + i) (4 + geo.chunks / 64 + 2 * geo.chunks + (d * geo.chunk_words + j)) at _ word (omega arith) (omega arith) (omega arith) (omega arith) (λ _. omega arith)

-- all that such a store leaves
pub ruleset kept_by_slot = (tier_head_kept_by_slot, bits_kept_by_slot, slot_kept_by_slot, chunk_word_kept_by_slot)

-- ---- a store at a word of a chunk or behind it

-- leaves head words of tiers
pub tier_head_kept_by_chunk_word : (geo : Geo) (words : List ℕ) (p q c i j at word : ℕ) → at ≡ chunk_at geo p c + i → c * geo.chunk_words + i < geo.chunks * geo.chunk_words → j < 4 → get_or (slice_set words at word) (tier_at geo q + j) 0 ≡ get_or words (tier_at geo q + j) 0
unfolding chunk_at words_in_tier
tier_head_kept_by_chunk_word geo words p q c i j at word is i_below j_below =
    offset_kept geo words p q (4 + geo.chunks / 64 + 2 * geo.chunks + (c * geo.chunk_words + i)) j at _ word (omega arith) (omega arith) (omega arith) (omega arith) (λ _. omega arith)

-- leaves words of bits
pub bits_kept_by_chunk_word : (geo : Geo) (words : List ℕ) (p q c i j at word : ℕ) → at ≡ chunk_at geo p c + i → c * geo.chunk_words + i < geo.chunks * geo.chunk_words → j < geo.chunks / 64 → get_or (slice_set words at word) (bits_at geo q j) 0 ≡ get_or words (bits_at geo q j) 0
unfolding chunk_at bits_at words_in_tier
bits_kept_by_chunk_word geo words p q c i j at word is i_below j_below =
    offset_kept geo words p q (4 + geo.chunks / 64 + 2 * geo.chunks + (c * geo.chunk_words + i)) (4 + j) at _ word (omega arith) (omega arith) (omega arith) (omega arith) (λ _. omega arith)

-- leaves slots
pub slot_kept_by_chunk_word : (geo : Geo) (words : List ℕ) (p q c i j at word : ℕ) → at ≡ chunk_at geo p c + i → c * geo.chunk_words + i < geo.chunks * geo.chunk_words → j < 2 * geo.chunks → get_or (slice_set words at word) (slot_at geo q j) 0 ≡ get_or words (slot_at geo q j) 0
unfolding chunk_at slot_at words_in_tier
slot_kept_by_chunk_word geo words p q c i j at word is i_below j_below =
    offset_kept geo words p q (4 + geo.chunks / 64 + 2 * geo.chunks + (c * geo.chunk_words + i)) (4 + geo.chunks / 64 + j) at _ word (omega arith) (omega arith) (omega arith) (omega arith) (λ _. omega arith)

-- leaves the other words of chunks
pub chunk_word_kept_by_chunk_word : (geo : Geo) (words : List ℕ) (p q c i d j at word : ℕ) → at ≡ chunk_at geo p c + i → c * geo.chunk_words + i < geo.chunks * geo.chunk_words → d * geo.chunk_words + j < geo.chunks * geo.chunk_words → (q ≡ p → d * geo.chunk_words + j ≢ c * geo.chunk_words + i) → get_or (slice_set words at word) (chunk_at geo q d + j) 0 ≡ get_or words (chunk_at geo q d + j) 0
unfolding chunk_at words_in_tier
chunk_word_kept_by_chunk_word geo words p q c i d j at word is i_below j_below differ =
    offset_kept geo words p q (4 + geo.chunks / 64 + 2 * geo.chunks + (c * geo.chunk_words + i)) (4 + geo.chunks / 64 + 2 * geo.chunks + (d * geo.chunk_words + j)) at _ word (omega arith) (omega arith) (omega arith) (omega arith) (λ e. (let other = differ e in omega arith))

-- all that such a store leaves
pub ruleset kept_by_chunk_word = (tier_head_kept_by_chunk_word, bits_kept_by_chunk_word, slot_kept_by_chunk_word, chunk_word_kept_by_chunk_word)
