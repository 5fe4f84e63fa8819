-- No word of a segment has two roles.
use Rattle.std.proofs.Common.{◌≡◌, ◌≢◌, ℕ, ◌+◌, ◌*◌, ◌/◌, ◌<◌, ◌≤◌, ◌⊎◌, ⊎_elim, inl, inr, arith}
use Rattle.std.proofs.lemmas.Bool.{cases_lt}
use Rattle.std.proofs.lemmas.Nat.{same_from_place}
use Rattle.cm_geo.specs.declared.geo.Geo.{Geo}
use Rattle.cm_geo.specs.Addresses.{words_in_tier, words_in_segment, tier_at, bits_at, slot_at, chunk_at}
use Rattle.cm_geo.proofs.AddressOrder.{rows_in_order, tiers_in_order, run_within}

-- a word of a tier has one place and one offset
pub same_offset : (geo : Geo) (p q i j : ℕ) → i < words_in_tier geo → j < words_in_tier geo → tier_at geo p + i ≡ tier_at geo q + j → (p ≡ q) × (i ≡ j)
unfolding tier_at
same_offset geo p q i j i_below j_below same = same_from_place p i q j (words_in_tier geo) i_below j_below (omega arith)

-- ---- the same role

-- a head word of a tier is one place's
pub same_tier_head : (geo : Geo) (p q i j : ℕ) → i < 4 → j < 4 → tier_at geo p + i ≡ tier_at geo q + j → (p ≡ q) × (i ≡ j)
unfolding words_in_tier
same_tier_head geo p q i j i_below j_below same = same_offset geo p q i j (omega arith) (omega arith) same

-- a word of bits is one place's, and one of its words
pub same_bits : (geo : Geo) (p q i j : ℕ) → i < geo.chunks / 64 → j < geo.chunks / 64 → bits_at geo p i ≡ bits_at geo q j → (p ≡ q) × (i ≡ j)
unfolding bits_at words_in_tier
same_bits geo p q i j i_below j_below same =
    let both = same_offset geo p q (4 + i) (4 + j) (omega arith) (omega arith) (omega arith) in
    omega arith

-- a slot is one place's, and one of its slots
pub same_slot : (geo : Geo) (p q i j : ℕ) → i < 2 * geo.chunks → j < 2 * geo.chunks → slot_at geo p i ≡ slot_at geo q j → (p ≡ q) × (i ≡ j)
unfolding slot_at words_in_tier
same_slot geo p q i j i_below j_below same =
    let both = same_offset geo p q (4 + geo.chunks / 64 + i) (4 + geo.chunks / 64 + j) (omega arith) (omega arith) (omega arith) in
    omega arith

-- the offset of a word of a run of chunks is within the tier
run_offset : (geo : Geo) (chunk chunks word : ℕ) → chunk + chunks ≤ geo.chunks → word < chunks * geo.chunk_words → 4 + geo.chunks / 64 + 2 * geo.chunks + chunk * geo.chunk_words + word < words_in_tier geo
unfolding chunk_at
run_offset geo chunk chunks word within below = omega (arith, run_within geo 0 chunk chunks within)

-- a word of the chunks is one place's, and one word of one chunk
pub same_chunk_word : (geo : Geo) (p q c d i j : ℕ) → c < geo.chunks → d < geo.chunks → i < geo.chunk_words → j < geo.chunk_words → chunk_at geo p c + i ≡ chunk_at geo q d + j → (p ≡ q) × (c ≡ d) × (i ≡ j)
unfolding chunk_at
same_chunk_word geo p q c d i j c_below d_below i_below j_below same =
    let one = run_offset geo c 1 i (omega arith) (omega arith) in
    let other = run_offset geo d 1 j (omega arith) (omega arith) in
    let both = same_offset geo p q _ _ one other (omega arith) in
    let place = same_from_place c i d j geo.chunk_words i_below j_below (omega arith) in
    omega arith

-- ---- different ranges

-- segments do not meet, in the words of the whole map
pub segments_apart : (geo : Geo) (s t i j : ℕ) → i < words_in_segment geo → j < words_in_segment geo → s ≢ t → s * words_in_segment geo + i ≢ t * words_in_segment geo + j
segments_apart geo s t i j i_below j_below differ same =
    let both = same_from_place s i t j (words_in_segment geo) i_below j_below same in
    differ both.0

-- tiers at different places do not meet: one ends where the other begins, or before
pub tiers_apart : (geo : Geo) (p q : ℕ) → p ≢ q → (tier_at geo p + words_in_tier geo ≤ tier_at geo q) ⊎ (tier_at geo q + words_in_tier geo ≤ tier_at geo p)
tiers_apart geo p q differ =
    ⊎_elim (λ before. inl (tiers_in_order geo p q before))
    (λ behind. inr (tiers_in_order geo q p (omega arith)))
    (cases_lt p q)

-- words of tiers at different places
pub tier_words_apart : (geo : Geo) (p q i j : ℕ) → i < words_in_tier geo → j < words_in_tier geo → p ≢ q → tier_at geo p + i ≢ tier_at geo q + j
tier_words_apart geo p q i j i_below j_below differ same =
    let both = same_offset geo p q i j i_below j_below same in
    differ both.0

-- ---- different words of one role

-- head words of different tiers, or different ones of a tier
pub tier_heads_apart : (geo : Geo) (p q i j : ℕ) → i < 4 → j < 4 → (p ≡ q → i ≢ j) → tier_at geo p + i ≢ tier_at geo q + j
tier_heads_apart geo p q i j i_below j_below differ same =
    let both = same_tier_head geo p q i j i_below j_below same in
    differ both.0 both.1

-- words of bits of different tiers, or different ones of a tier
pub bits_apart : (geo : Geo) (p q i j : ℕ) → i < geo.chunks / 64 → j < geo.chunks / 64 → (p ≡ q → i ≢ j) → bits_at geo p i ≢ bits_at geo q j
bits_apart geo p q i j i_below j_below differ same =
    let both = same_bits geo p q i j i_below j_below same in
    differ both.0 both.1

-- slots of different tiers, or different ones of a tier
pub slots_apart : (geo : Geo) (p q i j : ℕ) → i < 2 * geo.chunks → j < 2 * geo.chunks → (p ≡ q → i ≢ j) → slot_at geo p i ≢ slot_at geo q j
slots_apart geo p q i j i_below j_below differ same =
    let both = same_slot geo p q i j i_below j_below same in
    differ both.0 both.1

-- words of runs of chunks of different tiers, or of runs of a tier that do not meet
pub runs_apart : (geo : Geo) (p q c n d m i j : ℕ) → c + n ≤ geo.chunks → d + m ≤ geo.chunks → i < n * geo.chunk_words → j < m * geo.chunk_words → (p ≡ q → (c + n ≤ d) ⊎ (d + m ≤ c)) → chunk_at geo p c + i ≢ chunk_at geo q d + j
unfolding chunk_at
runs_apart geo p q c n d m i j c_within d_within i_below j_below apart same =
    let one = run_offset geo c n i c_within i_below in
    let other = run_offset geo d m j d_within j_below in
    let both = same_offset geo p q _ _ one other (omega arith) in
    ⊎_elim (λ before. omega (arith, rows_in_order n geo.chunk_words c d before)) (λ after. omega (arith, rows_in_order m geo.chunk_words d c after)) (apart both.0)

-- ---- different roles

-- a word of bits is no head word of a tier
pub bits_not_tier_head : (geo : Geo) (p q i j : ℕ) → i < geo.chunks / 64 → j < 4 → bits_at geo p i ≢ tier_at geo q + j
unfolding bits_at words_in_tier
bits_not_tier_head geo p q i j i_below j_below same =
    let both = same_offset geo p q (4 + i) j (omega arith) (omega arith) (omega arith) in
    omega arith

-- a slot is no head word of a tier
pub slot_not_tier_head : (geo : Geo) (p q i j : ℕ) → i < 2 * geo.chunks → j < 4 → slot_at geo p i ≢ tier_at geo q + j
unfolding slot_at words_in_tier
slot_not_tier_head geo p q i j i_below j_below same =
    let both = same_offset geo p q (4 + geo.chunks / 64 + i) j (omega arith) (omega arith) (omega arith) in
    omega arith

-- a slot is no word of bits
pub slot_not_bits : (geo : Geo) (p q i j : ℕ) → i < 2 * geo.chunks → j < geo.chunks / 64 → slot_at geo p i ≢ bits_at geo q j
unfolding slot_at bits_at words_in_tier
slot_not_bits geo p q i j i_below j_below same =
    let both = same_offset geo p q (4 + geo.chunks / 64 + i) (4 + j) (omega arith) (omega arith) (omega arith) in
    omega arith

-- a word of a run of chunks is no head word of a tier
pub run_not_tier_head : (geo : Geo) (p q c n i j : ℕ) → c + n ≤ geo.chunks → i < n * geo.chunk_words → j < 4 → chunk_at geo p c + i ≢ tier_at geo q + j
unfolding chunk_at words_in_tier
run_not_tier_head geo p q c n i j within i_below j_below same =
    let both = same_offset geo p q _ j (run_offset geo c n i within i_below) (omega arith) (omega arith) in
    omega arith

-- a word of a run of chunks is no word of bits
pub run_not_bits : (geo : Geo) (p q c n i j : ℕ) → c + n ≤ geo.chunks → i < n * geo.chunk_words → j < geo.chunks / 64 → chunk_at geo p c + i ≢ bits_at geo q j
unfolding chunk_at bits_at words_in_tier
run_not_bits geo p q c n i j within i_below j_below same =
    let both = same_offset geo p q _ (4 + j) (run_offset geo c n i within i_below) (omega arith) (omega arith) in
    omega arith

-- a word of a run of chunks is no slot
pub run_not_slot : (geo : Geo) (p q c n i j : ℕ) → c + n ≤ geo.chunks → i < n * geo.chunk_words → j < 2 * geo.chunks → chunk_at geo p c + i ≢ slot_at geo q j
unfolding chunk_at slot_at words_in_tier
run_not_slot geo p q c n i j within i_below j_below same =
    let both = same_offset geo p q _ (4 + geo.chunks / 64 + j) (run_offset geo c n i within i_below) (omega arith) (omega arith) in
    omega arith
