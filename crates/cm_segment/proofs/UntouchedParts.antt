-- Entries, counts and bits that stores leave.
use Rattle.cm_plain.proofs.EntryWords.{words_within}
use Rattle.cm_entry.proofs.StoredEntries.{EntryWords, inside_run, stood, words_stand}
use Rattle.cm_entry.proofs.WordStores.{part_same}
use Rattle.std.specs.List.{AllByRecursion}
use Rattle.std.proofs.Common.{◌≡◌, ◌≢◌, ℕ, ◌+◌, ◌*◌, ◌/◌, ◌%◌, ◌<◌, ◌≤◌, ◌⊎◌, ◌↔◌, [], ◌∷◌, slice_set, get_or-set_other, IsBitSet, List, length, refl, sym, subst, ap, ◌∙◌, arith}
use Rattle.cm_geo.specs.declared.geo.Geo.{Geo}
use Rattle.cm_geo.specs.Addresses.{bits_at, chunk_at, words_in_segment, words_in_tier}
use Rattle.cm_geo.specs.Need.{need, parts_for}
use Rattle.cm_geo.proofs.AddressesApart.{same_offset}
use Rattle.cm_geo.proofs.Ranges.{chunk_words_range, chunks_whole}
use Rattle.cm_geo.proofs.AddressOrder.{rows_in_order, tier_behind_head}
use Rattle.cm_plain.specs.declared.placed.Placed.{Placed}
use Rattle.cm_plain.specs.States.{HasRun, chunks_of}
use Rattle.cm_plain.specs.Readings.{Stands, bytes_of, HasEntry}
use Rattle.cm_plain.specs.Slots.{word_at}
use Rattle.cm_entry.specs.EntryStores.{HasRoom}
use Rattle.cm_plain.specs.declared.plan.Run.{Run}
use Rattle.cm_plain.specs.Lawful.{HasBit}
use Rattle.cm_words.specs.Stores.{WordStore, after_stores}
use Rattle.cm_chunks.specs.RunBits.{IsInRun}
use Rattle.cm_segment.specs.Counts.{IsCountAt}
use Rattle.cm_segment.specs.Counts.IsCountAt.{of_segment, of_tier}
use Rattle.cm_segment.specs.Frames.{DiffersAt, HasSameBits, IsBitWord, IsChunkWord, chunk_offset}
use Rattle.cm_segment.specs.PlacementStages.{AddsBits}
use Rattle.cm_segment.proofs.Frames.{IsTouchedAt, bits_left, chunk_left}

-- an entry stands where its words are as before
entry_left : (geo : Geo) (start words : List ℕ) (place chunk : ℕ) (key value : List ℕ) → length start ≡ words_in_segment geo → length words ≡ length start
    → HasRoom geo place chunk key value
    → ((j : ℕ) → j < need geo (length key) (length value) * geo.chunk_words → word_at words (chunk_at geo place chunk + j)
    ≡ word_at start (chunk_at geo place chunk + j))
    → HasEntry geo start place chunk key value → HasEntry geo words place chunk key value
entry_left geo start words place chunk key value begun long room same has =
    let at : ℕ = chunk_at geo place chunk in
    let pk : ℕ = parts_for 8 (length key) in
    let pv : ℕ = parts_for 8 (length value) in
    let some : 1 ≤ geo.chunk_words = omega (arith, (chunk_words_range geo).0) in
    let enough : 2 + pk + pv ≤ need geo (length key) (length value) * geo.chunk_words = words_within (2 + pk + pv) geo.chunk_words some in
    let inside = inside_run geo place chunk (length key) (length value) room.place_low room.run in
    let before : EntryWords start at key value = stood geo start place chunk key value begun room.place_low has in
    words_stand geo words place chunk key value room (record {
      head = first at (need geo (length key) (length value) * geo.chunk_words) pk pv enough same ∙ before.head;
      stored_checksum = same 1 (second pk pv (need geo (length key) (length value) * geo.chunk_words) enough) ∙ before.stored_checksum;
      key_words = ap bytes_of (part_same words start (at + 2) pk
          (room_in at 2 pk pv (words_in_segment geo) (length words) (long ∙ begun) (ordered at pk pv (words_in_segment geo) inside))
          (room_in at 2 pk pv (words_in_segment geo) (length start) begun (ordered at pk pv (words_in_segment geo) inside))
          (λ k below. moved at 2 k (same (2 + k) (third pk pv k (need geo (length key) (length value) * geo.chunk_words) enough below)))) ∙ before.key_words;
      value_words = ap bytes_of (part_same words start (at + 2 + pk) pv (behind_in at pk pv (words_in_segment geo) (length words) (long ∙ begun) inside)
          (behind_in at pk pv (words_in_segment geo) (length start) begun inside)
          (λ k below. moved_two at pk k (same (2 + pk + k) (fourth pk pv k (need geo (length key) (length value) * geo.chunk_words) enough below))))
          ∙ before.value_words;
    })
  where
    first : (at size pk pv : ℕ) → 2 + pk + pv ≤ size → ((j : ℕ) → j < size → word_at words (at + j) ≡ word_at start (at + j))
        → word_at words at ≡ word_at start at
    first at size pk pv enough same = (let e : at + 0 ≡ at = omega arith in subst (λ (n : ℕ). word_at words n ≡ word_at start n) e (same 0 (omega arith)))

    second : (pk pv size : ℕ) → 2 + pk + pv ≤ size → 1 < size
    second pk pv size h = omega arith

    third : (pk pv k size : ℕ) → 2 + pk + pv ≤ size → k < pk → 2 + k < size
    third pk pv k size h b = omega arith

    fourth : (pk pv k size : ℕ) → 2 + pk + pv ≤ size → k < pv → 2 + pk + k < size
    fourth pk pv k size h b = omega arith

    ordered : (at pk pv n : ℕ) → at + 2 + pk + pv ≤ n → at + 2 + pk ≤ n
    ordered at pk pv n h = omega arith

    room_in : (at two pk pv n m : ℕ) → m ≡ n → at + two + pk ≤ n → at + two + pk ≤ m
    room_in at two pk pv n m e h = omega arith

    behind_in : (at pk pv n m : ℕ) → m ≡ n → at + 2 + pk + pv ≤ n → at + 2 + pk + pv ≤ m
    behind_in at pk pv n m e h = omega arith

    moved : (at two k : ℕ) → word_at words (at + (two + k)) ≡ word_at start (at + (two + k)) → word_at words (at + two + k) ≡ word_at start (at + two + k)
    moved at two k h = (let e : at + (two + k) ≡ at + two + k = omega arith in subst (λ (n : ℕ). word_at words n ≡ word_at start n) e h)

    moved_two : (at pk k : ℕ) → word_at words (at + (2 + pk + k)) ≡ word_at start (at + (2 + pk + k))
        → word_at words (at + 2 + pk + k) ≡ word_at start (at + 2 + pk + k)
    moved_two at pk k h = (let e : at + (2 + pk + k) ≡ at + 2 + pk + k = omega arith in subst (λ (n : ℕ). word_at words n ≡ word_at start n) e h)

-- an entry that no store touched stands as before
pub stands_left : (geo : Geo) (touched : ℕ → ℕ → Type 0) (start words : List ℕ) (placed : Placed) → length start ≡ words_in_segment geo
    → placed.place < geo.tiers → HasRun geo placed → DiffersAt geo touched start words
    → ((i : ℕ) → IsChunkWord geo placed.chunk (chunks_of geo placed) i → touched placed.place i → ⊥) → Stands geo start placed → Stands geo words placed
stands_left geo touched start words placed begun low run left out stands =
    entry_left geo start words placed.place placed.chunk placed.key placed.value begun left.length_is
    (record { place_low = low; fits = run.fits; run = run.inside })
    (λ j below. chunk_left geo touched start words placed.place placed.chunk (chunks_of geo placed) j left run.inside below
    (out (chunk_offset geo placed.chunk + j) (within j below))) stands
  where
    within : (j : ℕ) → j < chunks_of geo placed * geo.chunk_words → IsChunkWord geo placed.chunk (chunks_of geo placed) (chunk_offset geo placed.chunk + j)
    within j below = (let rows = rows_in_order (chunks_of geo placed) geo.chunk_words placed.chunk (placed.chunk + chunks_of geo placed) (omega arith) in
        record { from = omega arith; to = omega arith })

-- ---- counts

-- the word of a count is none of such words
count_apart : (geo : Geo) (place : ℕ) (touched : ℕ → ℕ → Type 0) (at to : ℕ) → IsCountAt geo place at → IsTouchedAt geo touched to → (touched place 1 → ⊥)
    → at ≢ to
unfolding words_in_tier
count_apart geo place touched at to (of_tier e) is out same =
    let both = same_offset geo is.place place is.offset 1 is.inside (omega arith) (omega (arith, e, is.at_is, same)) in
    out (subst (λ (p : ℕ). touched p 1) both.0 (subst (λ (i : ℕ). touched is.place i) both.1 is.touches))
count_apart geo place touched at to (of_segment e) is out same = omega (arith, e, is.at_is, same, tier_behind_head geo is.place)

-- stores at such words leave it
pub counts_left : (geo : Geo) (place : ℕ) (touched : ℕ → ℕ → Type 0) (words : List ℕ) (stores : List WordStore) (at : ℕ) → IsCountAt geo place at
    → (touched place 1 → ⊥)
    → AllByRecursion (λ store. IsTouchedAt geo touched store.at) stores → word_at (after_stores words stores) at ≡ word_at words at
counts_left geo place touched words [] at is out each = refl
counts_left geo place touched words (store ∷ stores) at is out each =
    counts_left geo place touched (slice_set words store.at store.word) stores at is out each.1
    ∙ get_or-set_other words store.at at store.word 0 (count_apart geo place touched at store.at is each.0 out)

-- ---- bits

-- the word of a chunk's bit, which is none of such words
pub bit_word_left : (geo : Geo) (touched : ℕ → ℕ → Type 0) (words later : List ℕ) (place chunk : ℕ) → DiffersAt geo touched words later → chunk < geo.chunks
    → ((offset : ℕ) → IsBitWord geo offset → touched place offset → ⊥)
    → word_at later (bits_at geo place (chunk / 64)) ≡ word_at words (bits_at geo place (chunk / 64))
bit_word_left geo touched words later place chunk left below out =
    let number : chunk / 64 < geo.chunks / 64 = omega (arith, (chunks_whole geo).1) in
    bits_left geo touched words later place (chunk / 64) left number (out (4 + chunk / 64) (record { from = omega arith; to = omega arith }))

-- so the bits that were set stay
pub added_bits_left : (geo : Geo) (run : Run) (touched : ℕ → ℕ → Type 0) (start words later : List ℕ) → DiffersAt geo touched words later
    → ((place offset : ℕ) → IsBitWord geo offset → touched place offset → ⊥)
    → AddsBits geo run start words → AddsBits geo run start later
added_bits_left geo run touched start words later left out adds place chunk below =
    subst (λ (w : ℕ). IsBitSet w (chunk % 64) ↔ (IsInRun run place chunk ⊎ HasBit geo start place chunk))
    (sym (bit_word_left geo touched words later place chunk left below (out place))) (adds place chunk below)

-- and all bits are as before
pub all_bits_left : (geo : Geo) (touched : ℕ → ℕ → Type 0) (words later : List ℕ) → DiffersAt geo touched words later
    → ((place offset : ℕ) → IsBitWord geo offset → touched place offset → ⊥) → HasSameBits geo words later
all_bits_left geo touched words later left out place chunk below =
    let same = bit_word_left geo touched words later place chunk left below (out place) in
    (λ h. subst (λ (w : ℕ). IsBitSet w (chunk % 64)) same h, λ h. subst (λ (w : ℕ). IsBitSet w (chunk % 64)) (sym same) h)
