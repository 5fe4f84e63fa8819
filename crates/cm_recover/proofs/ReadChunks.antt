-- What is read at a chunk depends on the words of its tier's chunks alone.
use Rattle.std.proofs.Common.{◌≡◌, ℕ, ◌+◌, ◌*◌, ◌<◌, ◌≤◌, List, length, refl, ap, subst, ◌∙◌, arith, inl, inr}
use Rattle.std.proofs.lemmas.Bool.{cases_Bool}
use Rattle.cm_geo.specs.declared.geo.Geo.{Geo}
use Rattle.cm_geo.specs.Addresses.{chunk_at, words_in_segment}
use Rattle.cm_geo.specs.Need.{need, parts_for}
use Rattle.cm_geo.proofs.AddressOrder.{rows_in_order}
use Rattle.cm_geo.proofs.Ranges.{chunk_words_range}
use Rattle.cm_plain.specs.declared.placed.Placed.{Placed}
use Rattle.cm_plain.specs.States.{HasRun}
use Rattle.cm_plain.specs.Slots.{word_at}
use Rattle.cm_plain.specs.Readings.{Stands, bytes_at, bytes_of, key_bytes, key_len, lengths_fit, reading_at, reading_of, value_bytes, value_len}
use Rattle.cm_plain.proofs.Apart.{chunks_some}
use Rattle.cm_plain.proofs.EntryWords.{words_within}
use Rattle.cm_entry.proofs.VerdictCases.{AreFit, are_fit, words_fit}
use Rattle.cm_entry.proofs.WordStores.{part_same}
use Rattle.cm_recover.proofs.Frames.{DiffersIn, chunk_left}

-- the words of the chunks of a tier are the same
abbrev pub SameTier : Geo → ℕ → List ℕ → List ℕ → Type 0
SameTier geo place old words = (offset : ℕ) → offset < geo.chunks * geo.chunk_words
    → word_at words (chunk_at geo place 0 + offset) ≡ word_at old (chunk_at geo place 0 + offset)

module _ (geo : Geo) (old words : List ℕ) (place chunk : ℕ) (old_long : length old ≡ words_in_segment geo)
    (long : length words ≡ words_in_segment geo)
    (low : place < geo.tiers) (below : chunk < geo.chunks) (same : SameTier geo place old words) where
  -- a word behind the chunk's first one, in the tier's chunks
  same_at : (offset : ℕ) → chunk * geo.chunk_words + offset < geo.chunks * geo.chunk_words
      → word_at words (chunk_at geo place chunk + offset) ≡ word_at old (chunk_at geo place chunk + offset)
  unfolding chunk_at
  same_at offset inside =
      let e : chunk_at geo place 0 + (chunk * geo.chunk_words + offset) ≡ chunk_at geo place chunk + offset = omega arith in
      subst (λ (n : ℕ). word_at words n ≡ word_at old n) e (same (chunk * geo.chunk_words + offset) inside)

  within : (chunks : ℕ) → chunk + chunks ≤ geo.chunks → chunk * geo.chunk_words + chunks * geo.chunk_words ≤ geo.chunks * geo.chunk_words
  within chunks inside = omega (arith, rows_in_order chunks geo.chunk_words chunk geo.chunks inside)

  first : word_at words (chunk_at geo place chunk) ≡ word_at old (chunk_at geo place chunk)
  first =
      let e : chunk_at geo place chunk + 0 ≡ chunk_at geo place chunk = omega arith in
      subst (λ (n : ℕ). word_at words n ≡ word_at old n) e (same_at 0 (omega (arith, within 1 (omega arith), (chunk_words_range geo).0)))

  second : word_at words (chunk_at geo place chunk + 1) ≡ word_at old (chunk_at geo place chunk + 1)
  second = same_at 1 (omega (arith, within 1 (omega arith), (chunk_words_range geo).0))

  -- the bytes of words among those of an entry
  bytes_same : (key value from count : ℕ) → AreFit geo chunk key value → from + count ≤ parts_for 8 key + parts_for 8 value
      → bytes_at geo words place chunk from count ≡ bytes_at geo old place chunk from count
  bytes_same key value from count fit inside =
      let at : ℕ = chunk_at geo place chunk in
      let enough : 2 + parts_for 8 key + parts_for 8 value ≤ need geo key value *
      geo.chunk_words = words_within (2 + parts_for 8 key + parts_for 8 value) geo.chunk_words (omega (arith, (chunk_words_range geo).0)) in
      let rows = within (need geo key value) fit.inside in
      let all = words_fit geo place chunk key value low fit in
      ap bytes_of (part_same words old (at + 2 + from) count (omega (arith, all, long)) (omega (arith, all, old_long))
      (λ k k_below. moved at from k (same_at (2 + from + k) (omega (arith, enough, rows)))))
    where
      moved : (at from k : ℕ) → word_at words (at + (2 + from + k)) ≡ word_at old (at + (2 + from + k))
          → word_at words (at + 2 + from + k) ≡ word_at old (at + 2 + from + k)
      moved at from k h = (let e : at + (2 + from + k) ≡ at + 2 + from + k = omega arith in subst (λ (n : ℕ). word_at words n ≡ word_at old n) e h)

  reading_by : (head : ℕ) → reading_of geo chunk head (word_at words (chunk_at geo place chunk + 1)) (key_bytes geo words place chunk head)
      (value_bytes geo words place chunk head)
      ≡ reading_of geo chunk head (word_at old (chunk_at geo place chunk + 1)) (key_bytes geo old place chunk head)
      (value_bytes geo old place chunk head)
  reading_by head = elim (cases_Bool (lengths_fit geo chunk head)) [
    | inl fits ↦
        (let fit = are_fit geo chunk head fits in
        let keys : key_bytes geo words place chunk head ≡ key_bytes geo old place chunk head = bytes_same (key_len head) (value_len head) 0
        (parts_for 8 (key_len head)) fit (omega arith) in
        let values : value_bytes geo words place chunk head ≡ value_bytes geo old place chunk head =
        bytes_same (key_len head) (value_len head) (parts_for 8 (key_len head)) (parts_for 8 (value_len head)) fit (omega arith) in
        rw (second, keys, values) refl)
    | inr fails ↦ rw fails refl
  ]

  pub reading_left : reading_at geo words place chunk ≡ reading_at geo old place chunk
  unfolding reading_at
  reading_left = rw first (reading_by (word_at old (chunk_at geo place chunk)))

-- an entry stands where the chunks of its tier are as before
pub stands_left : (geo : Geo) (tier : ℕ) (start words : List ℕ) (placed : Placed) → length start ≡ words_in_segment geo → placed.place < geo.tiers
    → HasRun geo placed → DiffersIn geo tier start words
    → Stands geo start placed → Stands geo words placed
stands_left geo tier start words placed long low run left stands =
    reading_left geo start words placed.place placed.chunk long (left.length_is ∙ long) low (omega (arith, run.inside, chunks_some geo placed))
    (λ offset below. chunk_left geo tier start words placed.place offset left below) ∙ stands
