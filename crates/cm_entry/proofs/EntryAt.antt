-- What is known of a chunk at which an entry stands: its lengths, and where its key and its value stand.
use Rattle.std.proofs.Common.{◌≡◌, ℕ, ◌+◌, ◌*◌, ◌<◌, ◌≤◌, List, length, get_or, take, drop, arith, refl, ap, sym, ◌∙◌}
use Rattle.cm_geo.specs.declared.geo.Geo.{Geo}
use Rattle.cm_geo.specs.Addresses.{chunk_at, words_in_segment}
use Rattle.cm_geo.specs.Need.{parts_for}
use Rattle.cm_geo.proofs.AddressOrder.{chunks_behind_head, tier_behind_head}
use Rattle.cm_plain.specs.declared.reply.Pair.{Pair}
use Rattle.cm_plain.specs.Readings.{bytes_of, entry, key_bytes, key_len, reading_at, value_bytes, value_len}
use Rattle.cm_plain.specs.Slots.{word_at}
use Rattle.cm_plain.proofs.Padding.{IsRead, is_read}
use Rattle.cm_words.specs.Memory.{FitsNotes, MemSeen}
use Rattle.cm_words.specs.Effects.{Knows}
use Rattle.cm_entry.specs.declared.span.Span.{Span}
use Rattle.cm_entry.specs.Spans.{AreLengths, IsSpanOf, bytes_from}
use Rattle.cm_entry.proofs.SpanWords.{span_len}
use Rattle.cm_entry.proofs.VerdictCases.{AreFit, are_fit, words_fit}

-- the lengths of an entry, and where its key and its value stand
pub record IsHere (geo : Geo) (words : List ℕ) (place chunk head : ℕ) (pair : Pair) : Type 0 where
  pub fit : AreFit geo chunk (key_len head) (value_len head)
  pub inside : chunk_at geo place chunk + 2 + parts_for 8 (key_len head) + parts_for 8 (value_len head) ≤ words_in_segment geo
  pub key_is : bytes_from words (chunk_at geo place chunk + 2) (key_len head) (parts_for 8 (key_len head)) ≡ pair.key
  pub value_is : bytes_from words (chunk_at geo place chunk + 2 + parts_for 8 (key_len head)) (value_len head) (parts_for 8 (value_len head)) ≡ pair.value
  pub key_len_is : key_len head ≡ length pair.key
  pub value_len_is : value_len head ≡ length pair.value

read_at : (geo : Geo) (words : List ℕ) (place chunk : ℕ) (pair : Pair) → reading_at geo words place chunk ≡ entry pair
    → IsRead geo chunk (word_at words (chunk_at geo place chunk)) (word_at words (chunk_at geo place chunk + 1))
    (key_bytes geo words place chunk (word_at words (chunk_at geo place chunk))) (value_bytes geo words place chunk (word_at words (chunk_at geo place chunk))) pair
unfolding reading_at
read_at geo words place chunk pair e =
    is_read geo chunk (word_at words (chunk_at geo place chunk)) (word_at words (chunk_at geo place chunk + 1))
    (key_bytes geo words place chunk (word_at words (chunk_at geo place chunk))) (value_bytes geo words place chunk (word_at words (chunk_at geo place chunk))) pair e

-- the bytes of a span are the first ones of its words
span_is : (words : List ℕ) (at len : ℕ) → bytes_from words at len (parts_for 8 len) ≡ take len (bytes_of (take (parts_for 8 len) (drop at words)))
unfolding bytes_from
span_is words at len = refl

holds : (len : ℕ) → len ≤ 8 * parts_for 8 len
holds len = omega arith

plus_none : (n : ℕ) → n ≡ n + 0
plus_none n = omega arith

is_here : (geo : Geo) (words : List ℕ) (place chunk head sum : ℕ) (pair : Pair) → place < geo.tiers → length words ≡ words_in_segment geo
    → IsRead geo chunk head sum (key_bytes geo words place chunk head) (value_bytes geo words place chunk head) pair → IsHere geo words place chunk head pair
is_here geo words place chunk head sum pair place_below long read =
    let fit = are_fit geo chunk head read.fit in
    let inside = words_fit geo place chunk (key_len head) (value_len head) place_below fit in
    let key_is : bytes_from words (chunk_at geo place chunk + 2) (key_len head) (parts_for 8 (key_len head)) ≡ pair.key =
    span_is words (chunk_at geo place chunk + 2) (key_len head)
    ∙ (ap (λ (n : ℕ). take (key_len head) (bytes_of (take (parts_for 8 (key_len head)) (drop n words)))) (plus_none (chunk_at geo place chunk + 2)) ∙ sym read.key_is) in
    let value_is : bytes_from words (chunk_at geo place chunk + 2 + parts_for 8 (key_len head)) (value_len head) (parts_for 8 (value_len head)) ≡ pair.value =
    span_is words (chunk_at geo place chunk + 2 + parts_for 8 (key_len head)) (value_len head) ∙ sym read.value_is in
    record {
      fit = fit;
      inside = inside;
      key_is = key_is;
      value_is = value_is;
      key_len_is =
          sym (span_len words (chunk_at geo place chunk + 2) (key_len head) (parts_for 8 (key_len head)) (omega (arith, inside, long)) (holds (key_len head))) ∙ ap (λ (bs : List ℕ). length bs) key_is;
      value_len_is =
          sym (span_len words (chunk_at geo place chunk + 2 + parts_for 8 (key_len head)) (value_len head) (parts_for 8 (value_len head)) (omega (arith, inside, long)) (holds (value_len head)))
          ∙ ap (λ (bs : List ℕ). length bs) value_is;
    }

pub entry_here : (geo : Geo) (words : List ℕ) (place chunk : ℕ) (pair : Pair) → place < geo.tiers → length words ≡ words_in_segment geo → reading_at geo words place chunk ≡ entry pair
    → IsHere geo words place chunk (word_at words (chunk_at geo place chunk)) pair
entry_here geo words place chunk pair place_below long e =
    is_here geo words place chunk (word_at words (chunk_at geo place chunk)) (word_at words (chunk_at geo place chunk + 1)) pair place_below long (read_at geo words place chunk pair e)

-- the word that was loaded
pub loaded_head : (m : MemSeen) (geo : Geo) (place chunk at head : ℕ) → at ≡ chunk_at geo place chunk → Knows m at head → (words : List ℕ) → FitsNotes m words → word_at words (chunk_at geo place chunk) ≡ head
loaded_head m geo place chunk at head at_is knows words fits =
    let behind : 0 < at = omega (arith, at_is, chunks_behind_head geo place chunk, tier_behind_head geo place) in
    ap (λ (n : ℕ). get_or words n 0) (sym at_is) ∙ knows.here (λ _. behind) words fits

-- the halves of the first word
pub loaded_lengths : (m : MemSeen) (geo : Geo) (place chunk at head key value : ℕ) → at ≡ chunk_at geo place chunk → Knows m at head → key ≡ key_len head → value ≡ value_len head
    → (words : List ℕ) → FitsNotes m words → AreLengths (word_at words (chunk_at geo place chunk)) key value
loaded_lengths m geo place chunk at head key value at_is knows key_is value_is words fits =
    let here = loaded_head m geo place chunk at head at_is knows words fits in
    record { key_is = key_is ∙ ap (λ (h : ℕ). key_len h) (sym here); value_is = value_is ∙ ap (λ (h : ℕ). value_len h) (sym here) }

-- the lengths of the entry, as the code takes them from the first word
pub entry_lengths : (geo : Geo) (words : List ℕ) (place chunk key value : ℕ) (pair : Pair) → place < geo.tiers → length words ≡ words_in_segment geo → AreLengths (word_at words (chunk_at geo place chunk)) key value
    → reading_at geo words place chunk ≡ entry pair → (key ≡ length pair.key) × (value ≡ length pair.value)
entry_lengths geo words place chunk key value pair place_below long are e =
    let here = entry_here geo words place chunk pair place_below long e in
    (are.key_is ∙ here.key_len_is, are.value_is ∙ here.value_len_is)

-- where the key stands
pub key_stands : (geo : Geo) (words : List ℕ) (place chunk at key value : ℕ) (span : Span) (pair : Pair) → place < geo.tiers → length words ≡ words_in_segment geo → AreLengths (word_at words (chunk_at geo place chunk)) key value
    → reading_at geo words place chunk ≡ entry pair → at ≡ chunk_at geo place chunk
    → (key ≤ 256 → at + 2 + parts_for 8 key ≤ words_in_segment geo → span ≡ record { at = at + 2; len = key }) → IsSpanOf words span pair.key
key_stands geo words place chunk at key value span pair place_below long are e at_is whole =
    let here = entry_here geo words place chunk pair place_below long e in
    let key_is : key ≡ key_len (word_at words (chunk_at geo place chunk)) = are.key_is in
    let span_is : span ≡ record { at = at + 2; len = key } = whole (omega (arith, key_is, here.fit.key_short)) (rw (key_is, at_is) (omega (arith, here.inside))) in
    rw (span_is, key_is, at_is) (record { len_is = here.key_len_is; bytes_are = here.key_is })

-- where the value stands
pub value_stands : (geo : Geo) (words : List ℕ) (place chunk at parts key value : ℕ) (span : Span) (pair : Pair) → place < geo.tiers → length words ≡ words_in_segment geo
    → AreLengths (word_at words (chunk_at geo place chunk)) key value → reading_at geo words place chunk ≡ entry pair → at ≡ chunk_at geo place chunk → parts ≡ parts_for 8 key
    → (value ≤ 4096 → at + 2 + parts + parts_for 8 value ≤ words_in_segment geo → span ≡ record { at = at + 2 + parts; len = value }) → IsSpanOf words span pair.value
value_stands geo words place chunk at parts key value span pair place_below long are e at_is parts_are whole =
    let here = entry_here geo words place chunk pair place_below long e in
    let key_is : key ≡ key_len (word_at words (chunk_at geo place chunk)) = are.key_is in
    let value_is : value ≡ value_len (word_at words (chunk_at geo place chunk)) = are.value_is in
    let span_is : span ≡ record { at = at + 2 + parts; len = value } =
    whole (omega (arith, value_is, here.fit.value_short)) (rw (parts_are, key_is, value_is, at_is) here.inside) in
    rw (span_is, parts_are, key_is, value_is, at_is) (record { len_is = here.value_len_is; bytes_are = here.value_is })
