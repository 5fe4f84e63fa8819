-- The verdict on what is read at a chunk.
use Rattle.std.proofs.Common.{◌≡◌, ◌≢◌, ℕ, ◌+◌, ◌-◌, ◌*◌, ◌%◌, ◌<◌, ◌≤◌, ◌==◌, ◌&&◌, not, Bool, true, false, List, ◌++◌, length, get_or, take, drop, arith, refl, ap, sym, ◌∙◌, subst, eq-eqb, ne_eqb, mod-lt, append_assoc}
use Rattle.std.specs.List.{fold}
use Rattle.std.specs.Int.{to_le_bytes, w64}
use Rattle.std.proofs.lemmas.Bool.Decides.{nat_tests}
use Rattle.std.proofs.lemmas.Grind.{common_steps}
use Rattle.std.proofs.lemmas.List.{length-take-le}
use Rattle.std.proofs.lemmas.List.Sums.{fold-append}
use Rattle.std.proofs.lemmas.Nat.{div-add-mod'}
use Rattle.cm_geo.specs.declared.geo.Geo.{Geo}
use Rattle.cm_geo.specs.Addresses.{chunk_at, words_in_segment}
use Rattle.cm_geo.specs.Hash.{hash, hash_byte}
use Rattle.cm_geo.specs.Need.{need, parts_for}
use Rattle.cm_geo.proofs.AddressOrder.{chunks_behind_head, run_in_range, tier_behind_head}
use Rattle.cm_geo.proofs.Ranges.{chunk_words_range}
use Rattle.cm_plain.specs.Readings.{bytes_of, checksum, is_padded, key_bytes, key_len, lengths_fit, reading_at, reading_of, value_bytes, value_len}
use Rattle.cm_plain.proofs.Padding.{bytes_len}
use Rattle.cm_words.specs.declared.access.Access.TheVariants.{Closed}
use Rattle.cm_words.specs.Memory.{FitsNotes, MemSeen, Setting}
use Rattle.cm_words.specs.Effects.{Reads, Knows}
use Rattle.cm_entry.specs.declared.checksum.WordsHash.{WordsHash}
use Rattle.cm_entry.specs.declared.verdict.Verdict.{Verdict}
use Rattle.cm_entry.specs.declared.verdict.Verdict.TheVariants.{Checksum, Good, Lengths, Padding}
use Rattle.cm_entry.specs.Hashes.{IsEntryHash, IsWordsHash, whole_bytes}
use Rattle.cm_entry.specs.Loading.{IsReadableChunk}
use Rattle.cm_entry.specs.Spans.{AreReadable}
use Rattle.cm_entry.specs.Verdicts.{verdict_of, verdict_words, verdict_words_under}
use Rattle.cm_entry.proofs.SpanWords.{stretch_len}

-- the first two words of a chunk
pub record AreFirst (geo : Geo) (words : List ℕ) (place chunk head stored_checksum : ℕ) : Type 0 where
  pub head_is : get_or words (chunk_at geo place chunk) 0 ≡ head
  pub checksum_is : get_or words (chunk_at geo place chunk + 1) 0 ≡ stored_checksum

-- what is known of lengths that fit
pub record AreFit (geo : Geo) (chunk key value : ℕ) : Type 0 where
  pub key_nonempty : 1 ≤ key
  pub key_short : key ≤ 256
  pub value_short : value ≤ 4096
  pub inside : chunk + need geo key value ≤ geo.chunks

pub are_fit : (geo : Geo) (chunk head : ℕ) → lengths_fit geo chunk head ≡ true → AreFit geo chunk (key_len head) (value_len head)
are_fit geo chunk head fit = record {
  key_nonempty = grind (arith, common_steps, nat_tests);
  key_short = grind (arith, common_steps, nat_tests);
  value_short = grind (arith, common_steps, nat_tests);
  inside = grind (arith, common_steps, nat_tests);
}

-- so many parts hold what they are for
parts_hold : (size whole : ℕ) → 0 < size → whole ≤ parts_for size whole * size
parts_hold size whole nonzero =
    let split : whole + size - 1 ≡ parts_for size whole * size + (whole + size - 1) % size = sym (div-add-mod' (whole + size - 1) size) in
    omega (arith, split, mod-lt (whole + size - 1) nonzero)

-- the words of an entry whose lengths fit are words of the segment
pub words_fit : (geo : Geo) (place chunk key value : ℕ) → place < geo.tiers → AreFit geo chunk key value → chunk_at geo place chunk + 2 + parts_for 8 key + parts_for 8 value ≤ words_in_segment geo
words_fit geo place chunk key value place_below fit =
    omega (arith, run_in_range geo place chunk (need geo key value) place_below fit.inside, parts_hold geo.chunk_words (2 + parts_for 8 key + parts_for 8 value) (omega (arith, chunk_words_range geo)))

-- the hash over the key and the value behind it
pub entry_hash : (words : List ℕ) (at key value parts start : ℕ) (first second : WordsHash) (padded : Bool) → parts ≡ parts_for 8 key → padded ≡ (first.padded && second.padded) → IsWordsHash words at key start first → IsWordsHash words (at + parts) value first.state second
    → IsEntryHash words at key value start (record { state = second.state; padded = padded })
entry_hash words at key value parts start first second padded parts_are both_padded p given =
    let q = subst (λ (n : ℕ). IsWordsHash words (at + n) value first.state second) parts_are given in
    record {
      state_is = q.state_is ∙ (ap (λ (s : ℕ). fold hash_byte s (whole_bytes words (at + parts_for 8 key) value)) p.state_is
          ∙ sym (fold-append hash_byte start (whole_bytes words at key) (whole_bytes words (at + parts_for 8 key) value)));
      padded_is = both_padded ∙ rw (p.padded_is, q.padded_is) refl;
    }

-- ---- the verdict

reading_is : (geo : Geo) (words : List ℕ) (place chunk head stored_checksum : ℕ) → AreFirst geo words place chunk head stored_checksum
    → reading_at geo words place chunk ≡ reading_of geo chunk head stored_checksum (key_bytes geo words place chunk head) (value_bytes geo words place chunk head)
unfolding reading_at
reading_is geo words place chunk head stored_checksum has =
    ap (λ (h : ℕ). reading_of geo chunk h (get_or words (chunk_at geo place chunk + 1) 0) (key_bytes geo words place chunk h) (value_bytes geo words place chunk h)) has.head_is
    ∙ ap (λ (s : ℕ). reading_of geo chunk head s (key_bytes geo words place chunk head) (value_bytes geo words place chunk head)) has.checksum_is

pub verdict_lengths : (geo : Geo) (words : List ℕ) (place chunk head stored_checksum : ℕ) → AreFirst geo words place chunk head stored_checksum → lengths_fit geo chunk head ≡ false → Lengths ≡ verdict_of geo (reading_at geo words place chunk)
verdict_lengths geo words place chunk head stored_checksum has fails = sym (ap (verdict_of geo) (reading_is geo words place chunk head stored_checksum has) ∙ by (key_bytes geo words place chunk head) (value_bytes geo words place chunk head))
  where
    by : (key value : List ℕ) → verdict_of geo (reading_of geo chunk head stored_checksum key value) ≡ Lengths
    by key value = rw fails refl

pub not_true : (b : Bool) → not b ≡ true → b ≡ false
not_true true e = cc
not_true false e = refl

pub not_false : (b : Bool) → not b ≡ false → b ≡ true
not_false true e = refl
not_false false e = cc

-- a checksum that is another one
ends_other : (geo : Geo) (chunk head stored_checksum : ℕ) (key value : List ℕ) → lengths_fit geo chunk head ≡ true → checksum head key value ≢ stored_checksum → verdict_of geo (reading_of geo chunk head stored_checksum key value) ≡ Checksum
ends_other geo chunk head stored_checksum key value fit other = let t : (checksum head key value == stored_checksum) ≡ false = ne_eqb (checksum head key value) stored_checksum other in rw (fit, t) refl

-- padding that isn't zero
ends_unpadded : (geo : Geo) (chunk head stored_checksum : ℕ) (key value : List ℕ) → lengths_fit geo chunk head ≡ true → checksum head key value ≡ stored_checksum → (is_padded (key_len head) key && is_padded (value_len head) value) ≡ false
    → verdict_of geo (reading_of geo chunk head stored_checksum key value) ≡ Padding
ends_unpadded geo chunk head stored_checksum key value fit same fails = let t : (checksum head key value == stored_checksum) ≡ true = eq-eqb (checksum head key value) stored_checksum same in rw (fit, t, fails) refl

-- an entry
ends_good : (geo : Geo) (chunk head stored_checksum : ℕ) (key value : List ℕ) → lengths_fit geo chunk head ≡ true → checksum head key value ≡ stored_checksum → (is_padded (key_len head) key && is_padded (value_len head) value) ≡ true
    → verdict_of geo (reading_of geo chunk head stored_checksum key value) ≡ Good (length (take (key_len head) key)) (length (take (value_len head) value)) (need geo (length (take (key_len head) key)) (length (take (value_len head) value)))
ends_good geo chunk head stored_checksum key value fit same holds = let t : (checksum head key value == stored_checksum) ≡ true = eq-eqb (checksum head key value) stored_checksum same in rw (fit, t, holds) refl

-- the first word, the key and the value behind it, as the code reads them
pub record AreRead (geo : Geo) (words : List ℕ) (place chunk head stored_checksum start : ℕ) (both : WordsHash) : Type 0 where
  pub has : AreFirst geo words place chunk head stored_checksum
  pub fit : lengths_fit geo chunk head ≡ true
  pub start_is : start ≡ hash (to_le_bytes w64 head)
  pub are : IsEntryHash words (chunk_at geo place chunk + 2) (key_len head) (value_len head) start both

-- the hash of the first word's bytes goes on to the checksum
checksum_by : (start head : ℕ) (key value : List ℕ) → start ≡ hash (to_le_bytes w64 head) → fold hash_byte start (key ++ value) ≡ checksum head key value
unfolding hash
checksum_by start head key value is =
    ap (λ (s : ℕ). fold hash_byte s (key ++ value)) is
    ∙ (sym (fold-append hash_byte 0xcbf29ce484222325 (to_le_bytes w64 head) (key ++ value))
    ∙ ap (λ (bs : List ℕ). fold hash_byte 0xcbf29ce484222325 bs) (sym (append_assoc (to_le_bytes w64 head) key value)))

module _ (geo : Geo) (words : List ℕ) (place chunk head stored_checksum start : ℕ) (both : WordsHash) (read : AreRead geo words place chunk head stored_checksum start both) where
  abbrev first : ℕ
  first = chunk_at geo place chunk + 2

  key_same : whole_bytes words (chunk_at geo place chunk + 2) (key_len head) ≡ key_bytes geo words place chunk head
  key_same = ap (λ (n : ℕ). bytes_of (take (parts_for 8 (key_len head)) (drop n words))) (none (chunk_at geo place chunk + 2))
    where
      none : (n : ℕ) → n ≡ n + 0
      none n = omega arith

  checksum_read : both.state ≡ checksum head (key_bytes geo words place chunk head) (value_bytes geo words place chunk head)
  checksum_read =
      read.are.state_is
      ∙ (ap (λ (k : List ℕ). fold hash_byte start (k ++ value_bytes geo words place chunk head)) key_same
      ∙ checksum_by start head (key_bytes geo words place chunk head) (value_bytes geo words place chunk head) read.start_is)

  padding_read : both.padded ≡ (is_padded (key_len head) (key_bytes geo words place chunk head) && is_padded (value_len head) (value_bytes geo words place chunk head))
  padding_read = read.are.padded_is ∙ ap (λ (k : List ℕ). is_padded (key_len head) k && is_padded (value_len head) (value_bytes geo words place chunk head)) key_same

  by_reading : (verdict : Verdict) → verdict_of geo (reading_of geo chunk head stored_checksum (key_bytes geo words place chunk head) (value_bytes geo words place chunk head)) ≡ verdict → verdict ≡ verdict_of geo (reading_at geo words place chunk)
  by_reading verdict e = sym (ap (verdict_of geo) (reading_is geo words place chunk head stored_checksum read.has) ∙ e)

  pub verdict_checksum : both.state ≢ stored_checksum → Checksum ≡ verdict_of geo (reading_at geo words place chunk)
  verdict_checksum other = by_reading Checksum (ends_other geo chunk head stored_checksum (key_bytes geo words place chunk head) (value_bytes geo words place chunk head) read.fit (λ same. other (checksum_read ∙ same)))

  pub verdict_padding : both.state ≡ stored_checksum → both.padded ≡ false → Padding ≡ verdict_of geo (reading_at geo words place chunk)
  verdict_padding same unpadded = by_reading Padding (ends_unpadded geo chunk head stored_checksum (key_bytes geo words place chunk head) (value_bytes geo words place chunk head) read.fit (sym checksum_read ∙ same) (sym padding_read ∙ unpadded))

  pub verdict_good : (key value chunks : ℕ) → place < geo.tiers → length words ≡ words_in_segment geo → key ≡ key_len head → value ≡ value_len head → chunks ≡ need geo (key_len head) (value_len head)
      → both.state ≡ stored_checksum → both.padded ≡ true → Good key value chunks ≡ verdict_of geo (reading_at geo words place chunk)
  verdict_good key value chunks place_below long key_is value_is chunks_is same padded =
      let fits = words_fit geo place chunk (key_len head) (value_len head) place_below (are_fit geo chunk head read.fit) in
      let key_long : length (take (key_len head) (key_bytes geo words place chunk head)) ≡ key_len head = length-take-le (key_len head) (key_bytes geo words place chunk head) (reaches (first + 0) (key_len head) (omega (arith, fits, long))) in
      let value_long : length (take (value_len head) (value_bytes geo words place chunk head)) ≡ value_len head =
      length-take-le (value_len head) (value_bytes geo words place chunk head) (reaches (first + parts_for 8 (key_len head)) (value_len head) (omega (arith, fits, long))) in
      by_reading (Good key value chunks)
      (ends_good geo chunk head stored_checksum (key_bytes geo words place chunk head) (value_bytes geo words place chunk head) read.fit (sym checksum_read ∙ same) (sym padding_read ∙ padded)
      ∙ (rw (key_long, value_long, key_is, value_is, chunks_is) refl))
    where
      reaches : (at len : ℕ) → at + parts_for 8 len ≤ length words → len ≤ length (bytes_of (take (parts_for 8 len) (drop at words)))
      reaches at len within = omega (arith, bytes_len (take (parts_for 8 len) (drop at words)), stretch_len words at (parts_for 8 len) within)

-- the words that were loaded
pub first_two : (a b : MemSeen) (geo : Geo) (place chunk at head stored_checksum : ℕ) → at ≡ chunk_at geo place chunk → Knows a at head → Reads a b → Knows b (at + 1) stored_checksum → (words : List ℕ) → FitsNotes b words → AreFirst geo words place chunk head stored_checksum
first_two a b geo place chunk at head stored_checksum at_is first reads second words fits =
    let behind : 0 < at = omega (arith, at_is, chunks_behind_head geo place chunk, tier_behind_head geo place) in
    record {
      head_is = ap (λ (n : ℕ). get_or words n 0) (sym at_is) ∙ first.here (λ _. behind) words (reads.fits words fits);
      checksum_is = ap (λ (n : ℕ). get_or words (n + 1) 0) (sym at_is) ∙ second.here (λ _. omega arith) words fits;
    }

-- the words that the verdict depends on, where the lengths don't fit, and where they do
pub verdict_words_few : (geo : Geo) (words : List ℕ) (place chunk head stored_checksum : ℕ) → AreFirst geo words place chunk head stored_checksum → lengths_fit geo chunk head ≡ false → verdict_words geo words place chunk ≡ 2
verdict_words_few geo words place chunk head stored_checksum has fails = ap (λ (h : ℕ). verdict_words_under geo chunk h) has.head_is ∙ (rw fails refl)

pub verdict_words_all : (geo : Geo) (words : List ℕ) (place chunk head stored_checksum : ℕ) → AreFirst geo words place chunk head stored_checksum → lengths_fit geo chunk head ≡ true
    → verdict_words geo words place chunk ≡ 2 + parts_for 8 (key_len head) + parts_for 8 (value_len head)
verdict_words_all geo words place chunk head stored_checksum has fit = ap (λ (h : ℕ). verdict_words_under geo chunk h) has.head_is ∙ (rw fit refl)

-- the words of an entry whose lengths fit may be loaded
pub readable_entry : (a b : MemSeen) (geo : Geo) (place chunk at key value head : ℕ) → IsReadableChunk a geo place chunk → Reads a b → at ≡ chunk_at geo place chunk → key ≡ key_len head → value ≡ value_len head → lengths_fit geo chunk head ≡ true
    → AreReadable b (at + 2) key value
readable_entry a b geo place chunk at key value head readable reads at_is key_is value_is fit =
    let lengths = are_fit geo chunk head fit in
    let geo_is : b.setting.geo ≡ geo = ap (λ (setting : Setting). setting.geo) reads.keeps.setting ∙ readable.readable.geo_is in
    record {
      not_closed = subst (λ (setting : Setting). setting.access ≢ Closed) (sym reads.keeps.setting) readable.readable.not_closed;
      inner = omega arith;
      key_short = rw key_is lengths.key_short;
      value_short = rw value_is lengths.value_short;
      inside = rw (geo_is, at_is, key_is, value_is) (words_fit geo place chunk (key_len head) (value_len head) readable.place_low lengths);
    }

-- what the code reads
pub read_of : (geo : Geo) (words : List ℕ) (place chunk head stored_checksum start at key value : ℕ) (both : WordsHash) → AreFirst geo words place chunk head stored_checksum → lengths_fit geo chunk head ≡ true → start ≡ hash (to_le_bytes w64 head) → at ≡ chunk_at geo place chunk
    → key ≡ key_len head → value ≡ value_len head → IsEntryHash words (at + 2) key value start both → AreRead geo words place chunk head stored_checksum start both
read_of geo words place chunk head stored_checksum start at key value both has fit start_is at_is key_is value_is are = record {
  has = has;
  fit = fit;
  start_is = start_is;
  are = rw (← at_is, ← key_is, ← value_is) are;
}
