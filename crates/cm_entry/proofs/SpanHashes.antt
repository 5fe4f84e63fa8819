-- The hash over the bytes of a span, one word more at a time, and the padding of the last word.
use Rattle.std.proofs.Common.{◌≡◌, ◌≢◌, ℕ, ◌+◌, ◌-◌, ◌*◌, ◌/◌, ◌%◌, ◌<◌, ◌≤◌, ◌==◌, Bool, true, false, List, [], ◌∷◌, ◌++◌, length, get_or, take, drop, arith, refl, ap, sym, ◌∙◌, subst, inl, inr, min, eq-eqb, ne_eqb}
use Rattle.std.specs.List.{fold, list_all}
use Rattle.std.specs.Int.{to_le_bytes, w64}
use Rattle.std.proofs.lemmas.Bool.{cases_eq}
use Rattle.std.proofs.lemmas.List.{drop_all, take_rest}
use Rattle.std.proofs.lemmas.List.Sums.{fold-append}
use Rattle.std.proofs.Math.Seq.{drop-append-add}
use Rattle.cm_geo.specs.declared.geo.Geo.{Geo}
use Rattle.cm_geo.specs.Addresses.{words_in_segment}
use Rattle.cm_geo.specs.Hash.{hash_byte}
use Rattle.cm_geo.specs.Need.{parts_for}
use Rattle.cm_plain.specs.Readings.{bytes_of, is_padded}
use Rattle.cm_plain.proofs.Padding.{bytes_len}
use Rattle.cm_words.specs.declared.access.Access.TheVariants.{Closed}
use Rattle.cm_words.specs.Calls.{IsReadable}
use Rattle.cm_words.specs.Memory.{FitsNotes, MemSeen, Setting}
use Rattle.cm_words.specs.Effects.{Reads, Knows}
use Rattle.cm_words.proofs.FittingLists.{known_word, reads_reflexive}
use Rattle.cm_entry.specs.declared.span.Span.{Span}
use Rattle.cm_entry.specs.declared.checksum.SpanHash.{SpanHash}
use Rattle.cm_entry.specs.Packing.{hash_on}
use Rattle.cm_entry.specs.Spans.{AreReadable, IsInside, IsReadableSpan, bytes_from}
use Rattle.cm_entry.specs.Hashes.{IsWordsHash, IsSpanHash, is_last_padded}
use Rattle.cm_entry.specs.Progress.{AreHashesSoFar}
use Rattle.cm_entry.proofs.SpanWords.{bytes_more, first_eight, part_begins, stretch_len, stretch_more, span_more, span_none, span_whole}

-- a span's words are words of the segment after loads, too
pub inside_kept : (a b c : MemSeen) (span : Span) → Reads a b → Reads b c → IsInside a.setting.geo span → span.at + parts_for 8 span.len ≤ words_in_segment c.setting.geo
inside_kept a b c span first then inside =
    subst (λ (setting : Setting). span.at + parts_for 8 span.len ≤ words_in_segment setting.geo) (sym (then.keeps.setting ∙ first.keeps.setting)) inside.inside

-- and they may be loaded
pub readable_after : (a b : MemSeen) (geo : Geo) (span : Span) → IsReadable a geo → Reads a b → IsInside geo span → IsReadableSpan b span
readable_after a b geo span readable reads inside = record {
  not_closed = subst (λ (setting : Setting). setting.access ≢ Closed) (sym reads.keeps.setting) readable.not_closed;
  inside = subst (λ (g : Geo). IsInside g span) (sym (ap (λ (setting : Setting). setting.geo) reads.keeps.setting ∙ readable.geo_is)) inside;
}

-- and so may the words of a value behind its key
pub readable_value : (a b : MemSeen) (at key_len value_len parts : ℕ) → parts ≡ parts_for 8 key_len → AreReadable a at key_len value_len → Reads a b → IsReadableSpan b (record { at = at + parts; len = value_len })
readable_value a b at key_len value_len parts parts_are readable reads =
    readable_after a b a.setting.geo (record { at = at + parts; len = value_len }) (record { not_closed = readable.not_closed; geo_is = refl }) reads
    (record { inner = omega (arith, readable.inner); within_limit = readable.value_short; inside = rw parts_are readable.inside })

-- they are words of each list that fits
pub span_within : (a b : MemSeen) (span : Span) → Reads a b → IsInside a.setting.geo span → (words : List ℕ) → FitsNotes b words → span.at + parts_for 8 span.len ≤ length words
span_within a b span reads inside words fits = omega (arith, fits.are.length_is, inside_kept a a b span (reads_reflexive a) reads inside)

-- after loads a list that fits has as many words as the segment
pub words_long : (a b : MemSeen) (geo : Geo) → Reads a b → a.setting.geo ≡ geo → (words : List ℕ) → FitsNotes b words → length words ≡ words_in_segment geo
words_long a b geo reads is words fits = fits.are.length_is ∙ ap (λ (g : Geo). words_in_segment g) (ap (λ (s : Setting). s.geo) reads.keeps.setting ∙ is)

-- no word
pub hash_none : (m : MemSeen) (span : Span) (start : ℕ) → AreHashesSoFar m span start start 0 0
hash_none m span start words fits = record {
  state_is = ap (λ (bs : List ℕ). fold hash_byte start bs) (sym (span_none words span.at span.len));
  last_is = λ nonzero. absurd (omega arith);
}

-- one word more
pub hash_more : (a b : MemSeen) (span : Span) (start state last count word next taken : ℕ) → AreHashesSoFar a span start state last count → Reads a b → Knows b (span.at + count) word
    → 1 < span.at → span.at + parts_for 8 span.len ≤ words_in_segment b.setting.geo → count < parts_for 8 span.len
    → taken ≡ min (span.len - 8 * count) 8 → next ≡ fold hash_byte state (take taken (to_le_bytes w64 word)) → AreHashesSoFar b span start next word (count + 1)
hash_more a b span start state last count word next taken so_far reads knows behind within below taken_is next_is words fits =
    let here = known_word b (span.at + count) (span.at + count) word (omega arith) refl knows words fits in
    let past = so_far words (reads.fits words fits) in
    let inside : span.at + count < length words = omega (arith, fits.are.length_is) in
    let more = span_more words span.at span.len count inside (omega (arith, part_begins span.len count below)) in
    record {
      state_is =
          next_is
          ∙ (ap (λ (bs : List ℕ). fold hash_byte state bs) (ap (λ (n : ℕ). take n (to_le_bytes w64 word)) taken_is ∙ (first_eight word (span.len - 8 * count) ∙ ap (λ (w : ℕ). take (span.len - 8 * count) (to_le_bytes w64 w)) (sym here)))
          ∙ (ap (λ (s : ℕ). fold hash_byte s (take (span.len - 8 * count) (to_le_bytes w64 (get_or words (span.at + count) 0)))) past.state_is
          ∙ (sym (fold-append hash_byte start (bytes_from words span.at span.len count) (take (span.len - 8 * count) (to_le_bytes w64 (get_or words (span.at + count) 0))))
          ∙ ap (λ (bs : List ℕ). fold hash_byte start bs) (sym more))));
      last_is = λ _. sym (ap (λ (n : ℕ). get_or words n 0) (one_back span.at count) ∙ here);
    }
  where
    one_back : (at count : ℕ) → at + (count + 1) - 1 ≡ at + count
    one_back at count = omega arith

-- one whole word more
pub hash_whole : (a b : MemSeen) (span : Span) (start state last count word next : ℕ) → AreHashesSoFar a span start state last count → Reads a b → Knows b (span.at + count) word
    → 1 < span.at → span.at + parts_for 8 span.len ≤ words_in_segment b.setting.geo → count < span.len / 8 → next ≡ hash_on state (to_le_bytes w64 word) → AreHashesSoFar b span start next word (count + 1)
unfolding hash_on
hash_whole a b span start state last count word next so_far reads knows inner within below next_is =
    hash_more a b span start state last count word next 8 so_far reads knows inner within (omega arith) (omega arith) next_is

-- all words
pub hash_all : (m : MemSeen) (span : Span) (start state last count : ℕ) → AreHashesSoFar m span start state last count → count ≡ parts_for 8 span.len
    → (words : List ℕ) → FitsNotes m words → IsSpanHash words span start (record { state = state; last = last })
hash_all m span start state last count so_far all words fits = record {
  state_is = (so_far words fits).state_is ∙ ap (λ (n : ℕ). fold hash_byte start (bytes_from words span.at span.len n)) all;
  last_is = λ nonzero. (so_far words fits).last_is (omega (arith, all)) ∙ ap (λ (n : ℕ). get_or words (span.at + n - 1) 0) all;
}

-- the rest of the last word
pub hash_rest : (a b : MemSeen) (span : Span) (start state last count word next : ℕ) → AreHashesSoFar a span start state last count → count ≡ span.len / 8 → 0 < span.len % 8 → Reads a b → Knows b (span.at + span.len / 8) word
    → 1 < span.at → span.at + parts_for 8 span.len ≤ words_in_segment b.setting.geo → next ≡ fold hash_byte state (take (span.len % 8) (to_le_bytes w64 word))
    → (words : List ℕ) → FitsNotes b words → IsSpanHash words span start (record { state = next; last = word })
hash_rest a b span start state last count word next so_far whole some reads knows inner within next_is =
    hash_all b span start next word (span.len / 8 + 1)
    (hash_more a b span start state last (span.len / 8) word next (span.len % 8) (subst (λ (n : ℕ). AreHashesSoFar a span start state last n) whole so_far) reads knows inner within (omega arith) (omega arith) next_is)
    (omega arith)

-- ---- whole words

-- the whole words of so many bytes
pub whole_parts : (len : ℕ) → parts_for 8 (8 * parts_for 8 len) ≡ parts_for 8 len
whole_parts len = omega arith

-- no byte behind the last word's
padded_none : (len : ℕ) (ws : List ℕ) → length ws ≡ parts_for 8 len → len % 8 ≡ 0 → is_padded len (bytes_of ws) ≡ true
padded_none len ws long whole = ap (λ (bs : List ℕ). list_all (λ byte. byte == 0) bs) (drop_all len (bytes_of ws) (omega (arith, bytes_len ws)))

-- the bytes behind so many are those of the last word
padded_last : (len last : ℕ) (ws : List ℕ) → length ws + 1 ≡ parts_for 8 len → len ≡ 8 * length ws + len % 8 → is_padded len (bytes_of (ws ++ last ∷ [])) ≡ list_all (λ byte. byte == 0) (drop (len % 8) (to_le_bytes w64 last))
padded_last len last ws long split =
    ap (λ (bs : List ℕ). list_all (λ byte. byte == 0) bs)
    (ap (drop len) (bytes_more ws last)
    ∙ (ap (λ (n : ℕ). drop n (bytes_of ws ++ to_le_bytes w64 last)) (let h : len ≡ length (bytes_of ws) + len % 8 = omega (arith, bytes_len ws) in h)
    ∙ drop-append-add (bytes_of ws) (to_le_bytes w64 last) (len % 8)))

-- the padding of the last word
pub part_padded : (words : List ℕ) (at len last : ℕ) → at + parts_for 8 len ≤ length words → (0 < len → last ≡ get_or words (at + parts_for 8 len - 1) 0)
    → is_last_padded len last ≡ is_padded len (bytes_of (take (parts_for 8 len) (drop at words)))
part_padded words at len last within last_is = elim (cases_eq (len % 8) 0) [
  | inl whole ↦
      (let t : (len % 8 == 0) ≡ true = eq-eqb (len % 8) 0 whole in
      let f : is_last_padded len last ≡ true = rw t refl in
      f ∙ sym (padded_none len (take (parts_for 8 len) (drop at words)) (stretch_len words at (parts_for 8 len) within) whole))
  | inr nonzero ↦
      (let t : (len % 8 == 0) ≡ false = ne_eqb (len % 8) 0 nonzero in
      let f : is_last_padded len last ≡ list_all (λ byte. byte == 0) (drop (len % 8) (to_le_bytes w64 last)) = rw t refl in
      let before : ℕ = len / 8 in
      let parts : parts_for 8 len ≡ before + 1 = omega arith in
      let here : last ≡ get_or words (at + before) 0 = last_is (omega arith) ∙ ap (λ (n : ℕ). get_or words n 0) (let h : at + parts_for 8 len - 1 ≡ at + before = omega arith in h) in
      let long : length (take before (drop at words)) ≡ before = stretch_len words at before (omega arith) in
      f ∙ (sym (padded_last len last (take before (drop at words)) (omega (arith, long)) (omega (arith, long)))
      ∙ ap (λ (ws : List ℕ). is_padded len (bytes_of ws))
      (ap (λ (w : ℕ). take before (drop at words) ++ w ∷ []) here ∙ (sym (stretch_more words at before (omega arith)) ∙ ap (λ (n : ℕ). take n (drop at words)) (sym parts)))))
]

-- the hash over whole words
pub words_hash : (words : List ℕ) (at len parts start : ℕ) (hash : SpanHash) (padded : Bool) → parts ≡ parts_for 8 len → at + parts_for 8 len ≤ length words → IsSpanHash words (record { at = at; len = 8 * parts }) start hash
    → padded ≡ is_last_padded len hash.last → IsWordsHash words at len start (record { state = hash.state; padded = padded })
words_hash words at len parts start hash padded parts_are within given padded_is =
    let spanned = subst (λ (n : ℕ). IsSpanHash words (record { at = at; len = 8 * n }) start hash) parts_are given in
    record {
      state_is = spanned.state_is ∙ ap (λ (bs : List ℕ). fold hash_byte start bs)
          (ap (λ (n : ℕ). bytes_from words at (8 * parts_for 8 len) n) (whole_parts len) ∙ span_whole words at (8 * parts_for 8 len) (parts_for 8 len) refl);
      padded_is = padded_is ∙ part_padded words at len hash.last within (λ nonzero. spanned.last_is (omega arith) ∙ ap (λ (n : ℕ). get_or words (at + n - 1) 0) (whole_parts len));
    }

-- the bytes from one of a word's on
pub rest_zero : (result : Bool) (from : ℕ) (bytes word_bytes : List ℕ) → bytes ≡ word_bytes → length word_bytes ≡ 8 → result ≡ list_all (λ byte. byte == 0) (take (8 - from) (drop from bytes))
    → result ≡ list_all (λ byte. byte == 0) (drop from word_bytes)
rest_zero result from bytes word_bytes e long is =
    is ∙ ap (λ (bs : List ℕ). list_all (λ byte. byte == 0) bs)
    (ap (λ (bs : List ℕ). take (8 - from) (drop from bs)) e ∙ (ap (λ (n : ℕ). take (n - from) (drop from word_bytes)) (sym long) ∙ take_rest word_bytes from))
