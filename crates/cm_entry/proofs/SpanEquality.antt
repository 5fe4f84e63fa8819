-- Comparing the bytes of a span with given ones, one word more at a time.
use Rattle.std.proofs.Common.{◌≡◌, ℕ, ◌+◌, ◌-◌, ◌*◌, ◌<◌, ◌≤◌, ◌↔◌, ◌⊎◌, ◌/◌, ◌%◌, Bool, IsTrue, true, false, List, ◌++◌, length, get_or, take, drop, arith, refl, ap, sym, ◌∙◌, inl, inr, min, length-drop, subst}
use Rattle.std.specs.Int.{to_le_bytes, w64}
use Rattle.std.specs.List.{slice_range}
use Rattle.std.proofs.lemmas.Bool.{cases_lt}
use Rattle.std.proofs.lemmas.List.{drop_at, length-take-le, take_all, take-append-drop}
use Rattle.std.proofs.Math.Seq.{take-append-add}
use Rattle.cm_geo.specs.Addresses.{words_in_segment}
use Rattle.cm_geo.specs.Need.{parts_for}
use Rattle.cm_words.specs.Memory.{FitsNotes, MemSeen}
use Rattle.cm_words.specs.Effects.{Reads, Knows}
use Rattle.cm_words.proofs.FittingLists.{known_word}
use Rattle.cm_entry.specs.declared.span.Span.{Span}
use Rattle.cm_entry.specs.Spans.{bytes_in, bytes_from}
use Rattle.cm_entry.specs.Progress.{EqualSoFar}
use Rattle.cm_entry.proofs.SpanWords.{first_eight, part_begins, prefix_bytes, span_len, span_more, span_none}

pub never : false ≡ true → ⊥
never e = cc

-- bytes of another number are others
pub other_number : (words : List ℕ) (span : Span) (bytes : List ℕ) → span.at + parts_for 8 span.len ≤ length words → (length bytes ≡ span.len → ⊥) → IsTrue false ↔ (bytes_in words span ≡ bytes)
other_number words span bytes within other =
    (λ no. absurd (never no), λ e. absurd (other (sym (ap (λ (bs : List ℕ). length bs) e) ∙ span_len words span.at span.len (parts_for 8 span.len) within (holds span.len))))
  where
    holds : (len : ℕ) → len ≤ 8 * parts_for 8 len
    holds len = omega arith

pub same_none : (m : MemSeen) (span : Span) (bytes : List ℕ) → EqualSoFar m span bytes 0
same_none m span bytes words fits = span_none words span.at span.len

-- the part of a list from one place to another
pub part_more : (bytes : List ℕ) (from to : ℕ) → from ≤ to → from ≤ length bytes → take to bytes ≡ take from bytes ++ slice_range bytes from to
part_more bytes from to in_order within =
    let long : length (take from bytes) ≡ from = length-take-le from bytes within in
    ap (λ (bs : List ℕ). take to bs) (sym (take-append-drop from bytes))
    ∙ (ap (λ (n : ℕ). take n (take from bytes ++ drop from bytes)) (let h : to ≡ length (take from bytes) + (to - from) = omega (arith, long) in h)
    ∙ take-append-add (take from bytes) (drop from bytes) (to - from))

-- the part that a word is compared with
pub record IsPart (span : Span) (bytes : List ℕ) (count from to : ℕ) (part : List ℕ) : Type 0 where
  pub len_is : length bytes ≡ span.len
  pub below : count < parts_for 8 span.len
  pub from_is : from ≡ 8 * count
  pub to_is : to ≡ min (from + 8) (length bytes)
  pub part_is : part ≡ slice_range bytes from to

-- its length, and how the list goes on with it
part_len : (span : Span) (bytes part : List ℕ) (count from to : ℕ) → IsPart span bytes count from to part → length part ≡ min (span.len - 8 * count) 8
part_len span bytes part count from to is =
    let begins : 8 * count < span.len = part_begins span.len count is.below in
    let to_is = is.to_is in
    ap (λ (bs : List ℕ). length bs) is.part_is
    ∙ (length-take-le (to - from) (drop from bytes) (omega (arith, length-drop from bytes, is.len_is, is.from_is, is.to_is))
    ∙ (let h : to - from ≡ min (span.len - 8 * count) 8 = omega (arith, is.len_is, is.from_is, is.to_is) in h))

part_next : (span : Span) (bytes part : List ℕ) (count from to : ℕ) → IsPart span bytes count from to part → take (8 * (count + 1)) bytes ≡ take (8 * count) bytes ++ part
part_next span bytes part count from to is =
    let begins : 8 * count < span.len = part_begins span.len count is.below in
    up_to (cases_lt (length bytes) (8 * (count + 1)))
    ∙ (part_more bytes from to (omega (arith, is.len_is, is.from_is, is.to_is)) (omega (arith, is.len_is, is.from_is))
    ∙ (ap (λ (n : ℕ). take n bytes ++ slice_range bytes from to) is.from_is ∙ ap (λ (bs : List ℕ). take (8 * count) bytes ++ bs) (sym is.part_is)))
  where
    up_to : (length bytes < 8 * (count + 1)) ⊎ (8 * (count + 1) ≤ length bytes) → take (8 * (count + 1)) bytes ≡ take to bytes
    up_to (inl within_limit) = take_all (8 * (count + 1)) bytes (omega (arith, within_limit)) ∙ sym (take_all to bytes (omega (arith, is.from_is, is.to_is, within_limit)))
    up_to (inr long) = ap (λ (n : ℕ). take n bytes) (let h : 8 * (count + 1) ≡ to = omega (arith, is.from_is, is.to_is, long) in h)

-- a word's bytes are those of the part just where they are up to the span's end
word_part : (span : Span) (bytes part : List ℕ) (count from to word : ℕ) → IsPart span bytes count from to part → take (length part) (to_le_bytes w64 word) ≡ take (span.len - 8 * count) (to_le_bytes w64 word)
word_part span bytes part count from to word is =
    ap (λ (n : ℕ). take n (to_le_bytes w64 word)) (part_len span bytes part count from to is) ∙ first_eight word (span.len - 8 * count)

-- one word more, which is that of the list
pub same_more : (a b : MemSeen) (span : Span) (bytes part : List ℕ) (count from to word : ℕ) → EqualSoFar a span bytes count → Reads a b → Knows b (span.at + count) word
    → 1 < span.at → span.at + parts_for 8 span.len ≤ words_in_segment b.setting.geo → IsPart span bytes count from to part → take (length part) (to_le_bytes w64 word) ≡ part → EqualSoFar b span bytes (count + 1)
same_more a b span bytes part count from to word same reads knows behind within is begins words fits =
    let below = is.below in
    let here = known_word b (span.at + count) (span.at + count) word (omega arith) refl knows words fits in
    let inside : span.at + count < length words = omega (arith, fits.are.length_is) in
    span_more words span.at span.len count inside (omega (arith, part_begins span.len count below))
    ∙ (ap (λ (bs : List ℕ). bs ++ take (span.len - 8 * count) (to_le_bytes w64 (get_or words (span.at + count) 0))) (same words (reads.fits words fits))
    ∙ (ap (λ (w : ℕ). take (8 * count) bytes ++ take (span.len - 8 * count) (to_le_bytes w64 w)) here
    ∙ (ap (λ (bs : List ℕ). take (8 * count) bytes ++ bs) (sym (word_part span bytes part count from to word is) ∙ begins)
    ∙ sym (part_next span bytes part count from to is))))

-- one word that isn't that of the list
pub differs : (a b : MemSeen) (span : Span) (bytes part : List ℕ) (count from to word : ℕ) → EqualSoFar a span bytes count → Reads a b → Knows b (span.at + count) word
    → 1 < span.at → span.at + parts_for 8 span.len ≤ words_in_segment b.setting.geo → IsPart span bytes count from to part → (take (length part) (to_le_bytes w64 word) ≡ part → ⊥)
    → (words : List ℕ) → FitsNotes b words → IsTrue false ↔ (bytes_in words span ≡ bytes)
differs a b span bytes part count from to word same reads knows behind within is other words fits = (λ no. absurd (never no), λ e. absurd (other (begins e)))
  where
    begins : bytes_in words span ≡ bytes → take (length part) (to_le_bytes w64 word) ≡ part
    begins e =
        let below = is.below in
        let len_is = is.len_is in
        let here = known_word b (span.at + count) (span.at + count) word (omega arith) refl knows words fits in
        let inside : span.at + count < length words = omega (arith, fits.are.length_is) in
        let long : length (take (8 * count) bytes) ≡ 8 * count = length-take-le (8 * count) bytes (omega (arith, part_begins span.len count below)) in
        let joined : take (8 * count) bytes ++ take (span.len - 8 * count) (to_le_bytes w64 (get_or words (span.at + count) 0)) ≡ take (8 * count) bytes ++ part =
        ap (λ (bs : List ℕ). bs ++ take (span.len - 8 * count) (to_le_bytes w64 (get_or words (span.at + count) 0))) (sym (same words (reads.fits words fits)))
        ∙ (sym (span_more words span.at span.len count inside (omega (arith, part_begins span.len count below)))
        ∙ (prefix_bytes words span.at span.len (count + 1) (parts_for 8 span.len) (omega arith)
        ∙ (ap (λ (bs : List ℕ). take (8 * (count + 1)) bs) e ∙ part_next span bytes part count from to is))) in
        word_part span bytes part count from to word is
        ∙ (ap (λ (w : ℕ). take (span.len - 8 * count) (to_le_bytes w64 w)) (sym here)
        ∙ (sym (drop_at (take (8 * count) bytes) (take (span.len - 8 * count) (to_le_bytes w64 (get_or words (span.at + count) 0))) (8 * count) long)
        ∙ (ap (λ (bs : List ℕ). drop (8 * count) bs) joined ∙ drop_at (take (8 * count) bytes) part (8 * count) long)))

-- all words are those of the list
pub same_all : (m : MemSeen) (span : Span) (bytes : List ℕ) (count : ℕ) → EqualSoFar m span bytes count → count ≡ parts_for 8 span.len → length bytes ≡ span.len
    → (words : List ℕ) → FitsNotes m words → IsTrue true ↔ (bytes_in words span ≡ bytes)
same_all m span bytes count same all len_is words fits =
    (λ _. ap (λ (n : ℕ). bytes_from words span.at span.len n) (sym all) ∙ (same words fits ∙ take_all (8 * count) bytes (omega arith)), λ _. refl)

-- the rest of a list behind its whole words
rest_part : (span : Span) (bytes : List ℕ) → length bytes ≡ span.len → 0 < span.len % 8 → IsPart span bytes (span.len / 8) (8 * (span.len / 8)) (length bytes) (slice_range bytes (8 * (span.len / 8)) (length bytes))
rest_part span bytes len_is some = record { len_is = len_is; below = omega arith; from_is = refl; to_is = omega (arith, len_is); part_is = refl }

-- it decides, where all whole words are those of the list
pub decides_same : (a b : MemSeen) (span : Span) (bytes : List ℕ) (count word : ℕ) (result : Bool) → EqualSoFar a span bytes count → count ≡ span.len / 8 → 0 < span.len % 8 → length bytes ≡ span.len → Reads a b → Knows b (span.at + span.len / 8) word
    → 1 < span.at → span.at + parts_for 8 span.len ≤ words_in_segment b.setting.geo → IsTrue result ↔ (take (length (slice_range bytes (8 * (span.len / 8)) (length bytes))) (to_le_bytes w64 word) ≡ slice_range bytes (8 * (span.len / 8)) (length bytes))
    → (words : List ℕ) → FitsNotes b words → IsTrue result ↔ (bytes_in words span ≡ bytes)
decides_same a b span bytes count word true same whole some len_is reads knows inner within begins =
    same_all b span bytes (span.len / 8 + 1)
    (same_more a b span bytes (slice_range bytes (8 * (span.len / 8)) (length bytes)) (span.len / 8) (8 * (span.len / 8)) (length bytes) word (subst (λ (n : ℕ). EqualSoFar a span bytes n) whole same) reads knows inner within (rest_part span bytes len_is some) (begins.0 refl))
    (omega arith) len_is
decides_same a b span bytes count word false same whole some len_is reads knows inner within begins =
    differs a b span bytes (slice_range bytes (8 * (span.len / 8)) (length bytes)) (span.len / 8) (8 * (span.len / 8)) (length bytes) word (subst (λ (n : ℕ). EqualSoFar a span bytes n) whole same) reads knows inner within (rest_part span bytes len_is some) (λ e. never (begins.1 e))
