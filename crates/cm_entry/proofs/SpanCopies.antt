-- Copying the bytes of a span, one word more at a time.
use Rattle.std.proofs.Common.{◌≡◌, ℕ, length-append, length-drop, ◌+◌, ◌-◌, ◌*◌, ◌<◌, ◌≤◌, List, [], ◌++◌, length, get_or, take, drop, arith, refl, ap, subst, ◌/◌, ◌%◌, sym, ◌∙◌, min}
use Rattle.std.specs.Int.{to_le_bytes, w64}
use Rattle.std.proofs.lemmas.List.{length-take-le, take_all}
use Rattle.std.proofs.lemmas.Slice.{drop-put_mid, take-put_mid}
use borrow.Rule.Slice.PartMut.{put_mid}
use Rattle.cm_geo.specs.Addresses.{words_in_segment}
use Rattle.cm_geo.specs.Need.{parts_for}
use Rattle.cm_words.specs.Memory.{FitsNotes, MemSeen}
use Rattle.cm_words.specs.Effects.{Reads, Knows}
use Rattle.cm_words.proofs.FittingLists.{known_word, reads_reflexive, reads_transitive}
use Rattle.cm_entry.specs.declared.span.Span.{Span}
use Rattle.cm_entry.specs.Spans.{IsInside, bytes_in, bytes_from}
use Rattle.cm_entry.specs.Progress.{IsCopySoFar}
use Rattle.cm_entry.proofs.SpanHashes.{inside_kept}
use Rattle.cm_entry.proofs.SpanWords.{first_eight, part_begins, span_more, span_none}

pub copied_none : (m : MemSeen) (span : Span) (out : List ℕ) → IsCopySoFar m span out 0
copied_none m span out words fits = take_none out (min (8 * 0) span.len) (omega arith) ∙ sym (span_none words span.at span.len)
  where
    take_none : (xs : List ℕ) (n : ℕ) → n ≡ 0 → take n xs ≡ []
    take_none xs n e = ap (λ (k : ℕ). take k xs) e

-- this word stands here in each list that fits
abbrev pub IsWordAt : MemSeen → ℕ → ℕ → Type 0
IsWordAt m at word = (words : List ℕ) → FitsNotes m words → get_or words at 0 ≡ word

-- the word that was loaded does, and does after more loads
pub word_loaded : (a b : MemSeen) (at word : ℕ) → 1 < at → Knows a at word → Reads a b → IsWordAt b at word
word_loaded a b at word inner knows reads words fits = known_word a at at word inner refl knows words (reads.fits words fits)

-- one word more
pub copied_more : (a b : MemSeen) (span : Span) (out part word_bytes : List ℕ) (count to word : ℕ) → IsCopySoFar a span out count → Reads a b → IsWordAt b (span.at + count) word
    → span.at + parts_for 8 span.len ≤ words_in_segment b.setting.geo → count < parts_for 8 span.len → span.len ≤ length out → to ≡ min (8 * count + 8) span.len
    → word_bytes ≡ to_le_bytes w64 word → part ≡ take (to - 8 * count) word_bytes → IsCopySoFar b span (put_mid (8 * count) (to - 8 * count) out part) (count + 1)
copied_more a b span out part word_bytes count to word copied reads here_is within below room to_is bytes_are part_is words fits =
    let begins = part_begins span.len count below in
    let here = here_is words fits in
    let inside : span.at + count < length words = omega (arith, fits.are.length_is) in
    let taken : to - 8 * count ≡ min (span.len - 8 * count) 8 = omega (arith, to_is) in
    let part_word : part ≡ take (to - 8 * count) (to_le_bytes w64 word) = part_is ∙ ap (λ (bs : List ℕ). take (to - 8 * count) bs) bytes_are in
    let eight : length (to_le_bytes w64 word) ≡ 8 = refl in
    let part_len : length part ≡ to - 8 * count = ap (λ (bs : List ℕ). length bs) part_word ∙ length-take-le (to - 8 * count) (to_le_bytes w64 word) (omega (arith, eight, taken)) in
    let word_part : part ≡ take (span.len - 8 * count) (to_le_bytes w64 (get_or words (span.at + count) 0)) =
    part_word ∙ (ap (λ (n : ℕ). take n (to_le_bytes w64 word)) taken ∙ (first_eight word (span.len - 8 * count) ∙ ap (λ (w : ℕ). take (span.len - 8 * count) (to_le_bytes w64 w)) (sym here))) in
    take-put_mid (8 * count) (to - 8 * count) out part (min (8 * (count + 1)) span.len) (omega (arith, part_len, to_is)) (omega arith)
    ∙ (ap (λ (n : ℕ). take n out ++ part) (let h : 8 * count ≡ min (8 * count) span.len = omega arith in h)
    ∙ (ap (λ (bs : List ℕ). bs ++ part) (copied words (reads.fits words fits))
    ∙ (ap (λ (bs : List ℕ). bytes_from words span.at span.len count ++ bs) word_part
    ∙ sym (span_more words span.at span.len count inside (omega arith)))))

-- one whole word more
pub copied_whole : (a b : MemSeen) (span : Span) (out part word_bytes : List ℕ) (count from to word : ℕ) → IsCopySoFar a span out count → Reads a b → IsWordAt b (span.at + count) word
    → span.at + parts_for 8 span.len ≤ words_in_segment b.setting.geo → count < span.len / 8 → span.len ≤ length out → from ≡ 8 * count → to ≡ from + 8
    → word_bytes ≡ to_le_bytes w64 word → part ≡ word_bytes → IsCopySoFar b span (put_mid from (to - from) out part) (count + 1)
copied_whole a b span out part word_bytes count from to word copied reads here within below room from_is to_is bytes_are part_is =
    let length_is : to - from ≡ to - 8 * count = omega (arith, from_is) in
    rw (from_is) (copied_more a b span out part word_bytes count to word copied reads here within (omega arith) room (omega (arith, from_is, to_is)) bytes_are
    (part_is ∙ (sym (take_all 8 word_bytes (omega (arith, ap (λ (bs : List ℕ). length bs) bytes_are))) ∙ ap (λ (n : ℕ). take n word_bytes) (let h : 8 ≡ to - 8 * count = omega (arith, from_is, to_is) in h))))

-- what stands behind it stays
pub rest_whole : (out part word_bytes : List ℕ) (from to len word : ℕ) → to ≡ from + 8 → to ≤ len → len ≤ length out → word_bytes ≡ to_le_bytes w64 word → part ≡ word_bytes
    → drop len (put_mid from (to - from) out part) ≡ drop len out
rest_whole out part word_bytes from to len word to_is below room bytes_are part_is =
    drop-put_mid from (to - from) out part len (omega arith) (omega arith) (ap (λ (bs : List ℕ). length bs) (part_is ∙ bytes_are) ∙ (let h : 8 ≡ to - from = omega (arith, to_is) in h))

-- all words
pub copied_all : (m : MemSeen) (span : Span) (out : List ℕ) (count : ℕ) → IsCopySoFar m span out count → count ≡ parts_for 8 span.len → (words : List ℕ) → FitsNotes m words → take span.len out ≡ bytes_in words span
copied_all m span out count copied all words fits =
    ap (λ (n : ℕ). take n out) (let h : span.len ≡ min (8 * count) span.len = omega (arith, all) in h)
    ∙ (copied words fits ∙ ap (λ (n : ℕ). bytes_from words span.at span.len n) all)

-- the rest of the last word
pub copied_rest : (a b : MemSeen) (span : Span) (out part word_bytes : List ℕ) (count word : ℕ) → IsCopySoFar a span out count → count ≡ span.len / 8 → 0 < span.len % 8 → Reads a b → IsWordAt b (span.at + span.len / 8) word
    → span.at + parts_for 8 span.len ≤ words_in_segment b.setting.geo → span.len ≤ length out → word_bytes ≡ to_le_bytes w64 word → part ≡ take (span.len % 8) word_bytes
    → (words : List ℕ) → FitsNotes b words → take span.len (put_mid (8 * (span.len / 8)) (8 * (span.len / 8) + span.len % 8 - 8 * (span.len / 8)) out part) ≡ bytes_in words span
copied_rest a b span out part word_bytes count word copied whole some reads here within room bytes_are part_is =
    copied_all b span (put_mid (8 * (span.len / 8)) (8 * (span.len / 8) + span.len % 8 - 8 * (span.len / 8)) out part) (span.len / 8 + 1)
    (copied_more a b span out part word_bytes (span.len / 8) (8 * (span.len / 8) + span.len % 8) word (subst (λ (n : ℕ). IsCopySoFar a span out n) whole copied) reads here within (omega arith) room (omega arith) bytes_are
    (part_is ∙ ap (λ (n : ℕ). take n word_bytes) (let h : span.len % 8 ≡ 8 * (span.len / 8) + span.len % 8 - 8 * (span.len / 8) = omega arith in h))) (omega arith)

-- and what stands behind it stays
pub rest_last : (out part word_bytes : List ℕ) (from left len word : ℕ) → left < 8 → from + left ≤ len → len ≤ length out → word_bytes ≡ to_le_bytes w64 word → part ≡ take left word_bytes
    → drop len (put_mid from (from + left - from) out part) ≡ drop len out
rest_last out part word_bytes from left len word few below room bytes_are part_is =
    drop-put_mid from (from + left - from) out part len (omega arith) (omega arith)
    (ap (λ (bs : List ℕ). length bs) part_is ∙ (length-take-le left word_bytes (omega (arith, ap (λ (bs : List ℕ). length bs) bytes_are)) ∙ (let h : left ≡ from + left - from = omega arith in h)))

-- ---- four words at once

-- a list stays as long where a part of it is replaced by one as long
long_put : (from to : ℕ) (out part : List ℕ) → from + length part ≡ to → to ≤ length out → length (put_mid from (to - from) out part) ≡ length out
long_put from to out part to_is below =
    omega (
      arith,
      to_is,
      below,
      length-append (take from out) (part ++ drop (to - from) (drop from out)),
      length-append part (drop (to - from) (drop from out)),
      length-take-le from out (omega (arith, to_is, below)),
      length-drop (to - from) (drop from out),
      length-drop from out,
    )

-- the bytes of a word are eight
eight_bytes : (part word_bytes : List ℕ) (word : ℕ) → word_bytes ≡ to_le_bytes w64 word → part ≡ word_bytes → length part ≡ 8
eight_bytes part word_bytes word bytes_are part_is = ap (λ (bs : List ℕ). length bs) (part_is ∙ bytes_are)

-- a list after four words were copied into it, one after the other
abbrev pub with_four : ℕ → List ℕ → List ℕ → List ℕ → List ℕ → List ℕ → List ℕ
with_four from out p q r s =
    put_mid (from + 24) (from + 32 - (from + 24)) (put_mid (from + 16) (from + 24 - (from + 16)) (put_mid (from + 8) (from + 16 - (from + 8)) (put_mid from (from + 8 - from) out p) q) r) s

-- four words were loaded, and then copied one after the other
pub copied_four : (a b c d e : MemSeen) (span : Span) (out p q r s pb qb rb sb : List ℕ) (count one two three four : ℕ) → IsCopySoFar a span out count → IsInside a.setting.geo span
    → span.len ≤ length out → count + 4 ≤ span.len / 8 → Reads a b → Reads b c → Reads c d → Reads d e
    → Knows b (span.at + count) one → Knows c (span.at + count + 1) two → Knows d (span.at + count + 2) three → Knows e (span.at + count + 3) four
    → pb ≡ to_le_bytes w64 one → qb ≡ to_le_bytes w64 two → rb ≡ to_le_bytes w64 three → sb ≡ to_le_bytes w64 four → p ≡ pb → q ≡ qb → r ≡ rb → s ≡ sb
    → IsCopySoFar e span (with_four (8 * count) out p q r s) (count + 4)
copied_four a b c d e span out p q r s pb qb rb sb count one two three four copied inside room whole ab bc cd de knows_one knows_two knows_three knows_four pb_is qb_is rb_is sb_is p_is q_is r_is s_is =
    let ce = reads_transitive c d e cd de in
    let be = reads_transitive b c e bc ce in
    let within = inside_kept a b e span ab be inside in
    let inner = inside.inner in
    let out1 = put_mid (8 * count) (8 * count + 8 - 8 * count) out p in
    let long1 : length out1 ≡ length out = long_put (8 * count) (8 * count + 8) out p (omega (arith, eight_bytes p pb one pb_is p_is)) (omega (arith, room, whole)) in
    let out2 = put_mid (8 * count + 8) (8 * count + 16 - (8 * count + 8)) out1 q in
    let long2 : length out2 ≡ length out = long_put (8 * count + 8) (8 * count + 16) out1 q (omega (arith, eight_bytes q qb two qb_is q_is)) (omega (arith, room, whole, long1)) ∙ long1 in
    let out3 = put_mid (8 * count + 16) (8 * count + 24 - (8 * count + 16)) out2 r in
    let long3 : length out3 ≡ length out = long_put (8 * count + 16) (8 * count + 24) out2 r (omega (arith, eight_bytes r rb three rb_is r_is)) (omega (arith, room, whole, long2)) ∙ long2 in
    let first = copied_whole a e span out p pb count (8 * count) (8 * count + 8) one copied (reads_transitive a b e ab be)
    (word_loaded b e (span.at + count) one (omega (arith, inner)) knows_one be) within (omega (arith, whole)) room refl refl pb_is p_is in
    let second = copied_whole e e span out1 q qb (count + 1) (8 * count + 8) (8 * count + 16) two first (reads_reflexive e)
    (here e (span.at + count + 1) (span.at + (count + 1)) two (omega arith) (word_loaded c e (span.at + count + 1) two (omega (arith, inner)) knows_two ce))
    within (omega (arith, whole)) (omega (arith, room, long1)) (omega arith) (omega arith) qb_is q_is in
    let third = copied_whole e e span out2 r rb (count + 1 + 1) (8 * count + 16) (8 * count + 24) three second (reads_reflexive e)
    (here e (span.at + count + 2) (span.at + (count + 1 + 1)) three (omega arith) (word_loaded d e (span.at + count + 2) three (omega (arith, inner)) knows_three de))
    within (omega (arith, whole)) (omega (arith, room, long2)) (omega arith) (omega arith) rb_is r_is in
    let fourth = copied_whole e e span out3 s sb (count + 1 + 1 + 1) (8 * count + 24) (8 * count + 32) four third (reads_reflexive e)
    (here e (span.at + count + 3) (span.at + (count + 1 + 1 + 1)) four (omega arith) (word_loaded e e (span.at + count + 3) four (omega (arith, inner)) knows_four (reads_reflexive e)))
    within (omega (arith, whole)) (omega (arith, room, long3)) (omega arith) (omega arith) sb_is s_is in
    subst (λ (n : ℕ). IsCopySoFar e span (with_four (8 * count) out p q r s) n) (let h : count + 1 + 1 + 1 + 1 ≡ count + 4 = omega arith in h) fourth
  where
    here : (m : MemSeen) (at other word : ℕ) → at ≡ other → IsWordAt m at word → IsWordAt m other word
    here m at other word same is = subst (λ (n : ℕ). IsWordAt m n word) same is

-- and what stands behind the span stays
pub rest_four : (out p q r s pb qb rb sb : List ℕ) (from len one two three four : ℕ) → from + 32 ≤ len → len ≤ length out
    → pb ≡ to_le_bytes w64 one → qb ≡ to_le_bytes w64 two → rb ≡ to_le_bytes w64 three → sb ≡ to_le_bytes w64 four → p ≡ pb → q ≡ qb → r ≡ rb → s ≡ sb
    → drop len (with_four from out p q r s) ≡ drop len out
rest_four out p q r s pb qb rb sb from len one two three four below room pb_is qb_is rb_is sb_is p_is q_is r_is s_is =
    let out1 = put_mid from (from + 8 - from) out p in
    let long1 : length out1 ≡ length out = long_put from (from + 8) out p (omega (arith, eight_bytes p pb one pb_is p_is)) (omega (arith, room, below)) in
    let out2 = put_mid (from + 8) (from + 16 - (from + 8)) out1 q in
    let long2 : length out2 ≡ length out = long_put (from + 8) (from + 16) out1 q (omega (arith, eight_bytes q qb two qb_is q_is)) (omega (arith, room, below, long1)) ∙ long1 in
    let out3 = put_mid (from + 16) (from + 24 - (from + 16)) out2 r in
    let long3 : length out3 ≡ length out = long_put (from + 16) (from + 24) out2 r (omega (arith, eight_bytes r rb three rb_is r_is)) (omega (arith, room, below, long2)) ∙ long2 in
    rest_whole out3 s sb (from + 24) (from + 32) len four (omega arith) (omega (arith, below)) (omega (arith, room, long3)) sb_is s_is
    ∙ (rest_whole out2 r rb (from + 16) (from + 24) len three (omega arith) (omega (arith, below)) (omega (arith, room, long2)) rb_is r_is
    ∙ (rest_whole out1 q qb (from + 8) (from + 16) len two (omega arith) (omega (arith, below)) (omega (arith, room, long1)) qb_is q_is
    ∙ rest_whole out p pb from (from + 8) len one refl (omega (arith, below)) room pb_is p_is))
