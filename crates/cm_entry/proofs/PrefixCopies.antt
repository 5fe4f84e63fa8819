-- Copying the bytes of a span as long as they agree with a prefix, one word more at a time.
use Rattle.std.proofs.Common.{◌≡◌, ℕ, ◌+◌, ◌-◌, ◌*◌, ◌<◌, ◌≤◌, ◌↔◌, Bool, IsTrue, true, false, List, [], ◌∷◌, ◌++◌, length, take, drop, arith, refl, ap, sym, subst, ◌∙◌, inl, inr, min, length-drop}
use Rattle.std.specs.Bool.{Decides}
use Rattle.std.specs.Int.{to_le_bytes, w64}
use Rattle.std.proofs.lemmas.Bool.{cases_Bool, cases_lt}
use Rattle.std.proofs.lemmas.List.{drop_all, length-take-le, take_all, take-append-drop}
use Rattle.std.proofs.lemmas.Slice.{drop-put_mid}
use Rattle.std.proofs.lemmas.Slice.Eq.{bytes_eq-Decides}
use borrow.Rule.Slice.PartMut.{put_mid}
use Rattle.cm_geo.specs.Addresses.{words_in_segment}
use Rattle.cm_geo.specs.Need.{parts_for}
use Rattle.cm_plain.specs.Steps.{has_prefix}
use Rattle.cm_words.specs.Memory.{FitsNotes, MemSeen}
use Rattle.cm_words.specs.Effects.{Reads, Knows}
use Rattle.cm_words.proofs.FittingLists.{known_word}
use Rattle.cm_entry.specs.declared.span.Span.{Span}
use Rattle.cm_entry.specs.Spans.{bytes_in, bytes_from}
use Rattle.cm_entry.specs.Progress.{IsCopySoFar}
use Rattle.cm_entry.specs.Prefixes.{Agree, AgreeSoFar, IsPrefixCopy}
use Rattle.cm_entry.proofs.EntryParts.{rest_behind}
use Rattle.cm_entry.proofs.SpanWords.{first_eight, part_begins, prefix_bytes, span_len, span_more, span_none}

-- ---- lists that agree

pub agree_turned : (xs ys : List ℕ) → Agree xs ys → Agree ys xs
agree_turned [] [] h = tt
agree_turned [] (y ∷ ys) h = tt
agree_turned (x ∷ xs) [] h = tt
agree_turned (x ∷ xs) (y ∷ ys) h = (sym h.0, agree_turned xs ys h.1)

agree_none : (xs : List ℕ) → Agree xs []
agree_none [] = tt
agree_none (x ∷ xs) = tt

-- a list agrees with its beginning
begins_agree : (xs ys : List ℕ) → take (length ys) xs ≡ ys → Agree xs ys
begins_agree [] ys e = tt
begins_agree (x ∷ xs) [] e = tt
begins_agree (x ∷ xs) (y ∷ ys) e = (heads e, begins_agree xs ys (tails e))
  where
    heads : x ∷ take (length ys) xs ≡ y ∷ ys → x ≡ y
    heads e = cc e

    tails : x ∷ take (length ys) xs ≡ y ∷ ys → take (length ys) xs ≡ ys
    tails e = cc e

-- a list that agrees with a shorter one begins with it
agree_begins : (xs ys : List ℕ) → length ys ≤ length xs → Agree xs ys → take (length ys) xs ≡ ys
agree_begins [] [] within h = refl
agree_begins [] (y ∷ ys) within h = absurd (omega (arith, within))
agree_begins (x ∷ xs) [] within h = refl
agree_begins (x ∷ xs) (y ∷ ys) within h = rw (h.0, agree_begins xs ys (omega (arith, within)) h.1) refl

-- two parts agree with a list where the first one does, and the second one with what is behind
agree_both : (xs ys zs : List ℕ) → Agree xs zs → Agree ys (drop (length xs) zs) → Agree (xs ++ ys) zs
agree_both [] ys zs h more = more
agree_both (x ∷ xs) ys [] h more = tt
agree_both (x ∷ xs) ys (z ∷ zs) h more = (h.0, agree_both xs ys zs h.1 more)

agree_first : (xs ys zs : List ℕ) → Agree (xs ++ ys) zs → Agree xs zs
agree_first [] ys zs h = tt
agree_first (x ∷ xs) ys [] h = tt
agree_first (x ∷ xs) ys (z ∷ zs) h = (h.0, agree_first xs ys zs h.1)

agree_second : (xs ys zs : List ℕ) → Agree (xs ++ ys) zs → Agree ys (drop (length xs) zs)
agree_second [] ys zs h = h
agree_second (x ∷ xs) ys [] h = agree_none ys
agree_second (x ∷ xs) ys (z ∷ zs) h = agree_second xs ys zs h.1

-- ---- a prefix

-- whether a list begins with a prefix
pub prefix_decides : (prefix xs : List ℕ) → Decides (has_prefix prefix xs) (prefix ≡ take (length prefix) xs)
prefix_decides prefix xs = bytes_eq-Decides prefix (take (length prefix) xs)

-- a list that isn't shorter begins with a prefix just where it agrees with it
pub agree_prefix : (prefix xs : List ℕ) → length prefix ≤ length xs → Agree xs prefix → has_prefix prefix xs ≡ true
agree_prefix prefix xs within h = (prefix_decides prefix xs).1 (sym (agree_begins xs prefix within h))

pub prefix_agrees : (prefix xs : List ℕ) → has_prefix prefix xs ≡ true → Agree xs prefix
prefix_agrees prefix xs e = begins_agree xs prefix (sym ((prefix_decides prefix xs).0 e))

-- a test for it tells whether they agree
pub tells_agree : (prefix xs : List ℕ) (begins : Bool) → length prefix ≤ length xs → begins ≡ has_prefix prefix xs → IsTrue begins ↔ Agree xs prefix
tells_agree prefix xs begins within is = (λ passes. prefix_agrees prefix xs (sym is ∙ passes), λ h. is ∙ agree_prefix prefix xs within h)

pub tells_agree_turned : (prefix xs : List ℕ) (begins : Bool) → length prefix ≤ length xs → begins ≡ has_prefix prefix xs → IsTrue begins ↔ Agree prefix xs
tells_agree_turned prefix xs begins within is =
    let tells = tells_agree prefix xs begins within is in (λ passes. agree_turned xs prefix (tells.0 passes), λ h. tells.1 (agree_turned prefix xs h))

-- a list agrees with what is behind the end of a prefix
pub agree_behind : (xs prefix : List ℕ) (from : ℕ) → length prefix ≤ from → Agree xs (drop from prefix)
agree_behind xs prefix from past = subst (Agree xs) (sym (drop_all from prefix past)) (agree_none xs)

-- what is behind a place of a prefix
pub rest_is : (from : ℕ) (prefix : List ℕ) → take (length prefix - from) (drop from prefix) ≡ drop from prefix
rest_is from prefix = take_all (length prefix - from) (drop from prefix) (omega (arith, length-drop from prefix))

-- where a list doesn't agree with it, the place is before the end
pub before_end : (xs prefix : List ℕ) (from : ℕ) → (Agree xs (drop from prefix) → ⊥) → from < length prefix
before_end xs prefix from differs = elim (cases_lt from (length prefix)) [
  | inl before ↦ before
  | inr past ↦ absurd (differs (agree_behind xs prefix from past))
]

-- a shorter list doesn't begin with it
pub prefix_longer : (prefix xs : List ℕ) → length xs < length prefix → has_prefix prefix xs ≡ false
prefix_longer prefix xs less = elim (cases_Bool (has_prefix prefix xs)) [
  | inl begins ↦ absurd (let long = ap (λ (ys : List ℕ). length ys) ((prefix_decides prefix xs).0 begins) in omega (arith, long, ap (λ (ys : List ℕ). length ys) (take_all (length prefix) xs (omega arith)), less))
  | inr other ↦ other
]

-- ---- over the words of a span

pub agree_start : (m : MemSeen) (span : Span) (prefix : List ℕ) → AgreeSoFar m span prefix 0
agree_start m span prefix words fits = subst (λ (bs : List ℕ). Agree bs prefix) (sym (span_none words span.at span.len)) tt

-- what is copied so far has 8 bytes a word
front_len : (m : MemSeen) (span : Span) (out : List ℕ) (count : ℕ) (words : List ℕ) → IsCopySoFar m span out count → 8 * count ≤ span.len → span.len ≤ length out → FitsNotes m words → length (bytes_from words span.at span.len count) ≡ 8 * count
front_len m span out count words copied below room fits =
    sym (ap (λ (bs : List ℕ). length bs) (copied words fits)) ∙ (length-take-le (min (8 * count) span.len) out (omega arith) ∙ (let h : min (8 * count) span.len ≡ 8 * count = omega arith in h))

-- a word's part that is copied next
pub record IsNextPart (span : Span) (count word : ℕ) (part : List ℕ) : Type 0 where
  pub below : count < parts_for 8 span.len
  pub part_is : part ≡ take (span.len - 8 * count) (to_le_bytes w64 word)

next_bytes : (b : MemSeen) (span : Span) (count word : ℕ) (part words : List ℕ) → IsNextPart span count word part → Knows b (span.at + count) word → 1 < span.at → span.at + parts_for 8 span.len ≤ words_in_segment b.setting.geo → FitsNotes b words
    → bytes_from words span.at span.len (count + 1) ≡ bytes_from words span.at span.len count ++ part
next_bytes b span count word part words next knows inner within fits =
    let below = next.below in
    let here = known_word b (span.at + count) (span.at + count) word (omega arith) refl knows words fits in
    let inside : span.at + count < length words = omega (arith, fits.are.length_is) in
    span_more words span.at span.len count inside (omega (arith, part_begins span.len count below))
    ∙ ap (λ (bs : List ℕ). bytes_from words span.at span.len count ++ bs)
    (ap (λ (w : ℕ). take (span.len - 8 * count) (to_le_bytes w64 w)) here ∙ sym next.part_is)

-- it is what the code takes of the word
pub next_part : (span : Span) (count to word : ℕ) (part word_bytes : List ℕ) → count < parts_for 8 span.len → to ≡ min (8 * count + 8) span.len → word_bytes ≡ to_le_bytes w64 word → part ≡ take (to - 8 * count) word_bytes → IsNextPart span count word part
next_part span count to word part word_bytes below to_is bytes_are part_is = record {
  below = below;
  part_is =
      let begins = part_begins span.len count below in
      part_is
      ∙ (ap (take (to - 8 * count)) bytes_are
      ∙ (ap (λ (n : ℕ). take n (to_le_bytes w64 word)) (let h : to - 8 * count ≡ min (span.len - 8 * count) 8 = omega (arith, to_is, begins) in h) ∙ first_eight word (span.len - 8 * count)));
}

-- what stands behind it stays
pub rest_next : (out initial part word_bytes : List ℕ) (count to len word : ℕ) → 8 * count < len → to ≡ min (8 * count + 8) len → len ≤ length out → word_bytes ≡ to_le_bytes w64 word → part ≡ take (to - 8 * count) word_bytes
    → drop (min (8 * count) len) out ≡ drop (min (8 * count) len) initial → drop (min (8 * (count + 1)) len) (put_mid (8 * count) (to - 8 * count) out part) ≡ drop (min (8 * (count + 1)) len) initial
rest_next out initial part word_bytes count to len word below to_is room bytes_are part_is behind =
    let eight : length word_bytes ≡ 8 = ap (λ (bs : List ℕ). length bs) bytes_are in
    let part_len : length part ≡ to - 8 * count = ap (λ (bs : List ℕ). length bs) part_is ∙ length-take-le (to - 8 * count) word_bytes (omega (arith, eight, to_is)) in
    drop-put_mid (8 * count) (to - 8 * count) out part (min (8 * (count + 1)) len) (omega (arith, to_is)) (omega (arith, to_is)) part_len
    ∙ rest_behind initial out (min (8 * count) len) (min (8 * (count + 1)) len) (omega arith) behind

-- one word more that agrees
pub agree_more : (a b : MemSeen) (span : Span) (prefix out part : List ℕ) (count word : ℕ) → AgreeSoFar a span prefix count → IsCopySoFar a span out count → Reads a b → Knows b (span.at + count) word
    → 1 < span.at → span.at + parts_for 8 span.len ≤ words_in_segment b.setting.geo → span.len ≤ length out → IsNextPart span count word part → Agree part (drop (8 * count) prefix) → AgreeSoFar b span prefix (count + 1)
agree_more a b span prefix out part count word so_far copied reads knows inner within room next agrees words fits =
    let below = part_begins span.len count next.below in
    let long = front_len a span out count words copied (omega (arith, below)) room (reads.fits words fits) in
    subst (λ (bs : List ℕ). Agree bs prefix) (sym (next_bytes b span count word part words next knows inner within fits))
    (agree_both (bytes_from words span.at span.len count) part prefix (so_far words (reads.fits words fits)) (subst (λ (n : ℕ). Agree part (drop n prefix)) (sym long) agrees))

-- one word that doesn't
pub agree_no_more : (a b : MemSeen) (span : Span) (prefix out part : List ℕ) (count word : ℕ) → IsCopySoFar a span out count → Reads a b → Knows b (span.at + count) word
    → 1 < span.at → span.at + parts_for 8 span.len ≤ words_in_segment b.setting.geo → span.len ≤ length out → IsNextPart span count word part → (Agree part (drop (8 * count) prefix) → ⊥)
    → (words : List ℕ) → FitsNotes b words → IsPrefixCopy words span prefix out false
agree_no_more a b span prefix out part count word copied reads knows inner within room next differs words fits = elim (cases_Bool (has_prefix prefix (bytes_in words span))) [
  | inr other ↦ other
  | inl begins ↦
      let below = part_begins span.len count next.below in
      let long = front_len a span out count words copied (omega (arith, below)) room (reads.fits words fits) in
      let all : Agree (bytes_in words span) prefix = prefix_agrees prefix (bytes_in words span) begins in
      let first : Agree (take (8 * (count + 1)) (bytes_in words span)) prefix =
      agree_first (take (8 * (count + 1)) (bytes_in words span)) (drop (8 * (count + 1)) (bytes_in words span)) prefix
      (subst (λ (bs : List ℕ). Agree bs prefix) (sym (take-append-drop (8 * (count + 1)) (bytes_in words span))) all) in
      let joined : Agree (bytes_from words span.at span.len count ++ part) prefix =
      subst (λ (bs : List ℕ). Agree bs prefix)
      (sym (prefix_bytes words span.at span.len (count + 1) (parts_for 8 span.len) (omega (arith, next.below))) ∙ next_bytes b span count word part words next knows inner within fits) first in
      absurd (differs (subst (λ (n : ℕ). Agree part (drop n prefix)) long (agree_second (bytes_from words span.at span.len count) part prefix joined)))
]

-- all words agree
pub agree_all : (m : MemSeen) (span : Span) (prefix out : List ℕ) (count : ℕ) → AgreeSoFar m span prefix count → IsCopySoFar m span out count → count ≡ parts_for 8 span.len → length prefix ≤ span.len → span.len ≤ length out
    → (words : List ℕ) → FitsNotes m words → IsPrefixCopy words span prefix out true
agree_all m span prefix out count agrees copied all within room words fits =
    let copy : take span.len out ≡ bytes_in words span =
    ap (λ (n : ℕ). take n out) (let h : span.len ≡ min (8 * count) span.len = omega (arith, all) in h) ∙ (copied words fits ∙ ap (bytes_from words span.at span.len) all) in
    let long : length (bytes_in words span) ≡ span.len = sym (ap (λ (bs : List ℕ). length bs) copy) ∙ length-take-le span.len out room in
    (agree_prefix prefix (bytes_in words span) (omega (arith, long, within)) (subst (λ (n : ℕ). Agree (bytes_from words span.at span.len n) prefix) all (agrees words fits)), copy)

-- a span that is shorter than the prefix
pub too_short : (m : MemSeen) (span : Span) (prefix out : List ℕ) → span.at + parts_for 8 span.len ≤ words_in_segment m.setting.geo → span.len < length prefix
    → (words : List ℕ) → FitsNotes m words → IsPrefixCopy words span prefix out false
too_short m span prefix out within less words fits =
    prefix_longer prefix (bytes_in words span)
    (omega (arith, less, span_len words span.at span.len (parts_for 8 span.len) (omega (arith, within, fits.are.length_is)) (let h : span.len ≤ 8 * parts_for 8 span.len = omega arith in h)))
