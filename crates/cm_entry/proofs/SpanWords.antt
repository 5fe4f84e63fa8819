-- The bytes that stand in words, one word more at a time.
use Rattle.std.proofs.Common.{◌≡◌, ℕ, ◌+◌, ◌-◌, ◌*◌, ◌<◌, ◌≤◌, ◌⊎◌, List, [], ◌∷◌, ◌++◌, length, get_or, take, drop, arith, ap, sym, ◌∙◌, inl, inr, length-drop, min}
use Rattle.std.specs.Int.{div_ceil, to_le_bytes, w64}
use Rattle.std.proofs.lemmas.Bool.{cases_lt}
use Rattle.std.proofs.lemmas.List.{append-nil, get_or-drop, length-take-le, take_all, take_at, take-take, take_more, take-append-drop, take_min}
use Rattle.std.proofs.lemmas.Grind.{flat_map-append}
use Rattle.std.proofs.Math.Seq.{take-append-add}
use Rattle.cm_geo.specs.Need.{parts_for}
use Rattle.cm_plain.specs.Readings.{bytes_of}
use Rattle.cm_plain.proofs.Padding.{bytes_len}
use Rattle.cm_entry.specs.Spans.{bytes_from}

cases_le : (a b : ℕ) → (a ≤ b) ⊎ (b ≤ a)
cases_le a b = elim (cases_lt b a) [ inl less ↦ inr (omega arith) | inr more ↦ inl more ]

-- so many words from an address on
pub stretch_len : (words : List ℕ) (at count : ℕ) → at + count ≤ length words → length (take count (drop at words)) ≡ count
stretch_len words at count within = length-take-le count (drop at words) (omega (arith, length-drop at words))

-- one word more
pub stretch_more : (words : List ℕ) (at count : ℕ) → at + count < length words → take (count + 1) (drop at words) ≡ take count (drop at words) ++ get_or words (at + count) 0 ∷ []
stretch_more words at count within =
    take_more (drop at words) count 0 (omega (arith, length-drop at words))
    ∙ ap (λ (w : ℕ). take count (drop at words) ++ w ∷ []) (get_or-drop at words count 0)

-- the bytes of one word more
pub bytes_more : (ws : List ℕ) (word : ℕ) → bytes_of (ws ++ word ∷ []) ≡ bytes_of ws ++ to_le_bytes w64 word
bytes_more ws word = flat_map-append (to_le_bytes w64) ws (word ∷ []) ∙ ap (λ (bs : List ℕ). bytes_of ws ++ bs) (append-nil (to_le_bytes w64 word))

-- the bytes of the first words are the first bytes
pub bytes_prefix : (ws : List ℕ) (count : ℕ) → bytes_of (take count ws) ≡ take (8 * count) (bytes_of ws)
bytes_prefix ws count = elim (cases_le count (length ws)) [
  | inr more ↦ ap (λ (xs : List ℕ). bytes_of xs) (take_all count ws (omega arith)) ∙ sym (take_all (8 * count) (bytes_of ws) (omega (arith, bytes_len ws)))
  | inl within ↦
      sym (ap (λ (xs : List ℕ). take (8 * count) (bytes_of xs)) (sym (take-append-drop count ws))
      ∙ (ap (take (8 * count)) (flat_map-append (to_le_bytes w64) (take count ws) (drop count ws))
      ∙ take_at (bytes_of (take count ws)) (bytes_of (drop count ws)) (8 * count) (bytes_len (take count ws) ∙ ap (λ (n : ℕ). 8 * n) (length-take-le count ws within))))
]

-- no word, no byte
pub span_none : (words : List ℕ) (at len : ℕ) → bytes_from words at len 0 ≡ []
unfolding bytes_from
span_none words at len = take_all len [] (omega arith)

-- the bytes of whole words
pub span_whole : (words : List ℕ) (at len count : ℕ) → len ≡ 8 * count → bytes_from words at len count ≡ bytes_of (take count (drop at words))
unfolding bytes_from
span_whole words at len count e = take_all len (bytes_of (take count (drop at words))) (within_limit (take count (drop at words)) (stretch_short (drop at words) count))
  where
    stretch_short : (ws : List ℕ) (count : ℕ) → length (take count ws) ≤ count
    stretch_short ws count = elim (cases_le count (length ws)) [
      | inl within ↦ omega (arith, length-take-le count ws within)
      | inr more ↦ omega (arith, ap (λ (xs : List ℕ). length xs) (take_all count ws (omega arith)))
    ]

    within_limit : (ws : List ℕ) → length ws ≤ count → length (bytes_of ws) ≤ len
    within_limit ws few = omega (arith, bytes_len ws)

-- as many bytes as the length
pub span_len : (words : List ℕ) (at len count : ℕ) → at + count ≤ length words → len ≤ 8 * count → length (bytes_from words at len count) ≡ len
unfolding bytes_from
span_len words at len count within within_limit =
    let long : length (bytes_of (take count (drop at words))) ≡ 8 * count = bytes_len (take count (drop at words)) ∙ ap (λ (n : ℕ). 8 * n) (stretch_len words at count within) in
    length-take-le len (bytes_of (take count (drop at words))) (omega (arith, long))

joined : (xs ys : List ℕ) (len long : ℕ) → length xs ≡ long → long ≤ len → take len (xs ++ ys) ≡ xs ++ take (len - long) ys
joined xs ys len long e within =
    ap (λ (n : ℕ). take n (xs ++ ys)) (let h : len ≡ length xs + (len - long) = omega (arith, e) in h) ∙ take-append-add xs ys (len - long)

-- one word more
pub span_more : (words : List ℕ) (at len count : ℕ) → at + count < length words → 8 * count ≤ len
    → bytes_from words at len (count + 1) ≡ bytes_from words at len count ++ take (len - 8 * count) (to_le_bytes w64 (get_or words (at + count) 0))
unfolding bytes_from
span_more words at len count within within_limit =
    let ws : List ℕ = take count (drop at words) in
    let word : ℕ = get_or words (at + count) 0 in
    let long : length (bytes_of ws) ≡ 8 * count = bytes_len ws ∙ ap (λ (n : ℕ). 8 * n) (stretch_len words at count (omega arith)) in
    let all : take len (bytes_of ws) ≡ bytes_of ws = take_all len (bytes_of ws) (omega (arith, long)) in
    ap (λ (xs : List ℕ). take len (bytes_of xs)) (stretch_more words at count within)
    ∙ (ap (take len) (bytes_more ws word)
    ∙ (joined (bytes_of ws) (to_le_bytes w64 word) len (8 * count) long within_limit
    ∙ ap (λ (bs : List ℕ). bs ++ take (len - 8 * count) (to_le_bytes w64 word)) (sym all)))

both_prefixes : (a b : ℕ) (xs : List ℕ) → take a (take b xs) ≡ take b (take a xs)
both_prefixes a b xs = elim (cases_le a b) [
  | inl below ↦ take-take a b xs below ∙ sym (take_all b (take a xs) (omega (arith, within_limit a xs)))
  | inr above ↦ take_all a (take b xs) (omega (arith, within_limit b xs)) ∙ sym (take-take b a xs (omega arith))
]
  where
    within_limit : (n : ℕ) (ys : List ℕ) → length (take n ys) ≤ n
    within_limit n ys = elim (cases_le n (length ys)) [
      | inl within ↦ omega (arith, length-take-le n ys within)
      | inr more ↦ omega (arith, ap (λ (zs : List ℕ). length zs) (take_all n ys (omega arith)))
    ]

-- the bytes of fewer words are the first ones of those of more
pub prefix_bytes : (words : List ℕ) (at len count all : ℕ) → count ≤ all → bytes_from words at len count ≡ take (8 * count) (bytes_from words at len all)
unfolding bytes_from
prefix_bytes words at len count all within_limit =
    ap (λ (xs : List ℕ). take len (bytes_of xs)) (sym (take-take count all (drop at words) within_limit))
    ∙ (ap (take len) (bytes_prefix (take all (drop at words)) count) ∙ both_prefixes len (8 * count) (bytes_of (take all (drop at words))))

-- of a word's bytes there are 8
pub first_eight : (word left : ℕ) → take (min left 8) (to_le_bytes w64 word) ≡ take left (to_le_bytes w64 word)
first_eight word left = take_min left (to_le_bytes w64 word)

-- the parts before the last one are whole
pub part_begins : (len i : ℕ) → i < parts_for 8 len → 8 * i < len
part_begins len i below = omega arith

-- the quotient that the code rounds up
pub parts_are : (len parts : ℕ) → parts ≡ div_ceil len 8 → parts ≡ parts_for 8 len
parts_are len parts e = omega arith
