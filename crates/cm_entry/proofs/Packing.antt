-- Words that are packed from bytes have the bytes, and a hash goes on over them.
use Rattle.std.proofs.Common.{◌≡◌, ℕ, zero, suc, ◌+◌, ◌-◌, ◌*◌, ◌<◌, ◌≤◌, List, [], ◌∷◌, ◌++◌, length, map, take, drop, replicate, fold, get_or, refl, ap, sym, ◌∙◌, arith, ⊎_elim, append_assoc}
use Rattle.std.specs.List.{range_with_len}
use Rattle.std.specs.Int.{to_le_bytes, from_le_bytes, w64}
use Rattle.std.proofs.lemmas.Bool.{cases_lt}
use Rattle.std.proofs.lemmas.Grind.{common_steps}
use Rattle.std.proofs.lemmas.Nat.{le_bytes_8}
use Rattle.std.proofs.lemmas.List.{append-nil, length-append, length-drop, length-replicate, length-take-le, drop-drop, drop_all, take_all, take-append-drop, take_more, get_or-drop}
use Rattle.std.proofs.lemmas.List.Concat.{flat_map-append}
use Rattle.std.proofs.lemmas.List.FromFn.{fill_by_all, length-map-range_with_len, get_or-map-range_with_len}
use Rattle.cm_geo.specs.Hash.{hash, hash_byte}
use Rattle.cm_geo.specs.Need.{parts_for}
use Rattle.cm_plain.specs.Readings.{bytes_of, padded}
use Rattle.cm_entry.specs.Packing.{hash_on, padded_word, part_of, word_of, words_of}

-- each of these bytes is below 256
abbrev pub AreBytes : List ℕ → Type 0
AreBytes bytes = (i : ℕ) → get_or bytes i 0 < 256

zeros_small : (n i : ℕ) → get_or (replicate n 0) i 0 < 256
zeros_small zero i = omega arith
zeros_small (suc n) zero = omega arith
zeros_small (suc n) (suc i) = zeros_small n i

then_zeros : (bytes : List ℕ) (n : ℕ) → AreBytes bytes → AreBytes (bytes ++ replicate n 0)
then_zeros [] n small i = zeros_small n i
then_zeros (byte ∷ bytes) n small zero = small zero
then_zeros (byte ∷ bytes) n small (suc i) = then_zeros bytes n (λ k. small (suc k)) i

none_small : (i : ℕ) → get_or [] i 0 < 256
none_small zero = omega arith
none_small (suc i) = omega arith

drop_small : (n : ℕ) (bytes : List ℕ) → AreBytes bytes → AreBytes (drop n bytes)
drop_small n bytes small i = rw (get_or-drop n bytes i 0) (small (n + i))

take_small : (n : ℕ) (bytes : List ℕ) → AreBytes bytes → AreBytes (take n bytes)
take_small zero bytes small i = none_small i
take_small (suc n) [] small i = none_small i
take_small (suc n) (byte ∷ bytes) small zero = small zero
take_small (suc n) (byte ∷ bytes) small (suc i) = take_small n bytes (λ k. small (suc k)) i

padded_len : (bytes : List ℕ) → length bytes ≤ 8 → length (padded_word bytes) ≡ 8
padded_len bytes within_limit = length-append bytes (replicate (8 - length bytes) 0) ∙ (ap (λ (n : ℕ). length bytes + n) (length-replicate (8 - length bytes) 0) ∙ omega arith)

-- the bytes of a word are those that it was packed from, with zeros behind them
pub bytes_of_word : (bytes : List ℕ) → length bytes ≤ 8 → AreBytes bytes → to_le_bytes w64 (word_of bytes) ≡ padded_word bytes
unfolding word_of
bytes_of_word bytes within_limit small = le_bytes_8 (padded_word bytes) (from_le_bytes w64 (padded_word bytes)) (padded_len bytes within_limit) (then_zeros bytes (8 - length bytes) small) refl

pub words_len : (bytes : List ℕ) → length (words_of bytes) ≡ parts_for 8 (length bytes)
unfolding words_of
words_len bytes = length-map-range_with_len (λ number. word_of (part_of bytes number)) 0 (parts_for 8 (length bytes))

pub word_in_words : (bytes : List ℕ) (number : ℕ) → number < parts_for 8 (length bytes) → get_or (words_of bytes) number 0 ≡ word_of (part_of bytes number)
unfolding words_of
word_in_words bytes number inside = get_or-map-range_with_len (λ k. word_of (part_of bytes k)) 0 (parts_for 8 (length bytes)) number number 0 inside (omega arith)

-- the words of bytes: the first one, and those of the bytes behind it
words_shift : (bytes : List ℕ) (n : ℕ) → map (λ k. word_of (part_of bytes k)) (range_with_len 1 n) ≡ map (λ k. word_of (part_of (drop 8 bytes) k)) (range_with_len 0 n)
words_shift bytes n = fill_by_all (λ k. word_of (part_of (drop 8 bytes) k)) (map (λ k. word_of (part_of bytes k)) (range_with_len 1 n)) n 0
    (length-map-range_with_len (λ k. word_of (part_of bytes k)) 1 n)
    (λ k inside. get_or-map-range_with_len (λ j. word_of (part_of bytes j)) 1 n k (1 + k) 0 inside refl ∙ ap (λ (rest : List ℕ). word_of (take 8 rest)) (ap (λ (m : ℕ). drop m bytes) (twice_eight k) ∙ sym (drop-drop (8 * k) 8 bytes)))
  where
    twice_eight : (k : ℕ) → 8 * (1 + k) ≡ 8 + 8 * k
    twice_eight k = omega arith

-- bytes with their padding: the first eight, and then the others with theirs
padded_first : (bytes : List ℕ) → 0 < length bytes → padded bytes ≡ padded_word (take 8 bytes) ++ padded (drop 8 bytes)
padded_first bytes nonzero = ⊎_elim (within_limit bytes nonzero) (long bytes) (cases_lt (length bytes) 8)
  where
    zeros_same : (m n : ℕ) → m ≡ n → ◌≡◌ {A = List ℕ} (replicate m 0) (replicate n 0)
    zeros_same m n e = ap (λ (k : ℕ). replicate k 0) e

    none_padded : padded [] ≡ []
    none_padded = refl

    within_limit : (bytes : List ℕ) → 0 < length bytes → length bytes < 8 → padded bytes ≡ padded_word (take 8 bytes) ++ padded (drop 8 bytes)
    within_limit bytes nonzero below =
        rw (take_all 8 bytes (omega arith), drop_all 8 bytes (omega arith), append-nil (padded_word bytes))
        (ap (λ (zeros : List ℕ). bytes ++ zeros) (zeros_same (8 * parts_for 8 (length bytes) - length bytes) (8 - length bytes) (omega arith)))

    long : (bytes : List ℕ) → 8 ≤ length bytes → padded bytes ≡ padded_word (take 8 bytes) ++ padded (drop 8 bytes)
    long bytes enough =
        let first : padded_word (take 8 bytes) ≡ take 8 bytes = ap (λ (zeros : List ℕ). take 8 bytes ++ zeros) (zeros_same (8 - length (take 8 bytes)) 0 (let l = length-take-le 8 bytes enough in omega (arith, l))) ∙ append-nil (take 8 bytes) in
        let rest : length (drop 8 bytes) ≡ length bytes - 8 = length-drop 8 bytes in
        let zeros : ◌≡◌ {A = List ℕ} (replicate (8 * parts_for 8 (length bytes) - length bytes) 0) (replicate (8 * parts_for 8 (length (drop 8 bytes)) - length (drop 8 bytes)) 0) = zeros_same _ _ (omega (arith, rest)) in
        ap (λ (zs : List ℕ). bytes ++ zs) zeros
        ∙ (ap (λ (bs : List ℕ). bs ++ replicate (8 * parts_for 8 (length (drop 8 bytes)) - length (drop 8 bytes)) 0) (sym (take-append-drop 8 bytes))
        ∙ (append_assoc (take 8 bytes) (drop 8 bytes) _ ∙ ap (λ (bs : List ℕ). bs ++ padded (drop 8 bytes)) (sym first)))

bytes_of_map : (n : ℕ) (bytes : List ℕ) → parts_for 8 (length bytes) ≡ n → AreBytes bytes → bytes_of (map (λ k. word_of (part_of bytes k)) (range_with_len 0 n)) ≡ padded bytes
bytes_of_map zero [] e small = refl
bytes_of_map zero (byte ∷ bytes) e small = absurd (omega arith)
bytes_of_map (suc n) bytes e small =
    let nonzero : 0 < length bytes = omega arith in
    let within_limit : length (take 8 bytes) ≤ 8 = grind (arith, common_steps) in
    let rest : parts_for 8 (length (drop 8 bytes)) ≡ n = (let l = length-drop 8 bytes in omega (arith, l)) in
    ap (λ (ws : List ℕ). to_le_bytes w64 (word_of (take 8 bytes)) ++ bytes_of ws) (words_shift bytes n)
    ∙ (ap (λ (bs : List ℕ). bs ++ bytes_of (map (λ k. word_of (part_of (drop 8 bytes) k)) (range_with_len 0 n))) (bytes_of_word (take 8 bytes) within_limit (take_small 8 bytes small))
    ∙ (ap (λ (bs : List ℕ). padded_word (take 8 bytes) ++ bs) (bytes_of_map n (drop 8 bytes) rest (drop_small 8 bytes small))
    ∙ sym (padded_first bytes nonzero)))

-- the bytes of words that were packed
pub bytes_of_words : (bytes : List ℕ) → AreBytes bytes → bytes_of (words_of bytes) ≡ padded bytes
unfolding words_of
bytes_of_words bytes small = bytes_of_map (parts_for 8 (length bytes)) bytes refl small

fold_on : (xs ys : List ℕ) (state : ℕ) → fold hash_byte state (xs ++ ys) ≡ fold hash_byte (fold hash_byte state xs) ys
fold_on [] ys state = refl
fold_on (x ∷ xs) ys state = fold_on xs ys (hash_byte state x)

-- a hash over bytes and then over others
pub hash_on_append : (xs ys : List ℕ) (state : ℕ) → hash_on state (xs ++ ys) ≡ hash_on (hash_on state xs) ys
unfolding hash_on
hash_on_append xs ys state = fold_on xs ys state

-- the hash of bytes goes on over others
pub hash_append : (xs ys : List ℕ) → hash_on (hash xs) ys ≡ hash (xs ++ ys)
unfolding hash_on hash
hash_append xs ys = sym (fold_on xs ys 0xcbf29ce484222325)

pub hash_on_none : (bytes : List ℕ) (state : ℕ) → hash_on state (bytes_of (take 0 (words_of bytes))) ≡ state
unfolding hash_on
hash_on_none bytes state = refl

-- a hash over the words so far, and over the next one
pub hash_on_more : (bytes : List ℕ) (number state now hashed : ℕ) → number < parts_for 8 (length bytes) → now ≡ hash_on state (bytes_of (take number (words_of bytes)))
    → hashed ≡ hash_on now (to_le_bytes w64 (word_of (part_of bytes number))) → hashed ≡ hash_on state (bytes_of (take (number + 1) (words_of bytes)))
hash_on_more bytes number state now hashed inside so_far next =
    let there : number < length (words_of bytes) = rw (words_len bytes) inside in
    let word = get_or (words_of bytes) number 0 in
    let more : take (number + 1) (words_of bytes) ≡ take number (words_of bytes) ++ word ∷ [] = take_more (words_of bytes) number 0 there in
    let split : bytes_of (take (number + 1) (words_of bytes)) ≡ bytes_of (take number (words_of bytes)) ++ to_le_bytes w64 word
    = ap (λ (ws : List ℕ). bytes_of ws) more ∙ (flat_map-append (to_le_bytes w64) (take number (words_of bytes)) (word ∷ []) ∙ ap (λ (bs : List ℕ). bytes_of (take number (words_of bytes)) ++ bs) (append-nil (to_le_bytes w64 word))) in
    next ∙ (ap (λ (w : ℕ). hash_on now (to_le_bytes w64 w)) (sym (word_in_words bytes number inside))
    ∙ (ap (λ (h : ℕ). hash_on h (to_le_bytes w64 word)) so_far
    ∙ (sym (hash_on_append (bytes_of (take number (words_of bytes))) (to_le_bytes w64 word) state) ∙ ap (λ (bs : List ℕ). hash_on state bs) (sym split))))

-- a hash over all words
pub hash_on_all : (bytes : List ℕ) (number state hashed : ℕ) → AreBytes bytes → parts_for 8 (length bytes) ≤ number → hashed ≡ hash_on state (bytes_of (take number (words_of bytes))) → hashed ≡ hash_on state (padded bytes)
hash_on_all bytes number state hashed small all so_far =
    let long : length (words_of bytes) ≤ number = rw (words_len bytes) all in
    so_far ∙ (ap (λ (ws : List ℕ). hash_on state (bytes_of ws)) (take_all number (words_of bytes) long) ∙ ap (λ (bs : List ℕ). hash_on state bs) (bytes_of_words bytes small))
