-- Numbers of a few bytes each, one after the other.
use Rattle.std.proofs.Common.{◌≡◌, ◌<◌, ◌≤◌, ◌+◌, ◌*◌, ◌-◌, ◌^◌, ◌++◌, ◌∷◌, ◌∙◌, [], ℕ, zero, suc, List, length, take, drop, get_or, length-append, length-drop, refl, sym, ap, arith}
use Rattle.std.proofs.lemmas.List.{drop-drop, drop_at, get_or-drop, length-take-le, take-append-drop, take-append-le}
use Rattle.std.proofs.lemmas.Nat.{le_bytes_4, le_bytes_8}
use Rattle.std.proofs.lemmas.Slice.{take-put_mid}
use borrow.Rule.Slice.PartMut.{post_of, put_mid}
use Rattle.std.proofs.Math.Seq.{take-add}
use Rattle.std.specs.Int.{from_le_bytes, w32, w64}
use Rattle.std.specs.List.{AllByRecursion, flat_map}
use Rattle.byteorder.specs.Endian.{IsRead, little_bytes, little_number}
use Rattle.byteorder.specs.Numbers.{length-bytes_low_first, little_from-take, little_number-reads_back}
use Rattle.cm_image.specs.Refusals.{number_at}

-- each number of a list is a byte
abbrev pub AreBytes : List ℕ → Type 0
AreBytes bytes = (i : ℕ) → get_or bytes i 0 < 256

-- numbers of so many bytes are read as they were written
abbrev pub WritesBack : ℕ → Type 0
WritesBack size = (bytes : List ℕ) → length bytes ≡ size → AreBytes bytes → little_bytes size (little_number size bytes) ≡ bytes

pub four_bytes : WritesBack 4
four_bytes bytes long small =
    let same : little_number 4 bytes ≡ from_le_bytes w32 bytes = omega arith in
    le_bytes_4 bytes (little_number 4 bytes) long small same

pub eight_bytes : WritesBack 8
eight_bytes bytes long small =
    let same : little_number 8 bytes ≡ from_le_bytes w64 bytes = omega arith in
    le_bytes_8 bytes (little_number 8 bytes) long small same

-- a rest of bytes is bytes
pub bytes-drop : (from : ℕ) (bytes : List ℕ) → AreBytes bytes → AreBytes (drop from bytes)
bytes-drop from bytes small i = rw get_or-drop (small _)

-- a front of bytes is bytes
pub bytes-take : (count : ℕ) (bytes : List ℕ) → AreBytes bytes → AreBytes (take count bytes)
bytes-take zero bytes small i = omega arith
bytes-take (suc count) [] small i = small i
bytes-take (suc count) (x ∷ xs) small zero = small zero
bytes-take (suc count) (x ∷ xs) small (suc i) = bytes-take count xs (λ k. small (suc k)) i

-- how many bytes the numbers of a list have
pub length-bytes : (size : ℕ) (numbers : List ℕ) → length (flat_map (little_bytes size) numbers) ≡ size * length numbers
length-bytes size [] = omega arith
length-bytes size (x ∷ xs) = omega (arith, length-append {A = ℕ}, length-bytes_low_first 0 size x, length-bytes size xs)

-- the first number of a list of bytes, written again, is their front
pub front-again : (size : ℕ) (bytes : List ℕ) → WritesBack size → size ≤ length bytes → AreBytes bytes → little_bytes size (little_number size bytes) ≡ take size bytes
front-again size bytes back room small =
    let long : length (take size bytes) ≡ size = length-take-le size bytes room in
    let same : little_number size (take size bytes) ≡ little_number size bytes = little_from-take 0 size size bytes (omega arith) in
    ap (little_bytes size) (sym same) ∙ back (take size bytes) long (bytes-take size bytes small)

-- numbers that were read from bytes, written again, are these bytes
pub bytes-again : (size : ℕ) (bytes numbers : List ℕ) → WritesBack size → length bytes ≡ size * length numbers → AreBytes bytes
    → IsRead little_number size bytes numbers → flat_map (little_bytes size) numbers ≡ bytes
bytes-again size [] [] back long small reads = refl
bytes-again size (b ∷ bs) [] back long small reads = absurd (omega arith)
bytes-again size bytes (x ∷ xs) back long small reads =
    let more : size * suc (length xs) ≡ size + size * length xs = grind arith in
    let room : size ≤ length bytes = omega arith in
    let none : size * 0 ≡ 0 = omega arith in
    let first : x ≡ little_number size bytes = reads 0 (omega arith) ∙ ap (λ (n : ℕ). little_number size (drop n bytes)) none in
    let rest : flat_map (little_bytes size) xs ≡ drop size bytes =
    bytes-again size (drop size bytes) xs back (omega (arith, length-drop size bytes)) (bytes-drop size bytes small) (λ k lt.
    let next : size * suc k ≡ size + size * k = grind arith in
    reads (suc k) (omega arith) ∙ ap (λ (n : ℕ). little_number size (drop n bytes)) next
    ∙ ap (little_number size) (sym (drop-drop (size * k) size bytes))) in
    rw (first, rest, front-again size bytes back room small) (take-append-drop size bytes)

-- a list of numbers has its bytes alone
pub one-list : (size : ℕ) (xs ys : List ℕ) → 0 < size → AllByRecursion (λ x. x < 256 ^ size) xs → AllByRecursion (λ y. y < 256 ^ size) ys
    → flat_map (little_bytes size) xs ≡ flat_map (little_bytes size) ys → xs ≡ ys
one-list size [] [] some p q e = refl
one-list size [] (y ∷ ys) some p q e = absurd (omega (arith, ap (length {A = ℕ}) e, length-bytes size (y ∷ ys), length-bytes size []))
one-list size (x ∷ xs) [] some p q e = absurd (omega (arith, ap (length {A = ℕ}) e, length-bytes size (x ∷ xs), length-bytes size []))
one-list size (x ∷ xs) (y ∷ ys) some p q e =
    let front = little_bytes size in
    let head : x ≡ y = sym (little_number-reads_back size x (flat_map front xs) p.0) ∙ ap (little_number size) e ∙ little_number-reads_back size y (flat_map front ys) q.0 in
    let tail : flat_map front xs ≡ flat_map front ys =
    sym (drop_at (front x) (flat_map front xs) size (length-bytes_low_first 0 size x)) ∙ ap (drop size) e
    ∙ drop_at (front y) (flat_map front ys) size (length-bytes_low_first 0 size y) in
    rw (head, one-list size xs ys some p.1 q.1 tail) refl

-- numbers of four bytes each, from a place on
abbrev pub numbers_at : ℕ → ℕ → List ℕ → List ℕ
numbers_at place zero bytes = []
numbers_at place (suc count) bytes = number_at place bytes ∷ numbers_at (place + 4) count bytes

-- written again they are the bytes from there on
pub numbers-again : (place count : ℕ) (bytes : List ℕ) → place + 4 * count ≤ length bytes → AreBytes bytes
    → flat_map (little_bytes 4) (numbers_at place count bytes) ≡ take (4 * count) (drop place bytes)
unfolding number_at
numbers-again place zero bytes room small = refl
numbers-again place (suc count) bytes room small =
    let first : little_bytes 4 (number_at place bytes) ≡ take 4 (drop place bytes) =
    front-again 4 (drop place bytes) four_bytes (omega (arith, length-drop place bytes)) (bytes-drop place bytes small) in
    let rest = numbers-again (place + 4) count bytes (omega arith) small in
    let long : 4 * suc count ≡ 4 + 4 * count = omega arith in
    ap (λ (t : List ℕ). t ++ flat_map (little_bytes 4) (numbers_at (place + 4) count bytes)) first
    ∙ ap (λ (t : List ℕ). take 4 (drop place bytes) ++ t) (rest ∙ ap (take (4 * count)) (sym (drop-drop 4 place bytes)))
    ∙ sym (take-add 4 (4 * count) (drop place bytes)) ∙ ap (λ (n : ℕ). take n (drop place bytes)) (sym long)

-- a list whose end was written over, in a `Vec` of that length
pub put-end : (start long : ℕ) (old new items : List ℕ) → length old ≡ long → start + length new ≡ long
    → take long (put_mid start (length old - start) old new ++ drop (length (put_mid start (length old - start) old new)) items) ≡ take start old ++ new
put-end start long old new items is_long end =
    let whole = put_mid start (length old - start) old new in
    let behind = post_of start (length old - start) old in
    let fits : long ≤ length whole =
    omega (arith, length-append (take start old) (new ++ behind), length-append new behind, length-take-le start old (omega arith)) in
    take-append-le long whole (drop (length whole) items) fits ∙ take-put_mid start (length old - start) old new long (omega arith) (omega arith)
