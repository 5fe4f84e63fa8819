-- What the words of an entry that is read are.
use Rattle.std.proofs.Common.{◌≡◌, ℕ, ◌-◌, ◌*◌, ◌≤◌, ◌++◌, ◌==◌, ◌&&◌, true, false, not, List, [], ◌∷◌, length, arith, refl, ap, sym, ◌∙◌, inl, inr, take, drop, replicate, if◌then◌else◌}
use Rattle.std.specs.List.{list_all}
use Rattle.std.specs.Int.{to_le_bytes, w64}
use Rattle.std.proofs.lemmas.Bool.{cases_Bool}
use Rattle.std.proofs.lemmas.Bool.Decides.{nat_tests}
use Rattle.std.proofs.lemmas.Grind.{common_steps}
use Rattle.cm_geo.specs.declared.geo.Geo.{Geo}
use Rattle.cm_geo.specs.Need.{parts_for}
use Rattle.cm_plain.specs.declared.reply.Pair.{Pair}
use Rattle.cm_plain.specs.Readings.{bytes_of, checksum, entry, padded, is_padded, key_len, lengths_fit, reading_of, value_len, wrong_checksum, wrong_padding, wrong_lengths}
use Rattle.std.proofs.lemmas.List.{length-drop, length-take-le, take-append-drop}
use Rattle.std.proofs.lemmas.Bool.Decides.{eqb_tells}

-- bytes that are all zero
zeros_are : (bytes : List ℕ) → list_all (λ byte. byte == 0) bytes ≡ true → bytes ≡ replicate (length bytes) 0
zeros_are [] e = refl
zeros_are (byte ∷ bytes) e = elim (cases_Bool (byte == 0)) [
  | inl zero_is ↦ (let here : byte ≡ 0 = grind (arith, nat_tests) in let rest = zeros_are bytes (rw zero_is at e) in rw (here, sym rest) refl)
  | inr other ↦ (let fails : false ≡ true = rw other at e in absurd (clash fails))
]
  where
    clash : false ≡ true → ⊥
    clash e = cc e

eight : (word : ℕ) → length (to_le_bytes w64 word) ≡ 8
eight word = refl

-- words have 8 bytes each
pub bytes_len : (words : List ℕ) → length (bytes_of words) ≡ 8 * length words
bytes_len [] = refl
bytes_len (word ∷ words) = let rest = bytes_len words in grind (arith, common_steps)

-- bytes are no more than those of their whole words
pub whole_words : (count len : ℕ) → len ≡ 8 * parts_for 8 count → count ≤ len
whole_words count len e = omega arith

-- bytes of whole words, of which those behind so many are zero
pub padded_is : (count : ℕ) (bytes : List ℕ) → length bytes ≡ 8 * parts_for 8 count → is_padded count bytes ≡ true → bytes ≡ padded (take count bytes)
padded_is count bytes len zeros =
    let within : count ≤ length bytes = whole_words count (length bytes) len in
    let taken : length (take count bytes) ≡ count = length-take-le count bytes within in
    let rest : length (drop count bytes) ≡ 8 * parts_for 8 count - count = length-drop count bytes ∙ ap (λ (n : ℕ). n - count) len in
    let zero_bytes : drop count bytes ≡ replicate (8 * parts_for 8 count - count) 0 = zeros_are (drop count bytes) zeros ∙ ap (λ (n : ℕ). replicate n 0) rest in
    let fill : replicate (8 * parts_for 8 count - count) 0 ≡ replicate (8 * parts_for 8 (length (take count bytes)) - length (take count bytes)) 0 = ap (λ (n : ℕ). replicate (8 * parts_for 8 n - n) 0) (sym taken) in
    sym (take-append-drop count bytes) ∙ ap (λ (end : List ℕ). take count bytes ++ end) (zero_bytes ∙ fill)

-- a reading is of one pair
pub one_entry : (p q : Pair) → entry p ≡ entry q → p ≡ q
one_entry p q e = cc e

-- what is known of an entry that is read
pub record IsRead (geo : Geo) (chunk head stored_checksum : ℕ) (key value : List ℕ) (pair : Pair) : Type 0 where
  pub fit : lengths_fit geo chunk head ≡ true
  pub sum_is : checksum head key value ≡ stored_checksum
  pub key_padded : is_padded (key_len head) key ≡ true
  pub value_padded : is_padded (value_len head) value ≡ true
  pub key_is : pair.key ≡ take (key_len head) key
  pub value_is : pair.value ≡ take (value_len head) value

pub is_read : (geo : Geo) (chunk head stored_checksum : ℕ) (key value : List ℕ) (pair : Pair) → reading_of geo chunk head stored_checksum key value ≡ entry pair → IsRead geo chunk head stored_checksum key value pair
is_read geo chunk head stored_checksum key value pair e = elim (cases_Bool (lengths_fit geo chunk head)) [
  | inr fails ↦ (let clash : wrong_lengths ≡ entry pair = rw fails at e in cc clash)
  | inl fit ↦ by_sum fit (rw fit at e)
]
  where
    by_padding : lengths_fit geo chunk head ≡ true → checksum head key value ≡ stored_checksum
        → (if not (is_padded (key_len head) key && is_padded (value_len head) value) then wrong_padding else entry (record { key = take (key_len head) key; value = take (value_len head) value })) ≡ entry pair
        → IsRead geo chunk head stored_checksum key value pair
    by_padding fit sum_is e = elim (cases_Bool (is_padded (key_len head) key)) [
      | inr fails ↦ (let clash : wrong_padding ≡ entry pair = rw fails at e in cc clash)
      | inl key_yes ↦ elim (cases_Bool (is_padded (value_len head) value)) [
        | inr fails ↦ (let clash : wrong_padding ≡ entry pair = rw (key_yes, fails) at e in cc clash)
        | inl value_yes ↦ (
            let pair_is : entry (record { key = take (key_len head) key; value = take (value_len head) value }) ≡ entry pair = rw (key_yes, value_yes) at e in
            record {
              fit = fit;
              sum_is = sum_is;
              key_padded = key_yes;
              value_padded = value_yes;
              key_is = ap (λ (p : Pair). p.key) (sym (one_entry (record { key = take (key_len head) key; value = take (value_len head) value }) pair pair_is));
              value_is = ap (λ (p : Pair). p.value) (sym (one_entry (record { key = take (key_len head) key; value = take (value_len head) value }) pair pair_is));
            })
      ]
    ]

    by_sum : lengths_fit geo chunk head ≡ true
        → (if not (checksum head key value == stored_checksum) then wrong_checksum
        else (if not (is_padded (key_len head) key && is_padded (value_len head) value) then wrong_padding else entry (record { key = take (key_len head) key; value = take (value_len head) value }))) ≡ entry pair
        → IsRead geo chunk head stored_checksum key value pair
    by_sum fit e = elim (eqb_tells (checksum head key value) stored_checksum) [
      | inr fails ↦ (let clash : wrong_checksum ≡ entry pair = rw fails.0 at e in cc clash)
      | inl yes' ↦ by_padding fit yes'.1 (rw yes'.0 at e)
    ]
