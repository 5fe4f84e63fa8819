-- Generated records keep the limits of every geometry: their keys have 4 or 5 bytes, their values 1 to 6, and such an entry has one chunk.
use Rattle.std.proofs.Common.{◌≡◌, ◌+◌, ◌-◌, ◌/◌, ◌%◌, ◌^◌, ◌<◌, ◌≤◌, ◌∷◌, [], ℕ, Bool, true, false, List, length, nat_lt, if◌then◌else◌, ◌==◌, arith, length-append}
use Rattle.std.specs.Prelude.{decimal}
use Rattle.std.proofs.Math.Nat.{div-lt_iff_lt-mul}
use Rattle.std.proofs.lemmas.Fmt.{length-decimal-le}
use Rattle.std.proofs.lemmas.List.Elements.{All-cons, All-nil}
use Rattle.cm_geo.specs.declared.geo.Geo.{Geo}
use Rattle.cm_geo.specs.Need.{Fits, parts_for}
use Rattle.cm_geo.proofs.Ranges.{chunk_words_range}
use Rattle.cm_plain.specs.declared.op.Op.TheVariants.{Put, Get, PutIfAbsent, Replace, Remove}
use Rattle.cm_plain.specs.Limits.{IsKey, KeepsLimits}
use Rattle.cm_script.specs.Scripts.{IsFor, IsLineFor}
use Rattle.cm_make.specs.Generated.{caller_of, id_of, key_text, line_of, lines_from, op_by, value_text}

-- a key is short
key_length : (caller id : ℕ) → caller < 10 → id < 100 → (1 ≤ length (key_text caller id)) × (length (key_text caller id) ≤ 5)
key_length caller id one two =
    let of_caller = length-decimal-le 1 caller (omega arith) (omega arith) (omega arith) in
    let of_id = length-decimal-le 2 id (omega arith) (omega arith) (omega arith) in
    let whole : length (key_text caller id) ≡ 1 + length (decimal caller) + 1 + length (decimal id) = simp length-append (omega arith) in
    (omega arith, omega arith)

-- a value is short
value_length : (number : ℕ) → length (value_text number) ≤ 6
value_length number = length-decimal-le 6 (number / 2 ^ 20 % 1000000) (omega arith) (omega arith) (omega arith)

-- eight bytes or fewer fill one part of eight at most
one_part : (bytes : ℕ) → bytes ≤ 8 → parts_for 8 bytes ≤ 1
one_part bytes few = omega arith

-- so many words or fewer fill one chunk at most
few_words : (size words : ℕ) → 4 ≤ size → words ≤ 4 → parts_for size words ≤ 1
few_words size words wide few =
    let below = (div-lt_iff_lt-mul {k = size} {x = words + size - 1} {y = 2} (omega arith)).1 (omega arith) in
    omega arith

-- a short key and a short value fit every geometry
short_fits : (geo : Geo) (key_len value_len : ℕ) → 1 ≤ key_len → key_len ≤ 8 → value_len ≤ 8 → Fits geo key_len value_len
short_fits geo key_len value_len some short small =
    let chunk = chunk_words_range geo in
    let of_key = one_part key_len short in
    let of_value = one_part value_len small in
    record {
      key_nonempty = some;
      key_short = omega arith;
      value_short = omega arith;
      run_short = omega (arith, few_words geo.chunk_words (2 + parts_for 8 key_len + parts_for 8 value_len) chunk.0 (omega arith));
    }

-- whichever operation is chosen, a key and a value that fit keep the limits
choices : (put get remove absent : Bool) (geo : Geo) (key value : List ℕ) → IsKey key → Fits geo (length key) (length value)
    → KeepsLimits geo (if put then Put key value else (if get then Get key else (if remove then Remove key else (if absent then PutIfAbsent key value else Replace key value))))
choices true get remove absent geo key value is_key fits = fits
choices false true remove absent geo key value is_key fits = is_key
choices false false true absent geo key value is_key fits = is_key
choices false false false true geo key value is_key fits = fits
choices false false false false geo key value is_key fits = fits

chosen_fits : (geo : Geo) (choice : ℕ) (key value : List ℕ) → IsKey key → Fits geo (length key) (length value) → KeepsLimits geo (op_by choice key value)
unfolding op_by
chosen_fits geo choice key value is_key fits = choices (nat_lt choice 9) (nat_lt choice 12) (nat_lt choice 14) (choice == 14) geo key value is_key fits

-- the record of a number is one for every geometry
line_fits : (geo : Geo) (i number : ℕ) → IsLineFor geo (line_of i number)
unfolding line_of
line_fits geo i number =
    let key = key_length (caller_of i) (id_of number) (omega arith) (omega arith) in
    let value = value_length number in
    let is_key : IsKey (key_text (caller_of i) (id_of number)) = (key.0, omega arith) in
    let fits = short_fits geo (length (key_text (caller_of i) (id_of number))) (length (value_text number)) key.0 (omega arith) (omega arith) in
    record {
      caller = omega arith;
      limits = chosen_fits geo (number / 2 ^ 60) (key_text (caller_of i) (id_of number)) (value_text number) is_key fits;
    }

-- so are those of many numbers
pub lines_fit : (geo : Geo) (i : ℕ) (numbers : List ℕ) → IsFor geo (lines_from i numbers)
unfolding lines_from
lines_fit geo i [] = All-nil (IsLineFor geo)
lines_fit geo i (number ∷ numbers) = All-cons (IsLineFor geo) (line_of i number) (lines_from (i + 1) numbers) (line_fits geo i number) (lines_fit geo (i + 1) numbers)
