-- The script that is generated from a seed (own; the numbers are those of Knuth's MMIX linear congruential generator).
use Rattle.std.specs.Prelude.{ℕ, zero, suc, ◌+◌, ◌*◌, ◌/◌, ◌%◌, ◌^◌, ◌==◌, ◌++◌, ◌∷◌, [], List, codes, decimal, nat_lt, if◌then◌else◌}
use Rattle.cm_plain.specs.declared.op.Op.{Op}
use Rattle.cm_plain.specs.declared.op.Op.TheVariants.{Put, Get, PutIfAbsent, Replace, Remove}
use Rattle.cm_script.specs.declared.line.Line.{Line}

-- the number after a number
unfoldable pub next_number : ℕ → ℕ
next_number number = (number * 6364136223846793005 + 1442695040888963407) % 2 ^ 64

-- so many numbers, each the next of the one before, and the first the next of the seed
unfoldable pub numbers : ℕ → ℕ → List ℕ
numbers zero seed = []
numbers (suc more) seed = next_number seed ∷ numbers more (next_number seed)

-- there are 8 callers, who ask in turn
abbrev pub caller_of : ℕ → ℕ
caller_of i = i % 8

-- each caller has 50 keys, which a number's bits from the 33rd on choose among
abbrev pub id_of : ℕ → ℕ
id_of number = number / 2 ^ 33 % 50

-- a caller's key with an id, which no other caller has
abbrev pub key_text : ℕ → ℕ → List ℕ
key_text caller id = codes "c" ++ decimal caller ++ codes "-" ++ decimal id

-- the value, of up to six digits, that a number's bits from the 20th on make
abbrev pub value_text : ℕ → List ℕ
value_text number = decimal (number / 2 ^ 20 % 1000000)

-- the operation that a number's highest four bits choose: of 16 choices, 9 put, 3 get, 2 remove, and one each puts where the key is absent and
-- where it is there
unfoldable pub op_by : ℕ → List ℕ → List ℕ → Op
op_by choice key value =
    if nat_lt choice 9 then Put key value
    else (if nat_lt choice 12 then Get key
    else (if nat_lt choice 14 then Remove key
    else (if choice == 14 then PutIfAbsent key value
    else Replace key value)))

-- the record, counted from 0, that a number makes
unfoldable pub line_of : ℕ → ℕ → Line
line_of i number = record { caller = caller_of i; op = op_by (number / 2 ^ 60) (key_text (caller_of i) (id_of number)) (value_text number) }

-- the records of numbers, the first of which is that of this index
unfoldable pub lines_from : ℕ → List ℕ → List Line
lines_from i [] = []
lines_from i (number ∷ numbers) = line_of i number ∷ lines_from (i + 1) numbers

-- the script of so many records for a seed
abbrev pub generated_lines : ℕ → ℕ → List Line
generated_lines records seed = lines_from 0 (numbers records seed)
