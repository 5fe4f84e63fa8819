-- A script is made a record at a time.
use Rattle.std.proofs.Common.{◌≡◌, ◌∙◌, ◌+◌, ◌-◌, ◌<◌, ◌++◌, ◌∷◌, [], ℕ, List, suc, append_assoc, arith, refl, sym}
use Rattle.std.proofs.lemmas.List.{append-nil}
use Rattle.cm_script.specs.declared.line.Line.{Line}
use Rattle.cm_make.specs.Generated.{line_of, lines_from, next_number, numbers}

-- the next number makes the first of the records that are still to come
next_made : (i more number : ℕ) → lines_from i (numbers (suc more) number) ≡ line_of i (next_number number) ∷ lines_from (i + 1) (numbers more (next_number number))
unfolding numbers lines_from
next_made i more number = refl

-- one record more has been made
pub more_made : (records i number : ℕ) (before now whole : List Line) → i < records → now ≡ before ++ line_of i (next_number number) ∷ []
    → before ++ lines_from i (numbers (records - i) number) ≡ whole → now ++ lines_from (i + 1) (numbers (records - (i + 1)) (next_number number)) ≡ whole
more_made records i number before now whole inside one so_far =
    let left : records - i ≡ suc (records - (i + 1)) = omega arith in
    let whole_is = rw (left, next_made i (records - (i + 1)) number) at so_far in
    rw one (append_assoc before (line_of i (next_number number) ∷ []) (lines_from (i + 1) (numbers (records - (i + 1)) (next_number number))) ∙ whole_is)

-- all records have been made
pub all_made : (records i number : ℕ) (lines whole : List Line) → records - i ≡ 0 → lines ++ lines_from i (numbers (records - i) number) ≡ whole → lines ≡ whole
unfolding numbers lines_from
all_made records i number lines whole none so_far =
    let whole_is = rw none at so_far in
    sym (append-nil lines) ∙ whole_is
