-- The text of records: a flexible writer writes the same as the default one, and what one more record adds.
use Rattle.std.proofs.Common.{◌≡◌, ◌∙◌, ◌+◌, ◌<◌, ◌++◌, [], ◌∷◌, ℕ, List, true, refl, ap, append_assoc, arith, sym, length, get_or, flat_map, map, take, zero, suc}
use Rattle.std.proofs.lemmas.List.{append-nil, map_more}
use Rattle.csv.specs.Writing.{default_writer, escaped, field_text, fields_text, is_blank, row_text, with_flexible}
use Rattle.cm_script.specs.Rows.{text_of_rows}

-- a flexible writer marks the same bytes between quotes
escaped-flexible : (field : List ℕ) → escaped (with_flexible default_writer true) field ≡ escaped default_writer field
unfolding escaped
escaped-flexible [] = refl
escaped-flexible (byte ∷ field) = rw (escaped-flexible field) refl

-- a flexible writer writes the same for a field
field_text-flexible : (field : List ℕ) → field_text (with_flexible default_writer true) field ≡ field_text default_writer field
field_text-flexible field = rw (escaped-flexible field) refl

-- a flexible writer writes the same for the fields after the first
fields_text-flexible : (fields : List (List ℕ)) → fields_text (with_flexible default_writer true) fields ≡ fields_text default_writer fields
unfolding fields_text
fields_text-flexible [] = refl
fields_text-flexible (field ∷ fields) = rw (field_text-flexible field, fields_text-flexible fields) refl

-- the same records show no byte
is_blank-flexible : (fields : List (List ℕ)) → is_blank (with_flexible default_writer true) fields ≡ is_blank default_writer fields
unfolding is_blank
is_blank-flexible [] = refl
is_blank-flexible (field ∷ []) = rw (field_text-flexible field) refl
is_blank-flexible (field ∷ next ∷ fields) = refl

-- a flexible writer writes the same for a record
pub row_text-flexible : (fields : List (List ℕ)) → row_text (with_flexible default_writer true) fields ≡ row_text default_writer fields
row_text-flexible [] = rw (is_blank-flexible []) refl
row_text-flexible (field ∷ fields) = rw (is_blank-flexible (field ∷ fields), field_text-flexible field, fields_text-flexible fields) refl

-- the text of some records and then of others
text_of_rows-append : (rows others : List (List (List ℕ))) → text_of_rows (rows ++ others) ≡ text_of_rows rows ++ text_of_rows others
unfolding text_of_rows
text_of_rows-append [] others = refl
text_of_rows-append (row ∷ rows) others =
    rw (text_of_rows-append rows others) (sym (append_assoc (row_text default_writer row) (text_of_rows rows) (text_of_rows others)))

-- the text of some records and a last one
text_of_rows-push : (rows : List (List (List ℕ))) (row : List (List ℕ)) → text_of_rows (rows ++ row ∷ []) ≡ text_of_rows rows ++ row_text default_writer row
unfolding text_of_rows
text_of_rows-push rows row = rw (text_of_rows-append rows (row ∷ []), append-nil) refl

-- behind a text, one more record of a list
pub text_of_rows-more : {X : Type 0} (fields : X → List (List ℕ)) (xs : List X) (i : ℕ) (x : X) (before now : List ℕ) → i < length xs → x ≡ get_or xs i x
    → now ≡ before ++ text_of_rows (map fields (take i xs)) → now ++ row_text default_writer (fields x) ≡ before ++ text_of_rows (map fields (take (i + 1) xs))
text_of_rows-more fields xs i x before now inside item so_far =
    rw (map_more fields xs i x inside, ← item, text_of_rows-push, so_far)
    (append_assoc before (text_of_rows (map fields (take i xs))) (row_text default_writer (fields x)))

-- the rows of the first elements, and of one more
flat_more : {X : Type 0} (rows : X → List (List (List ℕ))) (xs : List X) (i : ℕ) (x : X) → i < length xs → flat_map rows (take (i + 1) xs) ≡ flat_map rows (take i xs) ++ rows (get_or xs i x)
flat_more rows [] i x inside = absurd (omega arith)
flat_more rows (y ∷ xs) zero x inside = append-nil (rows y)
flat_more rows (y ∷ xs) (suc i) x inside =
    let more : suc i + 1 ≡ suc (i + 1) = omega arith in
    rw more (ap (λ (rest : List (List (List ℕ))). rows y ++ rest) (flat_more rows xs i x (omega arith)) ∙ sym (append_assoc (rows y) (flat_map rows (take i xs)) (rows (get_or xs i x))))

-- behind a text, the records of one more element of a list
pub text_of_rows-flat_more : {X : Type 0} (rows : X → List (List (List ℕ))) (xs : List X) (i : ℕ) (d : X) (before now later : List ℕ) → i < length xs
    → now ≡ before ++ text_of_rows (flat_map rows (take i xs)) → later ≡ now ++ text_of_rows (rows (get_or xs i d)) → later ≡ before ++ text_of_rows (flat_map rows (take (i + 1) xs))
text_of_rows-flat_more rows xs i d before now later inside so_far one =
    rw (one, flat_more rows xs i d inside, text_of_rows-append (flat_map rows (take i xs)) (rows (get_or xs i d)), so_far)
    (append_assoc before (text_of_rows (flat_map rows (take i xs))) (text_of_rows (rows (get_or xs i d))))

-- the text of a record and of others
pub text_of_rows-cons : (row : List (List ℕ)) (rows : List (List (List ℕ))) (before now later : List ℕ) → now ≡ before ++ row_text default_writer row → later ≡ now ++ text_of_rows rows
    → later ≡ before ++ text_of_rows (row ∷ rows)
unfolding text_of_rows
text_of_rows-cons row rows before now later first then = rw (then, first) (append_assoc before (row_text default_writer row) (text_of_rows rows))

-- the text of one record
pub text_of_rows-one : (row : List (List ℕ)) → text_of_rows (row ∷ []) ≡ row_text default_writer row
unfolding text_of_rows
text_of_rows-one row = append-nil (row_text default_writer row)

-- no record has no text
pub text_of_rows-none : (before : List ℕ) → before ≡ before ++ text_of_rows []
unfolding text_of_rows
text_of_rows-none before = sym (append-nil before)

-- the text of four lists of records and a last one, written part by part
pub text_of_rows-parts : (calls ends found pairs : List (List (List ℕ))) (last : List (List ℕ)) (first second third fourth whole : List ℕ) → first ≡ text_of_rows calls
    → second ≡ first ++ text_of_rows ends → third ≡ second ++ text_of_rows found → fourth ≡ third ++ text_of_rows pairs → whole ≡ fourth ++ row_text default_writer last
    → whole ≡ text_of_rows (calls ++ ends ++ found ++ pairs ++ last ∷ [])
text_of_rows-parts calls ends found pairs last first second third fourth whole first_is second_is third_is fourth_is whole_is =
    rw (
      text_of_rows-push (calls ++ ends ++ found ++ pairs) last,
      text_of_rows-append (calls ++ ends ++ found) pairs,
      text_of_rows-append (calls ++ ends) found,
      text_of_rows-append calls ends,
      whole_is,
      fourth_is,
      third_is,
      second_is,
      first_is,
    ) refl
