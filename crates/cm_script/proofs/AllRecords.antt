-- The records that a reader reached are a prefix of `records`, and all of them where it is at the end.
use Rattle.std.specs.Prelude.{Some, None}
use Rattle.std.proofs.Common.{◌≡◌, ◌<◌, ◌≤◌, [], ◌∷◌, ℕ, List, true, false, length, refl, subst, suc, zero, arith, inl, inr, ◌==◌, ◌++◌}
use Rattle.std.proofs.lemmas.Bool.{cases_Bool}
use Rattle.std.proofs.lemmas.Option.{same_Some}
use Rattle.csv.specs.Machine.{Read, next_record, step, is_end, ends_at_end, in_field, start_field, start_record}
use Rattle.csv.specs.Reading.{Reached, records_from, default_config}
use Rattle.csv.specs.declared.parser.State.{State}
use Rattle.csv.specs.declared.parser.State.TheVariants as st

-- the end of the text is no record
nothing-left : (s : State) (p : Read) → ends_at_end s ≡ false → next_record default_config s [] [] [] ≡ Some p → ⊥
unfolding next_record
nothing-left s p q e = let h = rw q at e in cc h

-- where a byte ends a record, the end of the text behind it is no record: inside a field
in-field-end : (c : ℕ) → is_end (in_field default_config c).1 ≡ true → ends_at_end (in_field default_config c).0 ≡ false
in-field-end c h = elim (cases_Bool (c == 44)) [
  | inl a ↦ let h2 = rw a at h in cc h2
  | inr a ↦ elim (cases_Bool (c == 13)) [
    | inl b ↦ rw (a, b) refl
    | inr b ↦ elim (cases_Bool (c == 10)) [
      | inl d ↦ rw (a, b, d) refl
      | inr d ↦ let h2 = rw (a, b, d) at h in cc h2
    ]
  ]
]

-- the same where a field starts
start-field-end : (c : ℕ) → is_end (start_field default_config c).1 ≡ true → ends_at_end (start_field default_config c).0 ≡ false
start-field-end c h = elim (cases_Bool (c == 34)) [
  | inl a ↦ let h2 = rw a at h in cc h2
  | inr a ↦ rw a (in-field-end c (rw a at h))
]

-- the same where a record starts
start-record-end : (c : ℕ) → is_end (start_record default_config c).1 ≡ true → ends_at_end (start_record default_config c).0 ≡ false
start-record-end c h = elim (cases_Bool (c == 13)) [
  | inl a ↦ rw a refl
  | inr a ↦ elim (cases_Bool (c == 10)) [
    | inl b ↦ rw (a, b) refl
    | inr b ↦
        let field = rw (a, b) at (start-field-end c) in
        let h2 = rw (a, b) at h in
        rw (a, b) (field h2)
  ]
]

-- the same in any state
pub step-end : (s : State) (c : ℕ) → is_end (step default_config s c).1 ≡ true → ends_at_end (step default_config s c).0 ≡ false
step-end st.StartRecord c h = start-record-end c h
step-end st.StartField c h = start-field-end c h
step-end st.InField c h = in-field-end c h
step-end st.InQuoted c h = elim (cases_Bool (c == 34)) [
  | inl a ↦ let h2 = rw a at h in cc h2
  | inr a ↦ let h2 = rw a at h in cc h2
]
step-end st.InEscape c h = cc h
step-end st.AfterQuote c h = elim (cases_Bool (c == 34)) [
  | inl a ↦ let h2 = rw a at h in cc h2
  | inr a ↦ rw a (in-field-end c (rw a at h))
]
step-end st.InComment c h = elim (cases_Bool (c == 10)) [
  | inl a ↦ let h2 = rw a at h in cc h2
  | inr a ↦ let h2 = rw a at h in cc h2
]
step-end st.AfterCr c h = elim (cases_Bool (c == 10)) [
  | inl a ↦ let h2 = rw a at h in cc h2
  | inr a ↦
      let start = rw a at (start-record-end c) in
      let h2 = rw a at h in
      rw a (start h2)
]

-- what a record leaves
pub record Less (n : ℕ) (p : Read) : Type 0 where
  pub fewer : length p.2 ≤ n
  pub quiet : ends_at_end p.1 ≡ false

-- a record that was read leaves no more bytes, and a state in which the end of the text is no record
next-any : (s : State) (fields : List (List ℕ)) (field : List ℕ) (xs : List ℕ) (p : Read) → next_record default_config s fields field xs ≡ Some p → Less (length xs) p
unfolding next_record
next-any s fields field [] p e = elim (cases_Bool (ends_at_end s)) [
  | inl a ↦
      let got : (fields ++ (field ∷ []), st.StartRecord, []) ≡ p = same_Some _ p (rw a at e) in
      subst (Less 0) got (record { fewer = omega arith; quiet = refl })
  | inr a ↦ let h = rw a at e in cc h
]
next-any s fields field (c ∷ rest) p e = elim (cases_Bool (is_end (step default_config s c).1)) [
  | inl a ↦
      let got = same_Some _ p (rw a at e) in
      subst (Less (suc (length rest))) got (record { fewer = omega arith; quiet = step-end s c a })
  | inr a ↦
      let h = next-any (step default_config s c).0 _ _ rest p (rw a at e) in
      record { fewer = omega arith; quiet = h.quiet }
]

-- of a text that is not empty it leaves fewer
pub next-less : (s : State) (c : ℕ) (rest : List ℕ) (p : Read) → next_record default_config s [] [] (c ∷ rest) ≡ Some p → Less (length rest) p
unfolding next_record
next-less s c rest p e = elim (cases_Bool (is_end (step default_config s c).1)) [
  | inl a ↦
      let got = same_Some _ p (rw a at e) in
      subst (Less (length rest)) got (record { fewer = omega arith; quiet = step-end s c a })
  | inr a ↦ next-any (step default_config s c).0 _ _ rest p (rw a at e)
]

-- at the end of the text, the records that were reached are all of them
pub all-records : (n : ℕ) (s : State) (xs : List ℕ) (rows : List (List (List ℕ))) (s2 : State) (ys : List ℕ) → ends_at_end s ≡ false → length xs < n
    → Reached default_config s xs rows s2 ys → next_record default_config s2 [] [] ys ≡ None → rows ≡ records_from default_config n s xs
unfolding Reached records_from
all-records zero s xs rows s2 ys q lt r e = absurd (omega arith)
all-records (suc n) s xs [] s2 ys q lt r e = rw (r.0, r.1, e) refl
all-records (suc n) s [] (row ∷ rows) s2 ys q lt r e = absurd (nothing-left s r.0 q r.1)
all-records (suc n) s (c ∷ rest) (row ∷ rows) s2 ys q lt r e =
    let less = next-less s c rest r.0 r.1 in
    let more = all-records n r.0.1 r.0.2 rows s2 ys less.quiet (omega arith) r.3 e in
    rw (r.1, r.2, more) refl

-- the records that were reached are not more than there are
pub reached-within_limit : (n : ℕ) (s : State) (xs : List ℕ) (rows : List (List (List ℕ))) (s2 : State) (ys : List ℕ) → ends_at_end s ≡ false → length xs < n
    → Reached default_config s xs rows s2 ys → length rows ≤ length (records_from default_config n s xs)
unfolding Reached records_from
reached-within_limit zero s xs rows s2 ys q lt r = absurd (omega arith)
reached-within_limit (suc n) s xs [] s2 ys q lt r = omega arith
reached-within_limit (suc n) s [] (row ∷ rows) s2 ys q lt r = absurd (nothing-left s r.0 q r.1)
reached-within_limit (suc n) s (c ∷ rest) (row ∷ rows) s2 ys q lt r =
    let less = next-less s c rest r.0 r.1 in
    let more = reached-within_limit n r.0.1 r.0.2 rows s2 ys less.quiet (omega arith) r.3 in
    rw r.1 (omega arith)
