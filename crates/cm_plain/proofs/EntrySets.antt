-- Lists of entries: the entry of a key, the entries without a key's, and those with one more.
use Rattle.std.proofs.Common.{◌≡◌, ◌≢◌, ℕ, ◌+◌, ◌⊎◌, Bool, true, false, not, List, [], ◌∷◌, ◌++◌, Contains, length, filter, nat_lt, Some, None, refl, ap, sym, ◌∙◌, arith, suc, inl, inr}
use Rattle.std.specs.List.{AllByRecursion}
use Rattle.std.specs.Str.{bytes_eq}
use Rattle.std.proofs.lemmas.Bool.{cases_Bool}
use Rattle.std.proofs.lemmas.Bool.Decides.{nat_tests}
use Rattle.std.proofs.lemmas.Slice.Eq.{bytes_eq-Decides}
use Rattle.cm_geo.specs.declared.geo.Geo.{Geo}
use Rattle.cm_plain.specs.declared.placed.Placed.{Placed}
use Rattle.cm_plain.specs.States.{IsState, State, entry_among, entry_of, run_start}
use Rattle.cm_plain.specs.Changes.{with_entry, without}
use Rattle.cm_plain.proofs.Apart.{begins_before, begins_behind}
use Rattle.cm_plain.proofs.Each.{Pairs, found_has, found_passes}
use Rattle.cm_plain.proofs.Keys.{key_tells}
use Rattle.cm_plain.proofs.ListElements.{In, all_in, in_either, in_from, in_has, in_kept_from, in_kept_to, in_left, in_right}
use Rattle.cm_plain.proofs.Placements.{keys_differ}
use Rattle.cm_plain.proofs.States.{Differs, each_differs}

-- the entry of a key is the one that is found
found_in : (key : List ℕ) (entries : List Placed) (placed : Placed) → Pairs Differs entries → In placed entries → placed.key ≡ key → entry_among key entries ≡ Some placed
found_in key [] placed differ i is = absurd i
found_in key (entry ∷ entries) placed differ (inl e) is =
    let same : bytes_eq entry.key key ≡ true = (bytes_eq-Decides entry.key key).1 (ap (λ (p : Placed). p.key) (sym e) ∙ is) in
    rw (same, e) refl
found_in key (entry ∷ entries) placed differ (inr i) is = elim (key_tells entry.key key) [
  | inl same ↦ absurd (in_has (Differs entry) entries placed differ.0 i (same.1 ∙ sym is))
  | inr other ↦ rw other.0 (found_in key entries placed differ.1 i is)
]

-- of a state, too
pub found_is : (geo : Geo) (segment : ℕ) (state : State) (key : List ℕ) (placed : Placed) → IsState geo segment state → Contains state.entries placed → placed.key ≡ key → entry_of key state ≡ Some placed
found_is geo segment state key placed is there key_is =
    found_in key state.entries placed (each_differs is) (in_from state.entries placed there) key_is

-- what is found is there, and has the key
pub record IsFound (key : List ℕ) (entries : List Placed) (placed : Placed) : Type 0 where
  pub is_in : In placed entries
  pub key_is : placed.key ≡ key

-- each that is found is such a one
pub found_there : (key : List ℕ) (entries : List Placed) (placed : Placed) → entry_among key entries ≡ Some placed → IsFound key entries placed
found_there key entries placed e = record {
  is_in = found_has (λ it. In it entries) (λ entry. bytes_eq entry.key key) entries placed (all_in (λ it. In it entries) entries (λ it i. i)) e;
  key_is = (bytes_eq-Decides placed.key key).0 (found_passes (λ entry. bytes_eq entry.key key) entries placed e);
}

-- where no entry has the key, none is found
pub found_none : (key : List ℕ) (entries : List Placed) → ((placed : Placed) → In placed entries → placed.key ≢ key) → entry_among key entries ≡ None
found_none key [] other = refl
found_none key (placed ∷ entries) other =
    let fails : bytes_eq placed.key key ≡ false = elim (cases_Bool (bytes_eq placed.key key)) [
      | inl same ↦ absurd (other placed (inl refl) ((bytes_eq-Decides placed.key key).0 same))
      | inr differs ↦ differs
    ] in
    rw fails (found_none key entries (λ it i. other it (inr i)))

-- without a key that no entry has the entries are as they were
pub without_absent : (key : List ℕ) (entries : List Placed) → ((placed : Placed) → In placed entries → placed.key ≢ key) → without key entries ≡ entries
without_absent key [] none = refl
without_absent key (entry ∷ entries) none = elim (key_tells entry.key key) [
  | inl same ↦ absurd (none entry (inl refl) same.1)
  | inr other ↦ (let rest = without_absent key entries (λ placed i. none placed (inr i)) in let passes : not (bytes_eq entry.key key) ≡ true = rw other.0 refl in rw (passes, rest) refl)
]

-- no other entry has the key
pub no_other : (key : List ℕ) (entries : List Placed) (placed : Placed) → placed.key ≡ key → In placed (without key entries) → ⊥
no_other key entries placed is i = in_has (λ entry. entry.key ≢ key) (without key entries) placed (keys_differ key entries) i is

-- an entry of a list with one more is that one, or one of the others
pub with_from : (geo : Geo) (entry : Placed) (entries : List Placed) (placed : Placed) → In placed (with_entry geo entry entries) → (placed ≡ entry) ⊎ In placed entries
with_from geo entry entries placed i =
    elim (in_either (filter (begins_before geo entry) entries) (entry ∷ filter (begins_behind geo entry) entries) placed i) [
      | inl j ↦ inr (in_kept_from (begins_before geo entry) entries placed j)
      | inr j ↦ last j
    ]
  where
    last : In placed (entry ∷ filter (begins_behind geo entry) entries) → (placed ≡ entry) ⊎ In placed entries
    last (inl e) = inl e
    last (inr j) = inr (in_kept_from (begins_behind geo entry) entries placed j)

-- an entry that was none of the others is the one
pub is_put : (geo : Geo) (entry : Placed) (others : List Placed) (placed : Placed) → (In placed others → ⊥) → In placed (with_entry geo entry others) → placed ≡ entry
is_put geo entry others placed out i = elim (with_from geo entry others placed i) [
  | inl e ↦ e
  | inr j ↦ absurd (out j)
]

-- the one that was put in is there
pub in_with : (geo : Geo) (placed : Placed) (entries : List Placed) → In placed (with_entry geo placed entries)
in_with geo placed entries =
    in_right (filter (begins_before geo placed) entries) (placed ∷ filter (begins_behind geo placed) entries) placed (inl refl)

-- and so is each other one, which begins elsewhere
pub stays_with : (geo : Geo) (placed : Placed) (entries : List Placed) (other : Placed) → run_start geo other ≢ run_start geo placed → In other entries → In other (with_entry geo placed entries)
stays_with geo placed entries other ne i =
    let before = begins_before geo placed in
    let behind = begins_behind geo placed in
    elim (cases_Bool (before other)) [
      | inl low ↦ in_left (filter before entries) (placed ∷ filter behind entries) other (in_kept_to before entries other i low)
      | inr high ↦ in_right (filter before entries) (placed ∷ filter behind entries) other (inr (in_kept_to behind entries other i (above (run_start geo other) (run_start geo placed) ne high)))
    ]
  where
    above : (a b : ℕ) → a ≢ b → nat_lt a b ≡ false → nat_lt b a ≡ true
    above a b ne not_low = grind (arith, nat_tests)

-- how many pass a test
abbrev count_of : (Placed → Bool) → List Placed → ℕ
count_of test entries = length (filter test entries)

-- one, where a test passes
more : Bool → ℕ
more true = 1
more false = 0

-- with one more in front
count_more : (test : Placed → Bool) (entry : Placed) (entries : List Placed) → count_of test (entry ∷ entries) ≡ more (test entry) + count_of test entries
unfolding more
count_more test entry entries = elim (cases_Bool (test entry)) [
  | inl passes ↦ rw passes (omega arith)
  | inr fails ↦ rw fails (omega arith)
]

-- of two lists together
count_both : (test : Placed → Bool) (xs ys : List Placed) → count_of test (xs ++ ys) ≡ count_of test xs + count_of test ys
count_both test [] ys = omega arith
count_both test (x ∷ xs) ys = omega (arith, count_more test x (xs ++ ys), count_more test x xs, count_both test xs ys)

-- those before a number and those behind it are all, where none begins there
count_parts : (geo : Geo) (test : Placed → Bool) (at : ℕ) (entries : List Placed) → AllByRecursion (λ other. run_start geo other ≢ at) entries
    → count_of test (filter (λ other. nat_lt (run_start geo other) at) entries) + count_of test (filter (λ other. nat_lt at (run_start geo other)) entries) ≡ count_of test entries
count_parts geo test at [] apart = omega arith
count_parts geo test at (entry ∷ entries) apart =
    let rest = count_parts geo test at entries apart.1 in
    elim (cases_Bool (nat_lt (run_start geo entry) at)) [
      | inl low ↦
          let high : nat_lt at (run_start geo entry) ≡ false = not_both (run_start geo entry) at low in
          rw (low, high) (omega (arith, rest, count_more test entry (filter (λ other. nat_lt (run_start geo other) at) entries), count_more test entry entries))
      | inr not_low ↦
          let high : nat_lt at (run_start geo entry) ≡ true = above (run_start geo entry) at apart.0 not_low in
          rw (not_low, high) (omega (arith, rest, count_more test entry (filter (λ other. nat_lt at (run_start geo other)) entries), count_more test entry entries))
    ]
  where
    not_both : (a b : ℕ) → nat_lt a b ≡ true → nat_lt b a ≡ false
    not_both a b h = grind (arith, nat_tests)

    above : (a b : ℕ) → a ≢ b → nat_lt a b ≡ false → nat_lt b a ≡ true
    above a b d h = grind (arith, nat_tests)

-- with an entry that passes they are one more
pub count_with : (geo : Geo) (test : Placed → Bool) (entry : Placed) (entries : List Placed) → AllByRecursion (λ other. run_start geo other ≢ run_start geo entry) entries → test entry ≡ true
    → length (filter test (with_entry geo entry entries)) ≡ length (filter test entries) + 1
unfolding more
count_with geo test entry entries apart passes =
    let low = filter (λ other. nat_lt (run_start geo other) (run_start geo entry)) entries in
    let high = filter (λ other. nat_lt (run_start geo entry) (run_start geo other)) entries in
    let one : more (test entry) ≡ 1 = rw passes refl in
    omega (
      arith,
      one,
      count_both test (filter (λ other. nat_lt (run_start geo other) (run_start geo entry)) entries) (entry ∷ filter (λ other. nat_lt (run_start geo entry) (run_start geo other)) entries),
      count_more test entry (filter (λ other. nat_lt (run_start geo entry) (run_start geo other)) entries),
      count_parts geo test (run_start geo entry) entries apart,
    )

-- with one that fails they are as many
pub count_without : (geo : Geo) (test : Placed → Bool) (entry : Placed) (entries : List Placed) → AllByRecursion (λ other. run_start geo other ≢ run_start geo entry) entries → test entry ≡ false
    → length (filter test (with_entry geo entry entries)) ≡ length (filter test entries)
unfolding more
count_without geo test entry entries apart fails =
    let none : more (test entry) ≡ 0 = rw fails refl in
    omega (
      arith,
      none,
      count_both test (filter (λ other. nat_lt (run_start geo other) (run_start geo entry)) entries) (entry ∷ filter (λ other. nat_lt (run_start geo entry) (run_start geo other)) entries),
      count_more test entry (filter (λ other. nat_lt (run_start geo entry) (run_start geo other)) entries),
      count_parts geo test (run_start geo entry) entries apart,
    )

-- a test that all pass
kept_all : (entries : List Placed) → length (filter (λ other. true) entries) ≡ length entries
kept_all [] = refl
kept_all (entry ∷ entries) = ap suc (kept_all entries)

-- a list with one more is one longer
pub length_with : (geo : Geo) (entry : Placed) (entries : List Placed) → AllByRecursion (λ other. run_start geo other ≢ run_start geo entry) entries → length (with_entry geo entry entries) ≡ length entries + 1
length_with geo entry entries apart = omega (arith, kept_all (with_entry geo entry entries), kept_all entries, count_with geo (λ other. true) entry entries apart refl)
