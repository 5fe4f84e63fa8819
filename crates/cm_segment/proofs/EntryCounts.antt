-- How many entries pass a test when a key's entry is removed, or one is put among them.
use Rattle.std.proofs.Common.{◌≡◌, ◌≢◌, ℕ, ◌+◌, Bool, true, false, List, [], ◌∷◌, length, filter, ◌≤◌, refl, ap, sym, subst, ◌∙◌, inl, inr, arith}
use Rattle.std.specs.List.{AllByRecursion}
use Rattle.std.proofs.lemmas.Bool.{cases_Bool}
use Rattle.cm_geo.specs.declared.geo.Geo.{Geo}
use Rattle.cm_plain.specs.declared.placed.Placed.{Placed}
use Rattle.cm_plain.specs.States.{run_start}
use Rattle.cm_plain.specs.Changes.{with_entry, without}
use Rattle.cm_plain.proofs.Each.{Pairs}
use Rattle.cm_plain.proofs.EntrySets.{count_with, count_without, without_absent}
use Rattle.cm_plain.proofs.Keys.{key_tells}
use Rattle.cm_plain.proofs.ListElements.{In, in_has}
use Rattle.cm_plain.proofs.StatePairs.{same_in}
use Rattle.cm_plain.proofs.States.{Differs}

-- one, where it is so
abbrev pub one_if : Bool → ℕ
one_if true = 1
one_if false = 0

count_first : (test : Placed → Bool) (entry : Placed) (entries : List Placed)
    → length (filter test (entry ∷ entries)) ≡ one_if (test entry) + length (filter test entries)
count_first test entry entries = elim (cases_Bool (test entry)) [
  | inl passes ↦ rw passes (omega arith)
  | inr fails ↦ rw fails (omega arith)
]

-- of the entries without a key's
pub count_removed : (test : Placed → Bool) (key : List ℕ) (entries : List Placed) (old : Placed) → Pairs Differs entries → In old entries → old.key ≡ key
    → length (filter test (without key entries)) + one_if (test old) ≡ length (filter test entries)
count_removed test key [] old differ i is = absurd i
count_removed test key (entry ∷ entries) old differ i is = elim (key_tells entry.key key) [
  | inl same ↦
      let one : entry ≡ old = sym (same_in (entry ∷ entries) old entry differ i (inl refl) (is ∙ sym same.1)) in
      let rest : without key entries ≡ entries = without_absent key entries (λ placed j e. in_has (Differs entry) entries placed differ.0 j (same.1 ∙ sym e)) in
      let of_old : one_if (test entry) ≡ one_if (test old) = ap (λ (p : Placed). one_if (test p)) one in
      let left : length (filter test (without key entries)) ≡ length (filter test entries) = ap (λ (es : List Placed). length (filter test es)) rest in
      rw same.0 (omega (arith, left, of_old, count_first test entry entries))
  | inr other ↦
      let rest = count_removed test key entries old differ.1 (later entry old i (λ e. other.1 (ap (λ (p : Placed). p.key) (sym e) ∙ is))) is in
      rw other.0 (omega (arith, rest, count_first test entry (without key entries), count_first test entry entries))
]
  where
    later : (entry old : Placed) → In old (entry ∷ entries) → (old ≡ entry → ⊥) → In old entries
    later entry old (inl e) ne = absurd (ne e)
    later entry old (inr j) ne = j

-- of entries among which one was put
pub count_put : (geo : Geo) (test : Placed → Bool) (entry : Placed) (entries : List Placed)
    → AllByRecursion (λ other. run_start geo other ≢ run_start geo entry) entries
    → length (filter test (with_entry geo entry entries)) ≡ length (filter test entries) + one_if (test entry)
count_put geo test entry entries apart = elim (cases_Bool (test entry)) [
  | inl passes ↦ rw passes (count_with geo test entry entries apart passes)
  | inr fails ↦ (let same = count_without geo test entry entries apart fails in rw fails (omega (arith, same)))
]

-- all of them
pub count_all : (entries : List Placed) → length (filter (λ other. true) entries) ≡ length entries
count_all [] = refl
count_all (entry ∷ entries) = omega (arith, count_all entries)

-- those that pass are no more than all
pub count_within : (test : Placed → Bool) (entries : List Placed) → length (filter test entries) ≤ length entries
count_within test [] = omega arith
count_within test (entry ∷ entries) = elim (cases_Bool (test entry)) [
  | inl passes ↦ rw passes (omega (arith, count_within test entries))
  | inr fails ↦ rw fails (omega (arith, count_within test entries))
]

-- and one passes where an entry does
pub count_some : (test : Placed → Bool) (entries : List Placed) (placed : Placed) → In placed entries → test placed ≡ true → 1 ≤ length (filter test entries)
count_some test [] placed i passes = absurd i
count_some test (entry ∷ entries) placed (inl e) passes =
    (let here : test entry ≡ true = subst (λ (p : Placed). test p ≡ true) e passes in rw here (omega arith))
count_some test (entry ∷ entries) placed (inr i) passes = omega (arith, count_first test entry entries, count_some test entries placed i passes)
