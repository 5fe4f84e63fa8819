-- The least key with a prefix, as the least of the keys that have it.
use Rattle.std.proofs.Common.{◌≡◌, ◌∙◌, ℕ, true, false, List, [], ◌∷◌, map, filter, fold, All, Option, Some, None, MatchOption, refl, sym, ap, subst, inl, inr, Ordering, Less, Equal, Greater, Bor}
use Rattle.std.specs.Prelude.{is_some}
use Rattle.std.specs.Option.{option_map}
use Rattle.std.specs.List.{AllByRecursion, reduce}
use Rattle.std.specs.Ordering.{is_lt, nat_cmp, min_by_ordering}
use Rattle.std.specs.Cmp.{IsStrictWeakOrder}
use Rattle.std.specs.Cmp.Lexicographic.{slice_cmp}
use Rattle.std.specs.Str.{bytes_eq}
use Rattle.std.proofs.lemmas.Bool.{cases_Bool}
use Rattle.std.proofs.lemmas.Cmp.{nat_list_cmp_total, tied_itself, tied_back}
use Rattle.std.proofs.lemmas.List.Sorted.{ranks_by}
use Rattle.std.proofs.lemmas.List.Elements.{All-from_recursion}
use Rattle.std.proofs.lemmas.Slice.Eq.{bytes_eq-Decides}
use Rattle.cm_plain.specs.declared.placed.Placed.{Placed}
use Rattle.cm_plain.specs.States.{entry_among}
use Rattle.cm_plain.specs.Steps.{has_prefix}
use Rattle.cm_plain.specs.Segments.{IsLeastKey}
use Rattle.cm_plain.proofs.Each.{each_weaker}

-- the lesser of two keys, as `min` takes it
abbrev pub lesser : List ℕ → List ℕ → List ℕ
lesser one other = min_by_ordering (slice_cmp nat_cmp one other) one other

-- the lesser of what two references point to
pub lesser_behind : (order : Ordering) (one other : Bor (List ℕ)) → (min_by_ordering order one other).now ≡ min_by_ordering order one.now other.now
lesser_behind Less one other = refl
lesser_behind Equal one other = refl
lesser_behind Greater one other = refl

-- a key is not below another
abbrev IsAtLeast : List ℕ → List ℕ → Type 0
IsAtLeast least key = is_lt (slice_cmp nat_cmp key least) ≡ false

-- the byte order ranks keys
order : IsStrictWeakOrder (λ (one : List ℕ) (other : List ℕ). is_lt (slice_cmp nat_cmp one other))
order = ranks_by nat_list_cmp_total (λ (key : List ℕ). key)

-- a key is not below itself
itself : (key : List ℕ) → IsAtLeast key key
itself key = ap is_lt (tied_itself nat_list_cmp_total key)

-- neither of two keys is below the lesser of them
first_by : (answer : Ordering) (one other : List ℕ) → slice_cmp nat_cmp one other ≡ answer → IsAtLeast (min_by_ordering answer one other) one
first_by Less one other e = itself one
first_by Equal one other e = itself one
first_by Greater one other e = ap is_lt e

-- the same of the second one
second_by : (answer : Ordering) (one other : List ℕ) → slice_cmp nat_cmp one other ≡ answer → IsAtLeast (min_by_ordering answer one other) other
second_by Less one other e = order.one_way one other (ap is_lt e)
second_by Equal one other e = ap is_lt (tied_back nat_list_cmp_total one other e)
second_by Greater one other e = itself other

-- what holds of both holds of the lesser
lesser_has : (P : List ℕ → Type 0) (answer : Ordering) (one other : List ℕ) → P one → P other → P (min_by_ordering answer one other)
lesser_has P Less one other h k = h
lesser_has P Equal one other h k = h
lesser_has P Greater one other h k = k

-- what holds of each key holds of the least
least_has : (P : List ℕ → Type 0) (first : List ℕ) (keys : List (List ℕ)) → P first → AllByRecursion P keys → P (fold lesser first keys)
least_has P first [] h all = h
least_has P first (key ∷ keys) h all = least_has P (lesser first key) keys (lesser_has P (slice_cmp nat_cmp first key) first key h all.0) all.1

-- no key is below the least
least_below : (first : List ℕ) (keys : List (List ℕ)) → AllByRecursion (IsAtLeast (fold lesser first keys)) (first ∷ keys)
least_below first [] = (itself first, tt)
least_below first (key ∷ keys) =
    let least = fold lesser (lesser first key) keys in
    let later = least_below (lesser first key) keys in
    let one = order.chain first (lesser first key) least (first_by (slice_cmp nat_cmp first key) first key refl) later.0 in
    let other = order.chain key (lesser first key) least (second_by (slice_cmp nat_cmp first key) first key refl) later.0 in
    (one, (other, later.1))

-- the keys with a prefix
abbrev pub keys_with : List ℕ → List Placed → List (List ℕ)
keys_with prefix entries = filter (has_prefix prefix) (map (λ entry. entry.key) entries)

-- what holds of each entry's key holds of those that have the prefix
each_with : (P : List ℕ → Type 0) (prefix : List ℕ) (entries : List Placed) → AllByRecursion (λ entry. P entry.key) entries
    → AllByRecursion (λ key. P key × (has_prefix prefix key ≡ true)) (keys_with prefix entries)
each_with P prefix [] h = tt
each_with P prefix (entry ∷ entries) h = elim (cases_Bool (has_prefix prefix entry.key)) [
  | inl passes ↦ rw passes ((h.0, passes), each_with P prefix entries h.1)
  | inr fails ↦ rw fails (each_with P prefix entries h.1)
]

-- what holds of each key with the prefix
each_without : (P : List ℕ → Type 0) (prefix : List ℕ) (entries : List Placed) → AllByRecursion P (keys_with prefix entries)
    → AllByRecursion (λ (entry : Placed). has_prefix prefix entry.key ≡ true → P entry.key) entries
each_without P prefix [] h = tt
each_without P prefix (entry ∷ entries) h = elim (cases_Bool (has_prefix prefix entry.key)) [
  | inl passes ↦ let both = rw passes at h in (λ e. both.0, each_without P prefix entries both.1)
  | inr fails ↦ (λ e. let no : true ≡ false = sym e ∙ fails in cc no, each_without P prefix entries (rw fails at h))
]

-- no entry has the prefix where no key is left
none_with : (prefix : List ℕ) (entries : List Placed) → keys_with prefix entries ≡ [] → AllByRecursion (λ (entry : Placed). has_prefix prefix entry.key ≡ false) entries
none_with prefix [] e = tt
none_with prefix (entry ∷ entries) e = elim (cases_Bool (has_prefix prefix entry.key)) [
  | inl passes ↦ let no = rw passes at e in cc no
  | inr fails ↦ (fails, none_with prefix entries (rw fails at e))
]

-- each entry is found by its key
each_found : (entries : List Placed) → AllByRecursion (λ entry. is_some (entry_among entry.key entries) ≡ true) entries
each_found [] = tt
each_found (entry ∷ entries) =
    let here : is_some (entry_among entry.key (entry ∷ entries)) ≡ true = rw ((bytes_eq-Decides entry.key entry.key).1 refl) refl in
    (here, each_weaker (λ (other : Placed). is_some (entry_among other.key entries) ≡ true) (λ (other : Placed). is_some (entry_among other.key (entry ∷ entries)) ≡ true) (found_later entry entries) entries (each_found entries))
  where
    found_later : (entry : Placed) (entries : List Placed) (other : Placed) → is_some (entry_among other.key entries) ≡ true → is_some (entry_among other.key (entry ∷ entries)) ≡ true
    found_later entry entries other h = elim (cases_Bool (bytes_eq entry.key other.key)) [
      | inl same ↦ rw same refl
      | inr differs ↦ rw differs h
    ]

-- the least of the keys with the prefix
by_keys : (prefix : List ℕ) (entries : List Placed) (keys : List (List ℕ)) → keys_with prefix entries ≡ keys
    → MatchOption (reduce lesser keys) (All (λ entry. has_prefix prefix entry.key ≡ false) entries) (IsLeastKey prefix entries)
by_keys prefix entries [] e = All-from_recursion (λ (entry : Placed). has_prefix prefix entry.key ≡ false) entries (none_with prefix entries e)
by_keys prefix entries (first ∷ keys) e =
    let least = fold lesser first keys in
    let Found : List ℕ → Type 0 = λ key. is_some (entry_among key entries) ≡ true in
    let Both : List ℕ → Type 0 = λ key. Found key × (has_prefix prefix key ≡ true) in
    let each = subst (AllByRecursion Both) e (each_with Found prefix entries (each_found entries)) in
    let has = least_has Both first keys each.0 each.1 in
    let below = each_without (IsAtLeast least) prefix entries (subst (AllByRecursion (IsAtLeast least)) (sym e) (least_below first keys)) in
    record {
      there = has.0;
      prefixed = has.1;
      least = All-from_recursion (λ (entry : Placed). has_prefix prefix entry.key ≡ true → IsAtLeast least entry.key) entries below;
    }

-- a key that is the least of them
least_is : (prefix : List ℕ) (entries : List Placed) (answer : Option (List ℕ)) → answer ≡ reduce lesser (keys_with prefix entries)
    → MatchOption answer (All (λ entry. has_prefix prefix entry.key ≡ false) entries) (IsLeastKey prefix entries)
least_is prefix entries answer e =
    subst (λ (it : Option (List ℕ)). MatchOption it (All (λ entry. has_prefix prefix entry.key ≡ false) entries) (IsLeastKey prefix entries)) (sym e) (by_keys prefix entries (keys_with prefix entries) refl)

-- what is the least of the keys with the prefix
pub least_key_is : (prefix : List ℕ) (entries : List Placed) (answer : Option (Bor (List ℕ))) → option_map (λ key. key.now) answer ≡ reduce lesser (keys_with prefix entries)
    → MatchOption answer (All (λ entry. has_prefix prefix entry.key ≡ false) entries) (λ key. IsLeastKey prefix entries key.now)
least_key_is prefix entries None e = least_is prefix entries None e
least_key_is prefix entries (Some key) e = least_is prefix entries (Some key.now) e
