-- The callers of a script, in ascending order.
use Rattle.std.proofs.Common.{◌≡◌, ℕ, zero, suc, ◌+◌, ◌-◌, ◌<◌, ◌≤◌, ◌==◌, ◌||◌, Bool, true, false, List, [], ◌∷◌, ◌++◌, All, Contains, Some, filter, length, get_or, set, take, refl, sym, ap, ◌∙◌, subst, arith, inl, inr}
use Rattle.std.specs.List.{list_any, range_with_len, slice_get}
use Rattle.std.proofs.lemmas.Bool.Decides.{nat_tests}
use Rattle.std.proofs.lemmas.Bool.{cases_Bool, cases_eq}
use Rattle.std.proofs.lemmas.List.{append-nil, get_or-set_other, get_or-set_same, take_more}
use Rattle.std.proofs.lemmas.List.Folds.{list_any-append}
use Rattle.std.proofs.lemmas.Option.{get_or_from_slice_get, slice_get_within}
use Rattle.std.proofs.lemmas.List.Elements.{All-from_recursion, filter-append}
use Rattle.cm_plain.proofs.ListElements.{all_in, in_from, in_kept_from, in_kept_to, in_range, in_to, range_from}
use Rattle.cm_script.specs.declared.line.Line.{Line}
use Rattle.cm_run.specs.Callers.{asks, askers_below}

-- ---- numbers from 0 on

range_push : (a n : ℕ) → range_with_len a (suc n) ≡ range_with_len a n ++ (a + n) ∷ []
range_push a zero = ap (λ (k : ℕ). k ∷ []) (no_more a)
  where
    no_more : (a : ℕ) → a ≡ a + 0
    no_more a = omega arith
range_push a (suc n) = ap (λ (l : List ℕ). a ∷ l) (range_push (a + 1) n ∙ ap (λ (k : ℕ). range_with_len (a + 1) n ++ k ∷ []) (one_on a n))
  where
    one_on : (a n : ℕ) → a + 1 + n ≡ a + suc n
    one_on a n = omega arith

pub range_next : (n : ℕ) → range_with_len 0 (n + 1) ≡ range_with_len 0 n ++ n ∷ []
range_next n = ap (range_with_len 0) (next n) ∙ (range_push 0 n ∙ ap (λ (k : ℕ). range_with_len 0 n ++ k ∷ []) (from_zero n))
  where
    next : (n : ℕ) → n + 1 ≡ suc n
    next n = omega arith

    from_zero : (n : ℕ) → 0 + n ≡ n
    from_zero n = omega arith

-- ---- one number more

kept_one : (p : ℕ → Bool) (n : ℕ) → p n ≡ true → filter p (n ∷ []) ≡ n ∷ []
kept_one p n is = rw is refl

kept_none : (p : ℕ → Bool) (n : ℕ) → p n ≡ false → filter p (n ∷ []) ≡ []
kept_none p n fails = rw fails refl

both : (script : List Line) (n : ℕ) → askers_below script (n + 1) ≡ askers_below script n ++ filter (asks script) (n ∷ [])
both script n = ap (filter (asks script)) (range_next n) ∙ filter-append (asks script) (range_with_len 0 n) (n ∷ [])

pub asker_more : (script : List Line) (n : ℕ) → asks script n ≡ true → askers_below script (n + 1) ≡ askers_below script n ++ n ∷ []
asker_more script n is = both script n ∙ ap (λ (l : List ℕ). askers_below script n ++ l) (kept_one (asks script) n is)

pub asker_same : (script : List Line) (n : ℕ) → asks script n ≡ false → askers_below script (n + 1) ≡ askers_below script n
asker_same script n fails = both script n ∙ (ap (λ (l : List ℕ). askers_below script n ++ l) (kept_none (asks script) n fails) ∙ append-nil (askers_below script n))

-- ---- the elements

pub asker_there : (script : List Line) (number n : ℕ) → n < number → asks script n ≡ true → Contains (askers_below script number) n
asker_there script number n below is =
    in_to (askers_below script number) n (in_kept_to (asks script) (range_with_len 0 number) n (in_range 0 number n (omega arith) (omega arith)) is)

pub asker_is_below : (script : List Line) (number n : ℕ) → Contains (askers_below script number) n → n < number
asker_is_below script number n there =
    let r = range_from 0 number n (in_kept_from (asks script) (range_with_len 0 number) n (in_from (askers_below script number) n there)) in
    let h = r.1 in omega arith

pub askers_are_below : (script : List Line) (number : ℕ) → All (λ (n : ℕ). n < number) (askers_below script number)
askers_are_below script number = All-from_recursion (λ (n : ℕ). n < number) (askers_below script number)
    (all_in (λ (n : ℕ). n < number) (askers_below script number) (λ n there. asker_is_below script number n (in_to (askers_below script number) n there)))

-- ---- the first one

-- the first number from one on that passes a test, of so many: none before it does, and the others are those behind it
pub record IsFirst (p : ℕ → Bool) (from end first : ℕ) (others : List ℕ) : Type 0 where
  pub low : from ≤ first
  pub high : first < end
  pub passes : p first ≡ true
  pub between : (c : ℕ) → from ≤ c → c < first → p c ≡ false
  pub others_are : others ≡ filter p (range_with_len (first + 1) (end - (first + 1)))

-- behind one that doesn't pass
first_behind : (p : ℕ → Bool) (from end first : ℕ) (others : List ℕ) → p from ≡ false → IsFirst p (from + 1) end first others → IsFirst p from end first others
first_behind p from end first others fails r = record {
  low = let l = r.low in omega arith;
  high = r.high;
  passes = r.passes;
  between = λ c low high. elim (cases_eq c from) [
    | inl same ↦ subst (λ (k : ℕ). p k ≡ false) (sym same) fails
    | inr other ↦ r.between c (omega arith) high
  ];
  others_are = r.others_are;
}

pub first_of : (p : ℕ → Bool) (count from first : ℕ) (others : List ℕ) → first ∷ others ≡ filter p (range_with_len from count) → IsFirst p from (from + count) first others
first_of p zero from first others e = absurd (cc e)
first_of p (suc count) from first others e = elim (cases_Bool (p from)) [
  | inl is ↦ (
      let here : first ∷ others ≡ from ∷ filter p (range_with_len (from + 1) count) = e ∙ rw is refl in
      let same : first ≡ from = cc here in
      let rest : others ≡ filter p (range_with_len (from + 1) count) = cc here in
      record {
        low = omega arith;
        high = omega arith;
        passes = subst (λ (k : ℕ). p k ≡ true) (sym same) is;
        between = λ c low high. absurd (omega arith);
        others_are = rest ∙ (ap (λ (k : ℕ). filter p (range_with_len (k + 1) count)) (sym same)
            ∙ ap (λ (n : ℕ). filter p (range_with_len (first + 1) n)) (let h : count ≡ from + suc count - (first + 1) = omega arith in h));
      })
  | inr fails ↦ (
      let r = first_of p count (from + 1) first others (e ∙ rw fails refl) in
      let end : from + 1 + count ≡ from + suc count = omega arith in
      first_behind p from (from + suc count) first others fails (subst (λ (n : ℕ). IsFirst p (from + 1) n first others) end r))
]

pub none_of : (p : ℕ → Bool) (count from : ℕ) → [] ≡ filter p (range_with_len from count) → (c : ℕ) → from ≤ c → c < from + count → p c ≡ false
none_of p count from e c low high = elim (cases_Bool (p c)) [
  | inl is ↦ absurd (let there = subst (λ (l : List ℕ). Contains l c) (sym e)
      (in_to (filter p (range_with_len from count)) c (in_kept_to p (range_with_len from count) c (in_range from count c low high) is)) in let h = there.1 in omega arith)
  | inr fails ↦ fails
]

-- the callers below a number are those below a later one, where none is between
pub askers_up : (script : List Line) (gap number later : ℕ) → number + gap ≡ later → ((c : ℕ) → number ≤ c → c < later → asks script c ≡ false)
    → askers_below script later ≡ askers_below script number
askers_up script zero number later e none = ap (askers_below script) (let h : later ≡ number = omega arith in h)
askers_up script (suc gap) number later e none =
    askers_up script gap (number + 1) later (omega arith) (λ c low high. none c (omega arith) high) ∙ asker_same script number (none number (omega arith) (omega arith))

-- ---- the array of those that ask

pub asked_more : (asked : List Bool) (lines : List Line) (line : Line) (caller : ℕ) → length asked ≡ 64 → line.caller < 64
    → get_or asked caller false ≡ list_any (λ (it : Line). it.caller == caller) lines
    → get_or (set asked line.caller true) caller false ≡ list_any (λ (it : Line). it.caller == caller) (lines ++ line ∷ [])
asked_more asked lines line caller long small before = elim (cases_eq caller line.caller) [
  | inl is ↦ (
      let asks_so : (line.caller == caller) ≡ true = grind (arith, nat_tests) in
      let there : get_or (set asked line.caller true) caller false ≡ true =
      subst (λ (c : ℕ). get_or (set asked line.caller true) c false ≡ true) (sym is) (get_or-set_same asked line.caller true false (omega arith)) in
      there ∙ sym (list_any-append (λ (it : Line). it.caller == caller) lines (line ∷ []) ∙ last (list_any (λ (it : Line). it.caller == caller) lines) asks_so))
  | inr ne ↦ (
      let fails : (line.caller == caller) ≡ false = grind (arith, nat_tests) in
      get_or-set_other asked line.caller caller true false ne ∙ (before
      ∙ sym (list_any-append (λ (it : Line). it.caller == caller) lines (line ∷ []) ∙ same (list_any (λ (it : Line). it.caller == caller) lines) fails)))
]
  where
    last : (b : Bool) → (line.caller == caller) ≡ true → (b || list_any (λ (it : Line). it.caller == caller) (line ∷ [])) ≡ true
    last true asks_so = refl
    last false asks_so = rw asks_so refl

    same : (b : Bool) → (line.caller == caller) ≡ false → (b || list_any (λ (it : Line). it.caller == caller) (line ∷ [])) ≡ b
    same true fails = refl
    same false fails = rw fails refl

pub asked_next : (asked : List Bool) (script : List Line) (at : ℕ) (line : Line) → length asked ≡ 64 → slice_get script at ≡ Some line → line.caller < 64
    → ((caller : ℕ) → caller < 64 → get_or asked caller false ≡ list_any (λ (it : Line). it.caller == caller) (take at script))
    → (caller : ℕ) → caller < 64 → get_or (set asked line.caller true) caller false ≡ list_any (λ (it : Line). it.caller == caller) (take (at + 1) script)
asked_next asked script at line long there small before caller below =
    let more : take (at + 1) script ≡ take at script ++ line ∷ [] =
    take_more script at line (slice_get_within script at line there) ∙ ap (λ (it : Line). take at script ++ it ∷ []) (get_or_from_slice_get script at line line there) in
    asked_more asked (take at script) line caller long small (before caller below) ∙ ap (list_any (λ (it : Line). it.caller == caller)) (sym more)
