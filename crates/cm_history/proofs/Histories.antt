-- What the root's view of a segment has at the end is one legal history.
use Rattle.std.proofs.Common.{◌≡◌, ◌≢◌, ◌⊎◌, ℕ, zero, suc, ◌+◌, ◌-◌, ◌<◌, ◌≤◌, ◌==◌, Bool, true, false, not, List, [], ◌∷◌, ◌++◌, length, map, filter, All, IsPermutation, inl, inr, refl, sym, ap, ◌∙◌, subst, arith, count_by}
use Rattle.std.specs.List.{range_with_len}
use Rattle.std.proofs.lemmas.Bool.{cases_Bool, cases_eq, cases_lt}
use Rattle.std.proofs.lemmas.Bool.Decides.{nat_tests}
use Rattle.std.proofs.lemmas.List.{length-map}
use Rattle.std.proofs.lemmas.List.Elements.{All-cons, All-head, All-map, All-tail, All-weaker}
use Rattle.std.proofs.lemmas.List.FromFn.{length-range_with_len}
use Rattle.std.proofs.lemmas.List.Sorted.{IsPermutation-cons, IsPermutation-middle, IsPermutation-refl, IsPermutation-sym, IsPermutation-trans, length_permutation}
use Rattle.std.proofs.lemmas.List.Sums.{sum_by-append, sum_by-cons}
use Rattle.std.proofs.lemmas.Option.{slice_get_within}
use Rattle.cm_geo.specs.declared.geo.Geo.{Geo}
use Rattle.cm_plain.specs.States.{State}
use Rattle.cm_plain.specs.Steps.{Step}
use Rattle.cm_plain.specs.History.{Call, IsInHistory, Legal, change_count, grant_of, is_changing}
use Rattle.cm_plain.proofs.Regrant.{as_granted}
use Rattle.cm_lock.specs.declared.view.Key.{Key}
use Rattle.cm_lock.specs.declared.view.NumberedAnswer.{NumberedAnswer}
use Rattle.cm_lock.specs.declared.view.NumberedChange.{NumberedChange}
use Rattle.cm_lock.specs.declared.view.View.{View}
use Rattle.cm_lock.specs.ChangeLists.{ChangeList, IsListedAnswer, IsListedChange, KnowsList, change_count as noted_count, number_of, state_at}
use Rattle.cm_lock.specs.Seats.{count_of}
use Rattle.cm_lock.specs.Tables.{Closes}
use Rattle.cm_lock.specs.Views.{change_in}
use Rattle.cm_lock.proofs.ChangeSteps.{each_is_step}
use Rattle.cm_laws.proofs.Linking.{one_if}
use Rattle.cm_laws.proofs.Remains.{sum_one}
use Rattle.cm_history.specs.Kept.{Has, answer_in, answer_of, is_staying}

-- ---- numbers that follow, each once

same_one : (n m : ℕ) → n ≡ m → one_if (n == m) ≡ 1
same_one n m is = grind (arith, nat_tests)

other_none : (n m : ℕ) → n ≢ m → one_if (n == m) ≡ 0
other_none n m ne = grind (arith, nat_tests)

count_here : (a x : ℕ) (ns : List ℕ) → x ≡ a → count_of a (x ∷ ns) ≡ 1 + count_of a ns
count_here a x ns is = let c = sum_by-cons (λ (m : ℕ). one_if (m == a)) x ns in let o = same_one x a is in omega arith

count_else : (a x : ℕ) (ns : List ℕ) → x ≢ a → count_of a (x ∷ ns) ≡ count_of a ns
count_else a x ns ne = let c = sum_by-cons (λ (m : ℕ). one_if (m == a)) x ns in let o = other_none x a ne in omega arith

count_append : (a : ℕ) (xs ys : List ℕ) → count_of a (xs ++ ys) ≡ count_of a xs + count_of a ys
count_append a xs ys = sum_by-append (λ (m : ℕ). one_if (m == a)) xs ys

-- a number that stands in a list splits it
split_at : (a : ℕ) (ns : List ℕ) → 0 < count_of a ns → (xs : List ℕ) × (ys : List ℕ) × (ns ≡ xs ++ a ∷ ys)
split_at a [] some = absurd (omega arith)
split_at a (n ∷ ns) some = elim (cases_eq n a) [
  | inl is ↦ ([], ns, ap (λ (k : ℕ). k ∷ ns) is)
  | inr ne ↦ (let e = count_else a n ns ne in let r = split_at a ns (omega arith) in (n ∷ r.0, r.1, ap (λ (l : List ℕ). n ∷ l) r.2))
]

-- numbers of which so many follow from one on, each once, and which has no others, are those that follow
once_follow : (n a : ℕ) (ns : List ℕ) → ((k : ℕ) → k < n → count_of (a + k) ns ≡ 1) → ((k : ℕ) → n ≤ k → count_of (a + k) ns ≡ 0) → ((x : ℕ) → x < a → count_of x ns ≡ 0)
    → IsPermutation (range_with_len a n) ns
once_follow zero a [] once above below = IsPermutation-refl []
once_follow zero a (x ∷ ns) once above below = absurd (elim (cases_lt x a) [
  | inl low ↦ (let z = below x low in let c = count_here x x ns refl in omega arith)
  | inr high ↦ (
      let e : a + (x - a) ≡ x = omega arith in
      let z = subst (λ (k : ℕ). count_of k (x ∷ ns) ≡ 0) e (above (x - a) (omega arith)) in
      let c = count_here x x ns refl in omega arith)
])
once_follow (suc n) a ns once above below =
    let first = subst (λ (k : ℕ). count_of k ns ≡ 1) (plus_zero a) (once 0 (omega arith)) in
    let (xs, ys, is) = split_at a ns (omega arith) in
    let rest : (k : ℕ) → k ≢ a → count_of k (xs ++ ys) ≡ count_of k ns = λ k ne.
    (let p = count_append k xs ys in let q = count_append k xs (a ∷ ys) in let e = count_else k a ys (λ same. ne (sym same)) in
    let w = ap (λ (l : List ℕ). count_of k l) is in omega arith) in
    let none : count_of a (xs ++ ys) ≡ 0 =
    (let p = count_append a xs ys in let q = count_append a xs (a ∷ ys) in let e = count_here a a ys refl in
    let w = ap (λ (l : List ℕ). count_of a l) is in omega arith) in
    let later = once_follow n (a + 1) (xs ++ ys)
    (λ k less. subst (λ (j : ℕ). count_of j (xs ++ ys) ≡ 1) (shifted a k) (rest (a + (k + 1)) (further a k) ∙ once (k + 1) (omega arith)))
    (λ k most. subst (λ (j : ℕ). count_of j (xs ++ ys) ≡ 0) (shifted a k) (rest (a + (k + 1)) (further a k) ∙ above (k + 1) (omega arith)))
    (λ x less. elim (cases_eq x a) [
      | inl same ↦ subst (λ (j : ℕ). count_of j (xs ++ ys) ≡ 0) (sym same) none
      | inr ne ↦ rest x ne ∙ below x (omega arith)
    ]) in
    IsPermutation-trans (a ∷ range_with_len (a + 1) n) (a ∷ (xs ++ ys)) ns
    (IsPermutation-cons a (range_with_len (a + 1) n) (xs ++ ys) later)
    (subst (λ (l : List ℕ). IsPermutation (a ∷ (xs ++ ys)) l) (sym is) (IsPermutation-sym (xs ++ a ∷ ys) (a ∷ (xs ++ ys)) (IsPermutation-middle xs a ys)))
  where
    plus_zero : (a : ℕ) → a + 0 ≡ a
    plus_zero a = omega arith

    shifted : (a k : ℕ) → a + (k + 1) ≡ a + 1 + k
    shifted a k = omega arith

    further : (a k : ℕ) → a + (k + 1) ≢ a
    further a k = λ same. omega arith

-- the numbers of changes
abbrev numbers_in : List NumberedChange → List ℕ
numbers_in cs = map (λ (c : NumberedChange). c.number) cs

-- how often a change was noted is how often its number was
count_is : (n : ℕ) (cs : List NumberedChange) → count_by (λ (c : NumberedChange). c.number == n) cs ≡ count_of n (numbers_in cs)
count_is n [] = refl
count_is n (c ∷ cs) =
    let a = sum_by-cons (λ (x : NumberedChange). one_if (x.number == n)) c cs in
    let b = sum_by-cons (λ (m : ℕ). one_if (m == n)) c.number (numbers_in cs) in
    let r = count_is n cs in omega arith

-- changes of a list have numbers within it
none_else : (list : ChangeList) (cs : List NumberedChange) (n : ℕ) → All (IsListedChange list) cs → (n ≤ list.start) ⊎ (number_of list < n) → count_of n (numbers_in cs) ≡ 0
none_else list [] n listed out = refl
none_else list (c ∷ cs) n listed out =
    let l = All-head (IsListedChange list) c cs listed in
    let within = slice_get_within list.changes l.place (change_in c.change) l.there in
    let is = l.number_is in
    let ne : c.number ≢ n = λ same. out_of out (omega arith) (omega arith) in
    count_else n c.number (numbers_in cs) ne ∙ none_else list cs n (All-tail (IsListedChange list) c cs listed) out
  where
    out_of : (n ≤ list.start) ⊎ (number_of list < n) → list.start < n → n ≤ number_of list → ⊥
    out_of (inl most) low high = omega arith
    out_of (inr least) low high = omega arith

-- changes that a list has, each once, have the numbers that follow
changes_follow : (list : ChangeList) (cs : List NumberedChange) → All (IsListedChange list) cs
    → ((place : ℕ) → place < length list.changes → count_by (λ (c : NumberedChange). c.number == list.start + place + 1) cs ≡ 1)
    → IsPermutation (range_with_len (list.start + 1) (length list.changes)) (numbers_in cs)
changes_follow list cs listed once = once_follow (length list.changes) (list.start + 1) (numbers_in cs)
    (λ k less. subst (λ (n : ℕ). count_of n (numbers_in cs) ≡ 1) (swapped list.start k) (sym (count_is (list.start + k + 1) cs) ∙ once k less))
    (λ k most. none_else list cs (list.start + 1 + k) listed (inr (omega arith)))
    (λ x less. none_else list cs x listed (inl (omega arith)))
  where
    swapped : (start k : ℕ) → start + k + 1 ≡ start + 1 + k
    swapped start k = omega arith

-- ---- lists

-- what holds of the elements of both parts of a list holds of all
both_parts : (P : Bool → Call → Type 0) (p : Call → Bool) (calls : List Call) → All (P true) (filter p calls)
    → All (P false) (filter (λ c. not (p c)) calls) → All (λ c. P (p c) c) calls
both_parts P p [] passing failing = λ k d below. absurd (omega arith)
both_parts P p (c ∷ cs) passing failing =
    let others : Call → Bool = λ x. not (p x) in
    elim (cases_Bool (p c)) [
      | inl is ↦ (
          let keeps : filter p (c ∷ cs) ≡ c ∷ filter p cs = rw is refl in
          let leaves : filter others (c ∷ cs) ≡ filter others cs = rw is refl in
          let a = subst (λ (l : List Call). All (P true) l) keeps passing in
          let o = subst (λ (l : List Call). All (P false) l) leaves failing in
          All-cons (λ x. P (p x) x) c cs (subst (λ (b : Bool). P b c) (sym is) (All-head (P true) c (filter p cs) a))
          (both_parts P p cs (All-tail (P true) c (filter p cs) a) o))
      | inr is ↦ (
          let keeps : filter others (c ∷ cs) ≡ c ∷ filter others cs = rw is refl in
          let leaves : filter p (c ∷ cs) ≡ filter p cs = rw is refl in
          let a = subst (λ (l : List Call). All (P true) l) leaves passing in
          let o = subst (λ (l : List Call). All (P false) l) keeps failing in
          All-cons (λ x. P (p x) x) c cs (subst (λ (b : Bool). P b c) (sym is) (All-head (P false) c (filter others cs) o))
          (both_parts P p cs a (All-tail (P false) c (filter others cs) o)))
    ]

-- what holds of mapped elements
all_mapped : {X Y : Type 0} (P : Y → Type 0) (f : X → Y) (xs : List X) → All P (map f xs) → All (λ x. P (f x)) xs
all_mapped P f [] all = λ k d below. absurd (omega arith)
all_mapped P f (x ∷ xs) all = All-cons (λ x. P (f x)) x xs (All-head P (f x) (map f xs) all) (all_mapped P f xs (All-tail P (f x) (map f xs) all))

map_twice : {X Y Z : Type 0} (f : X → Y) (g : Y → Z) (xs : List X) → map g (map f xs) ≡ map (λ x. g (f x)) xs
map_twice f g [] = refl
map_twice f g (x ∷ xs) = ap (λ l. g (f x) ∷ l) (map_twice f g xs)

-- ---- the history

-- an answer is a change's in a history
abbrev IsChangeAnswer : Geo → ℕ → ℕ → (ℕ → State) → NumberedAnswer → Type 0
IsChangeAnswer geo segment before states a =
    (i : ℕ) × (a.number ≡ before + i + 1) × Step geo segment (states i) (before + i) true a.op (states (i + 1)) a.reply

-- or another one's
abbrev IsOtherAnswer : Geo → ℕ → ℕ → (ℕ → State) → ℕ → NumberedAnswer → Type 0
IsOtherAnswer geo segment before states most a =
    (i : ℕ) × (i ≤ most) × (a.number ≡ before + i) × Step geo segment (states i) (before + i) (grant_of a.reply) a.op (states i) a.reply

module _ (key : Key) (v : View) (words : List ℕ) (calls : List Call) (closes : Closes key v words) (has : Has calls v) where
  abbrev states : ℕ → State
  states place = state_at key.geo closes.list place

  change_is : (c : NumberedChange) → IsListedChange closes.list c → IsChangeAnswer key.geo key.segment closes.list.start states (answer_in c)
  change_is c l = (l.place, l.number_is, each_is_step key words (v ∷ []) closes l.place (change_in c.change) l.there)

  other_is : (a : NumberedAnswer) → IsListedAnswer key closes.list a → IsOtherAnswer key.geo key.segment closes.list.start states (length closes.list.changes) a
  other_is a l = (
    l.place,
    l.within,
    l.number_is,
    subst (λ (n : ℕ). Step key.geo key.segment (states l.place) n (grant_of a.reply) a.op (states l.place) a.reply) l.number_is
        (as_granted key.geo key.segment (states l.place) a.number a.op (states l.place) a.reply l.step),
  )

  knows : KnowsList key closes.list v
  knows = All-head (KnowsList key closes.list) v [] closes.noted.each

  follow : IsPermutation (range_with_len (closes.list.start + 1) (length closes.list.changes)) (numbers_in v.changes)
  follow = changes_follow closes.list v.changes knows.changes
      (λ place below. let o = closes.noted.once place below in let s = sum_one (noted_count (closes.list.start + place + 1)) v in omega arith)

  -- as many calls changed the segment as its list has changes
  pub as_many : change_count calls ≡ length closes.list.changes
  as_many =
      sym (length-map (filter is_changing calls) answer_of) ∙ ap length has.changes ∙ length-map v.changes answer_in
      ∙ sym (length-map v.changes (λ (c : NumberedChange). c.number))
      ∙ length_permutation (range_with_len (closes.list.start + 1) (length closes.list.changes)) (numbers_in v.changes) follow
      ∙ length-range_with_len (closes.list.start + 1) (length closes.list.changes)

  numbers_are : map (λ (call : Call). call.receipt.number) (filter is_changing calls) ≡ numbers_in v.changes
  numbers_are =
      sym (map_twice answer_of (λ (a : NumberedAnswer). a.number) (filter is_changing calls)) ∙ ap (map (λ (a : NumberedAnswer). a.number)) has.changes
      ∙ map_twice answer_in (λ (a : NumberedAnswer). a.number) v.changes

  changes_are : All (IsChangeAnswer key.geo key.segment closes.list.start states) (map answer_of (filter is_changing calls))
  changes_are = subst (λ (l : List NumberedAnswer). All (IsChangeAnswer key.geo key.segment closes.list.start states) l) (sym has.changes)
      (All-map (IsChangeAnswer key.geo key.segment closes.list.start states) answer_in v.changes
      (All-weaker (IsListedChange closes.list) (λ (c : NumberedChange). IsChangeAnswer key.geo key.segment closes.list.start states (answer_in c))
      change_is v.changes knows.changes))

  others_are : All (IsOtherAnswer key.geo key.segment closes.list.start states (length closes.list.changes)) (map answer_of (filter is_staying calls))
  others_are = subst (λ (l : List NumberedAnswer). All (IsOtherAnswer key.geo key.segment closes.list.start states (length closes.list.changes)) l) (sym has.answers)
      (All-weaker (IsListedAnswer key closes.list) (IsOtherAnswer key.geo key.segment closes.list.start states (length closes.list.changes)) other_is v.answers knows.answers)

  -- the calls that are all that the root has noted at the end are one legal history
  pub legal : Legal key.geo key.segment closes.list.first closes.list.start (state_at key.geo closes.list) (change_count calls) calls
  legal = record {
    numbers = subst (λ (ns : List ℕ). IsPermutation (range_with_len (closes.list.start + 1) (change_count calls)) ns) (sym numbers_are)
        (subst (λ (n : ℕ). IsPermutation (range_with_len (closes.list.start + 1) n) (numbers_in v.changes)) (sym as_many) follow);
    begins = refl;
    steps = subst (λ (n : ℕ). All (λ (call : Call). IsInHistory key.geo key.segment closes.list.start states n (is_changing call) call) calls) (sym as_many)
        (both_parts (λ b call. IsInHistory key.geo key.segment closes.list.start states (length closes.list.changes) b call) is_changing calls
        (all_mapped (IsChangeAnswer key.geo key.segment closes.list.start states) answer_of (filter is_changing calls) changes_are)
        (all_mapped (IsOtherAnswer key.geo key.segment closes.list.start states (length closes.list.changes)) answer_of (filter is_staying calls) others_are));
    in_order = has.in_order;
  }
