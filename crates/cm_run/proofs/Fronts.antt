-- Receipts that are gathered caller by caller.
use Rattle.std.proofs.Common.{◌≡◌, ◌≢◌, ◌⊎◌, ℕ, zero, suc, ◌+◌, ◌<◌, ◌≤◌, ◌==◌, Bool, true, false, List, [], ◌∷◌, ◌++◌, All, Contains, None, Some, Option, filter, flat_map, length, get_or, slice_get, refl, sym, ap, ◌∙◌, subst, arith, inl, inr}
use Rattle.std.specs.List.{AllByRecursion, enumerate_from, list_any, range_with_len}
use Rattle.std.proofs.lemmas.Bool.{cases_Bool, cases_eq}
use Rattle.std.proofs.lemmas.Bool.Decides.{nat_tests}
use Rattle.std.proofs.lemmas.List.{append-nil, get_or_default}
use Rattle.std.proofs.lemmas.List.Concat.{flat_map-append}
use Rattle.std.proofs.lemmas.List.Elements.{All-append, All-head, All-nil, All-push, All-tail, All-weaker, filter-append}
use Rattle.std.proofs.lemmas.Option.{get_or_from_slice_get, slice_get_read, slice_get_within}
use Rattle.cm_geo.specs.declared.geo.Geo.{Geo}
use Rattle.cm_plain.specs.declared.receipt.Receipt.{Receipt}
use Rattle.cm_plain.proofs.Each.{each_kept}
use Rattle.cm_plain.specs.Limits.{segment_of}
use Rattle.cm_plain.proofs.ListElements.{In, all_in, in_has, in_kept_from, in_left, in_right, range_from}
use Rattle.cm_yard.specs.declared.view.View.{View as YardView}
use Rattle.cm_script.specs.declared.line.Line.{Line}
use Rattle.cm_script.specs.declared.report.CallerEnd.{CallerEnd}
use Rattle.cm_script.specs.Answers.{AnswersAll, AnswersBy, AnswersPart, IsOf, Numbered, TakesKeys, is_sweep, line_at, records_of_caller}
use Rattle.cm_history.specs.Endings.{HasFoundStop}
use Rattle.cm_caller.specs.Records.{HasFront}
use Rattle.cm_run.specs.Callers.{asks}
use Rattle.cm_run.specs.Gathered.{GathersBelow, receipts_by}
use Rattle.cm_run.proofs.Askers.{range_next}

-- ---- the receipts of a front are of its caller's records

-- a receipt is of one of these records
pub record IsOfOne (geo : Geo) (records : List Numbered) (receipt : Receipt) : Type 0 where
  pub asked : Numbered
  pub part : ℕ
  pub there : In asked records
  pub is_of : IsOf geo asked part receipt

module _ (geo : Geo) (records : List Numbered) where
  keys_of : (asked : Numbered) (receipts : List Receipt) → In asked records → TakesKeys geo asked receipts → All (IsOfOne geo records) receipts
  keys_of asked receipts there t i d below =
      let r = get_or receipts i d in
      record { asked = asked; part = i + 1; there = there; is_of = t.each i r (slice_get_read receipts (length receipts) i r refl below (get_or_default receipts i d r below)) }

  answers_of : (b : Bool) (asked : Numbered) (receipts : List Receipt) → In asked records → AnswersBy b geo asked receipts → All (IsOfOne geo records) receipts
  answers_of true asked receipts there a = subst (λ (rs : List Receipt). All (IsOfOne geo records) rs) (sym a.receipts_are)
      (All-push (IsOfOne geo records) a.taken a.last (keys_of asked a.taken there a.keys) (record { asked = asked; part = length a.taken + 1; there = there; is_of = a.is_of }))
  answers_of false asked receipts there a = subst (λ (rs : List Receipt). All (IsOfOne geo records) rs) (sym a.alone)
      (All-push (IsOfOne geo records) [] a.receipt (All-nil (IsOfOne geo records)) (record { asked = asked; part = 0; there = there; is_of = a.is_of }))

  all_answers_of : (done : List Numbered) (receipts : List Receipt) → ((asked : Numbered) → In asked done → In asked records) → AnswersAll geo done receipts → All (IsOfOne geo records) receipts
  all_answers_of [] receipts among a = subst (λ (rs : List Receipt). All (IsOfOne geo records) rs) (sym a) (All-nil (IsOfOne geo records))
  all_answers_of (asked ∷ later) receipts among (first, others, is, answered, rest) =
      subst (λ (rs : List Receipt). All (IsOfOne geo records) rs) (sym is)
      (All-append (IsOfOne geo records) first others (answers_of (is_sweep asked.1.op) asked first (among asked (inl refl)) answered)
      (all_answers_of later others (λ other there. among other (inr there)) rest))

  part_of : (rest : List Numbered) (receipts : List Receipt) → ((asked : Numbered) → In asked rest → In asked records) → AnswersPart geo rest receipts → All (IsOfOne geo records) receipts
  part_of [] receipts among a = subst (λ (rs : List Receipt). All (IsOfOne geo records) rs) (sym a) (All-nil (IsOfOne geo records))
  part_of (asked ∷ later) receipts among (inl none) = subst (λ (rs : List Receipt). All (IsOfOne geo records) rs) (sym none) (All-nil (IsOfOne geo records))
  part_of (asked ∷ later) receipts among (inr taken) = keys_of asked receipts (among asked (inl refl)) taken

pub front_of_records : (geo : Geo) (script : List Line) (caller : ℕ) (receipts : List Receipt) (end : Option CallerEnd) → HasFront geo script caller receipts end
    → All (IsOfOne geo (records_of_caller script caller)) receipts
front_of_records geo script caller receipts end f =
    let records = records_of_caller script caller in
    let among = λ (asked : Numbered) (there : In asked (f.front.done ++ f.front.rest)). subst (λ (rs : List Numbered). In asked rs) (sym f.answered.records_are) there in
    subst (λ (rs : List Receipt). All (IsOfOne geo records) rs) (sym f.own_is)
    (All-append (IsOfOne geo records) f.front.whole f.front.part
    (all_answers_of geo records f.front.done f.front.whole (λ asked there. among asked (in_left f.front.done f.front.rest asked there)) f.answered.answered)
    (part_of geo records f.front.rest f.front.part (λ asked there. among asked (in_right f.front.done f.front.rest asked there)) f.answered.opened))

-- a caller's records are its own
records_by : (script : List Line) (caller : ℕ) (asked : Numbered) → In asked (records_of_caller script caller) → asked.1.caller ≡ caller
records_by script caller asked there =
    in_has (λ (it : Numbered). it.1.caller ≡ caller) (records_of_caller script caller) asked
    (each_kept (λ (it : Numbered). Unit {0}) (λ (it : Numbered). it.1.caller ≡ caller) (λ (it : Numbered). it.1.caller == caller) (λ it u is. same it.1.caller is)
    (enumerate_from 1 script) (all_in (λ (it : Numbered). Unit {0}) (enumerate_from 1 script) (λ it at. tt))) there
  where
    same : (n : ℕ) → (n == caller) ≡ true → n ≡ caller
    same n is = grind (arith, nat_tests, is)

pub front_by : (geo : Geo) (script : List Line) (caller : ℕ) (receipts : List Receipt) (end : Option CallerEnd) → HasFront geo script caller receipts end
    → All (λ (receipt : Receipt). receipt.caller ≡ caller) receipts
front_by geo script caller receipts end f =
    All-weaker (IsOfOne geo (records_of_caller script caller)) (λ (receipt : Receipt). receipt.caller ≡ caller)
    (λ receipt one. one.is_of.caller_is ∙ records_by script caller one.asked one.there) receipts (front_of_records geo script caller receipts end f)

-- a record stands in its script at its number
enumerated_at : (n : ℕ) (lines : List Line) (asked : Numbered) → In asked (enumerate_from n lines) → (k : ℕ) × (asked.0 ≡ n + k) × (slice_get lines k ≡ Some asked.1)
enumerated_at n [] asked there = absurd there
enumerated_at n (line ∷ later) asked (inl is) = (zero, (ap (λ (a : Numbered). a.0) is ∙ no_more n), ap (λ (a : Numbered). Some a.1) (sym is))
  where
    no_more : (n : ℕ) → n ≡ n + 0
    no_more n = omega arith
enumerated_at n (line ∷ later) asked (inr there) = let (k, number, at) = enumerated_at (n + 1) later asked there in (suc k, (number ∙ one_on n k), at)
  where
    one_on : (n k : ℕ) → n + 1 + k ≡ n + suc k
    one_on n k = omega arith

-- so does that of a receipt, and it is one of the script
pub record IsAtLine (geo : Geo) (script : List Line) (receipt : Receipt) : Type 0 where
  pub line : Line
  pub there : line_at script receipt.line ≡ Some line
  pub among : Contains script line
  pub segment_is : receipt.segment ≡ segment_of geo line.op

pub front_at_lines : (geo : Geo) (script : List Line) (caller : ℕ) (receipts : List Receipt) (end : Option CallerEnd) → HasFront geo script caller receipts end → All (IsAtLine geo script) receipts
front_at_lines geo script caller receipts end f =
    All-weaker (IsOfOne geo (records_of_caller script caller)) (IsAtLine geo script) at receipts (front_of_records geo script caller receipts end f)
  where
    at : (receipt : Receipt) → IsOfOne geo (records_of_caller script caller) receipt → IsAtLine geo script receipt
    at receipt one =
        let (k, number, here) = enumerated_at 1 script one.asked (in_kept_from (λ (it : Numbered). it.1.caller == caller) (enumerate_from 1 script) one.asked one.there) in
        let number_is : receipt.line ≡ suc k = one.is_of.line_is ∙ (number ∙ first k) in
        record {
          line = one.asked.1;
          there = ap (line_at script) number_is ∙ here;
          among = (k, slice_get_within script k one.asked.1 here, get_or_from_slice_get script k one.asked.1 one.asked.1 here);
          segment_is = one.is_of.segment_is;
        }
      where
        first : (k : ℕ) → 1 + k ≡ suc k
        first k = omega arith

-- ---- a caller without records

no_records : (caller n : ℕ) (script : List Line) → list_any (λ (line : Line). line.caller == caller) script ≡ false
    → filter (λ (asked : Numbered). asked.1.caller == caller) (enumerate_from n script) ≡ []
no_records caller n [] none = refl
no_records caller n (line ∷ later) none = elim (cases_Bool (line.caller == caller)) [
  | inl is ↦ absurd (let h = rw is at none in cc h)
  | inr fails ↦ rw fails (no_records caller (n + 1) later (let h = rw fails at none in h))
]

pub no_front : (geo : Geo) (script : List Line) (caller : ℕ) → asks script caller ≡ false → HasFront geo script caller [] None
no_front geo script caller none = record {
  front = record { done = []; rest = []; whole = []; part = [] };
  own_is = refl;
  answered = record { records_are = no_records caller 1 script none; answered = refl; opened = refl };
  ended = refl;
}

-- ---- the receipts of one caller among others

kept_all : (caller : ℕ) (receipts : List Receipt) → All (λ (receipt : Receipt). receipt.caller ≡ caller) receipts → receipts_by caller receipts ≡ receipts
kept_all caller [] all = refl
kept_all caller (r ∷ rs) all =
    let is : (r.caller == caller) ≡ true = same r.caller (All-head (λ (receipt : Receipt). receipt.caller ≡ caller) r rs all) in
    rw is (ap (λ (l : List Receipt). r ∷ l) (kept_all caller rs (All-tail (λ (receipt : Receipt). receipt.caller ≡ caller) r rs all)))
  where
    same : (n : ℕ) → n ≡ caller → (n == caller) ≡ true
    same n is = grind (arith, nat_tests, is)

kept_none : (caller : ℕ) (receipts : List Receipt) → All (λ (receipt : Receipt). receipt.caller ≢ caller) receipts → receipts_by caller receipts ≡ []
kept_none caller [] all = refl
kept_none caller (r ∷ rs) all =
    let fails : (r.caller == caller) ≡ false = other r.caller (All-head (λ (receipt : Receipt). receipt.caller ≢ caller) r rs all) in
    rw fails (kept_none caller rs (All-tail (λ (receipt : Receipt). receipt.caller ≢ caller) r rs all))
  where
    other : (n : ℕ) → n ≢ caller → (n == caller) ≡ false
    other n ne = grind (arith, nat_tests, ne)

-- the same lists for each element, one after the other
pub flat_map_same : {X Y : Type 0} (f g : X → List Y) (xs : List X) → AllByRecursion (λ x. f x ≡ g x) xs → flat_map f xs ≡ flat_map g xs
flat_map_same f g [] same = refl
flat_map_same f g (x ∷ xs) same = ap (λ (l : List _). l ++ flat_map f xs) same.0 ∙ ap (λ (l : List _). g x ++ l) (flat_map_same f g xs same.1)

module _ (receipts more : List Receipt) (number : ℕ) (below : All (λ (receipt : Receipt). receipt.caller < number) receipts) (by : All (λ (receipt : Receipt). receipt.caller ≡ number) more) where
  others_are : (caller : ℕ) → caller < number → receipts_by caller (receipts ++ more) ≡ receipts_by caller receipts
  others_are caller low = filter-append (λ (receipt : Receipt). receipt.caller == caller) receipts more
      ∙ (ap (λ (l : List Receipt). receipts_by caller receipts ++ l)
      (kept_none caller more (All-weaker (λ (receipt : Receipt). receipt.caller ≡ number) (λ (receipt : Receipt). receipt.caller ≢ caller) (λ receipt is same. omega arith) more by))
      ∙ append-nil (receipts_by caller receipts))

  own_are : receipts_by number (receipts ++ more) ≡ more
  own_are = filter-append (λ (receipt : Receipt). receipt.caller == number) receipts more
      ∙ (ap (λ (l : List Receipt). l ++ receipts_by number more)
      (kept_none number receipts (All-weaker (λ (receipt : Receipt). receipt.caller < number) (λ (receipt : Receipt). receipt.caller ≢ number) (λ receipt low same. omega arith) receipts below))
      ∙ kept_all number more by)

  by_caller_more : receipts ≡ flat_map (λ caller. receipts_by caller receipts) (range_with_len 0 number)
      → receipts ++ more ≡ flat_map (λ caller. receipts_by caller (receipts ++ more)) (range_with_len 0 (number + 1))
  by_caller_more before =
      let whole : ℕ → List Receipt = λ caller. receipts_by caller (receipts ++ more) in
      let part : ℕ → List Receipt = λ caller. receipts_by caller receipts in
      let front : flat_map whole (range_with_len 0 number) ≡ receipts =
      flat_map_same whole part (range_with_len 0 number)
      (all_in (λ (caller : ℕ). whole caller ≡ part caller) (range_with_len 0 number) (λ caller there. others_are caller (let r = (range_from 0 number caller there).1 in omega arith)))
      ∙ sym before in
      let last : flat_map whole (number ∷ []) ≡ more = append-nil (whole number) ∙ own_are in
      sym (ap (flat_map whole) (range_next number) ∙ (flat_map-append whole (range_with_len 0 number) (number ∷ [])
      ∙ (ap (λ (l : List Receipt). l ++ flat_map whole (number ∷ [])) front ∙ ap (λ (l : List Receipt). receipts ++ l) last)))

-- ---- one caller more

module _ (geo : Geo) (script : List Line) where
  pub gathers_first : (claims : YardView) → GathersBelow geo script 0 [] [] claims
  gathers_first claims = record {
    below = All-nil (λ (receipt : Receipt). receipt.caller < 0);
    by_caller = refl;
    fronts = inr (refl, λ caller below. absurd (omega arith));
  }

  pub gathers_more : (number : ℕ) (receipts more : List Receipt) (ends later : List CallerEnd) (claims claims' : YardView) → GathersBelow geo script number receipts ends claims
      → All (λ (receipt : Receipt). receipt.caller ≡ number) more → (HasFoundStop claims → HasFoundStop claims')
      → HasFoundStop claims' ⊎ ((later ≡ ends) × HasFront geo script number more None) → GathersBelow geo script (number + 1) (receipts ++ more) later claims'
  gathers_more number receipts more ends later claims claims' g by found outcome = record {
    below = All-append (λ (receipt : Receipt). receipt.caller < number + 1) receipts more
        (All-weaker (λ (receipt : Receipt). receipt.caller < number) (λ (receipt : Receipt). receipt.caller < number + 1) (λ receipt low. omega arith) receipts g.below)
        (All-weaker (λ (receipt : Receipt). receipt.caller ≡ number) (λ (receipt : Receipt). receipt.caller < number + 1) (λ receipt is. omega arith) more by);
    by_caller = by_caller_more receipts more number g.below by g.by_caller;
    fronts = by_outcome outcome g.fronts;
  }
    where
      front_at : ((caller : ℕ) → caller < number → HasFront geo script caller (receipts_by caller receipts) None) → HasFront geo script number more None
          → (caller : ℕ) → caller < number + 1 → HasFront geo script caller (receipts_by caller (receipts ++ more)) None
      front_at before own caller low = elim (cases_eq caller number) [
        | inl is ↦ subst (λ (c : ℕ). HasFront geo script c (receipts_by c (receipts ++ more)) None) (sym is)
            (subst (λ (rs : List Receipt). HasFront geo script number rs None) (sym (own_are receipts more number g.below by)) own)
        | inr ne ↦ (let less : caller < number = omega arith in
            subst (λ (rs : List Receipt). HasFront geo script caller rs None) (sym (others_are receipts more number g.below by caller less)) (before caller less))
      ]

      by_outcome : HasFoundStop claims' ⊎ ((later ≡ ends) × HasFront geo script number more None)
          → HasFoundStop claims ⊎ ((ends ≡ []) × ((caller : ℕ) → caller < number → HasFront geo script caller (receipts_by caller receipts) None))
          → HasFoundStop claims' ⊎ ((later ≡ []) × ((caller : ℕ) → caller < number + 1 → HasFront geo script caller (receipts_by caller (receipts ++ more)) None))
      by_outcome (inl stop) before = inl stop
      by_outcome (inr own) (inl stop) = inl (found stop)
      by_outcome (inr own) (inr before) = inr (own.0 ∙ before.0, front_at before.1 own.1)

  gathers_next : (number : ℕ) (receipts : List Receipt) (ends : List CallerEnd) (claims : YardView) → asks script number ≡ false
      → GathersBelow geo script number receipts ends claims → GathersBelow geo script (number + 1) receipts ends claims
  gathers_next number receipts ends claims none g =
      subst (λ (rs : List Receipt). GathersBelow geo script (number + 1) rs ends claims) (append-nil receipts)
      (gathers_more number receipts [] ends ends claims claims g (All-nil (λ (receipt : Receipt). receipt.caller ≡ number)) (λ stop. stop) (inr (refl, no_front geo script number none)))

  -- behind callers that don't ask
  pub gathers_up : (gap number later : ℕ) (receipts : List Receipt) (ends : List CallerEnd) (claims : YardView) → number + gap ≡ later
      → ((caller : ℕ) → number ≤ caller → caller < later → asks script caller ≡ false)
      → GathersBelow geo script number receipts ends claims → GathersBelow geo script later receipts ends claims
  gathers_up zero number later receipts ends claims e none g = subst (λ (n : ℕ). GathersBelow geo script n receipts ends claims) (let h : number ≡ later = omega arith in h) g
  gathers_up (suc gap) number later receipts ends claims e none g =
      gathers_up gap (number + 1) later receipts ends claims (omega arith) (λ caller low high. none caller (omega arith) high)
      (gathers_next number receipts ends claims (none number (omega arith) (omega arith)) g)
