-- The lines of a script keep the limits of the geometry that it was read for.
use Rattle.std.proofs.Common.{◌≡◌, ℕ, ◌+◌, ◌<◌, ◌≤◌, ◌||◌, Bool, true, false, List, [], ◌∷◌, length, nat_lt, nat_le, zero, suc, Option, Some, None, Result, Ok, Err, find, refl, subst, arith, inl, inr}
use Rattle.std.specs.List.{range_with_len}
use Rattle.std.specs.Str.{bytes_eq}
use Rattle.std.specs.Prelude.{decimal}
use Rattle.std.proofs.lemmas.Bool.{cases_Bool, or_parts}
use Rattle.std.proofs.lemmas.Bool.Decides.{nat_tests}
use Rattle.std.proofs.lemmas.Option.{same_Some}
use Rattle.std.proofs.lemmas.List.Elements.{All-cons, All-nil}
use Rattle.cm_geo.specs.declared.geo.Geo.{Geo}
use Rattle.cm_geo.specs.declared.limits.TheConstants.{MAX_KEY_BYTES, MAX_RUN_CHUNKS}
use Rattle.cm_geo.specs.Need.{Fits, need}
use Rattle.cm_plain.specs.Limits.{IsKey, IsValue, KeepsLimits}
use Rattle.cm_plain.specs.declared.op.Op.{Op}
use Rattle.cm_plain.specs.declared.op.Op.TheVariants as op
use Rattle.cm_script.specs.declared.limits.TheConstants.{MAX_CALLERS, MAX_SCRIPT_LISTS}
use Rattle.cm_script.specs.declared.line.Line.{Line}
use Rattle.cm_script.specs.declared.stop.LineCause.{LineCause}
use Rattle.cm_script.specs.declared.stop.LineCause.TheVariants as cause
use Rattle.cm_script.specs.declared.verb.Verb.{Verb}
use Rattle.cm_script.specs.declared.verb.Verb.TheVariants as verb
use Rattle.cm_script.specs.Numbers.{number_below}
use Rattle.cm_script.specs.Scripts.{IsFor, IsLineFor, Refusal, op_on_segment, is_empty, is_large, is_long_key, is_long_value, op_on_key, line_by, line_of, line_then, line_with, lines_from, lists_with, op_of, unless, verb_of, op_with_value}

-- what passes a test that would refuse it
record Passes (test : Bool) (asked : Op) (result : Result Op LineCause) : Type 0 where
  clear : test ≡ false
  is : result ≡ Ok asked

passes : (test : Bool) (why : LineCause) (result : Result Op LineCause) (asked : Op) → unless test why result ≡ Ok asked → Passes test asked result
passes true why result asked e = cc e
passes false why result asked e = record { clear = refl; is = e }

ok_same : {A E : Type 0} {one other : A} → ◌≡◌ {A = Result A E} (Ok one) (Ok other) → one ≡ other
ok_same e = cc e

-- a key that was accepted
key_kept : (key : List ℕ) (asked got : Op) → op_on_key key asked ≡ Ok got → IsKey key × (asked ≡ got)
key_kept key asked got e =
    let nonempty = passes (is_empty key) cause.Argument (unless (is_long_key key) cause.TooLarge (Ok asked)) got e in
    let short = passes (is_long_key key) cause.TooLarge (Ok asked) got nonempty.is in
    let one : 1 ≤ length key = grind (arith, nat_tests, nonempty.clear) in
    let most : length key ≤ MAX_KEY_BYTES = grind (arith, nat_tests, short.clear) in
    ((one, most), ok_same short.is)

-- a key and a value that were accepted
entry_kept : (geo : Geo) (key value : List ℕ) (asked got : Op) → op_with_value geo key value asked ≡ Ok got → Fits geo (length key) (length value) × (asked ≡ got)
entry_kept geo key value asked got e =
    let nonempty = passes (is_empty key) cause.Argument (unless (is_long_key key || (is_long_value value || is_large geo key value)) cause.TooLarge (Ok asked)) got e in
    let small = passes (is_long_key key || (is_long_value value || is_large geo key value)) cause.TooLarge (Ok asked) got nonempty.is in
    let keys = or_parts (is_long_key key) (is_long_value value || is_large geo key value) small.clear in
    let values = or_parts (is_long_value value) (is_large geo key value) keys.1 in (
      record {
        key_nonempty = grind (arith, nat_tests, nonempty.clear);
        key_short = grind (arith, nat_tests, keys.0);
        value_short = grind (arith, nat_tests, values.0);
        run_short = not_over MAX_RUN_CHUNKS (need geo (length key) (length value)) values.1;
      },
      ok_same small.is,
    )
  where
    not_over : (most n : ℕ) → nat_lt most n ≡ false → n ≤ most
    not_over most n e = grind (arith, nat_tests)

-- an expected value that was accepted
expected_kept : (key expected : List ℕ) (result : Result Op LineCause) (got : Op)
    → unless (is_empty key) cause.Argument (unless (is_long_value expected) cause.TooLarge result) ≡ Ok got → IsValue expected × (result ≡ Ok got)
expected_kept key expected result got e =
    let nonempty = passes (is_empty key) cause.Argument (unless (is_long_value expected) cause.TooLarge result) got e in
    let short = passes (is_long_value expected) cause.TooLarge result got nonempty.is in
    (grind (arith, nat_tests, short.clear), short.is)

-- a number that was read is below its limit
found_below : (test : ℕ → Bool) (low n found : ℕ) → find test (range_with_len low n) ≡ Some found → found < low + n
found_below test low zero found e = cc e
found_below test low (suc n) found e = elim (cases_Bool (test low)) [
  | inl here ↦ let is = same_Some low found (rw here at e) in omega (arith, is)
  | inr later ↦ let below = found_below test (low + 1) n found (rw later at e) in omega (arith, below)
]

number_in : (limit : ℕ) (text : List ℕ) (found : ℕ) → number_below limit text ≡ Some found → found < limit
unfolding number_below
number_in limit text found e = let below = found_below (λ number. bytes_eq (decimal number) text) 0 limit found e in omega (arith, below)

-- a segment that was accepted
record InSegment (limit : ℕ) (asked : ℕ → Op) (large : Bool) (got : Op) : Type 0 where
  segment : ℕ
  below : segment < limit
  is : asked segment ≡ got
  small : large ≡ false

segment_kept : (limit : ℕ) (text : List ℕ) (asked : ℕ → Op) (large : Bool) (got : Op) (number : Option ℕ) → number_below limit text ≡ number
    → op_on_segment number asked large ≡ Ok got → InSegment limit asked large got
segment_kept limit text asked large got None is e = cc e
segment_kept limit text asked large got (Some segment) is e =
    let small = passes large cause.TooLarge (Ok (asked segment)) got e in
    record { segment = segment; below = number_in limit text segment is; is = ok_same small.is; small = small.clear }

as_op : (geo : Geo) (asked got : Op) → asked ≡ got → KeepsLimits geo asked → KeepsLimits geo got
as_op geo asked got same h = subst (KeepsLimits geo) same h

-- what a key's limits give
by_key : (geo : Geo) (key : List ℕ) (asked got : Op) → (IsKey key → KeepsLimits geo asked) → op_on_key key asked ≡ Ok got → KeepsLimits geo got
by_key geo key asked got gives e = let k = key_kept key asked got e in as_op geo asked got k.1 (gives k.0)

-- what an entry's limits give
by_entry : (geo : Geo) (key value : List ℕ) (asked got : Op) → (Fits geo (length key) (length value) → KeepsLimits geo asked) → op_with_value geo key value asked ≡ Ok got → KeepsLimits geo got
by_entry geo key value asked got gives e = let k = entry_kept geo key value asked got e in as_op geo asked got k.1 (gives k.0)

-- an operation that was accepted keeps the limits
op_kept : (geo : Geo) (lists : ℕ) (verb : Verb) (arguments : List (List ℕ)) (got : Op) → op_of geo lists verb arguments ≡ Ok got → KeepsLimits geo got
op_kept geo lists verb.Put [] got e = cc e
op_kept geo lists verb.Put (key ∷ []) got e = cc e
op_kept geo lists verb.Put (key ∷ value ∷ []) got e =
    by_entry geo key value (op.Put key value) got (λ fits. fits) e
op_kept geo lists verb.Put (key ∷ value ∷ other ∷ others) got e = cc e
op_kept geo lists verb.Get [] got e = cc e
op_kept geo lists verb.Get (key ∷ []) got e = by_key geo key (op.Get key) got (λ is. is) e
op_kept geo lists verb.Get (key ∷ other ∷ others) got e = cc e
op_kept geo lists verb.PutIfAbsent [] got e = cc e
op_kept geo lists verb.PutIfAbsent (key ∷ []) got e = cc e
op_kept geo lists verb.PutIfAbsent (key ∷ value ∷ []) got e =
    by_entry geo key value (op.PutIfAbsent key value) got (λ fits. fits) e
op_kept geo lists verb.PutIfAbsent (key ∷ value ∷ other ∷ others) got e = cc e
op_kept geo lists verb.Replace [] got e = cc e
op_kept geo lists verb.Replace (key ∷ []) got e = cc e
op_kept geo lists verb.Replace (key ∷ value ∷ []) got e =
    by_entry geo key value (op.Replace key value) got (λ fits. fits) e
op_kept geo lists verb.Replace (key ∷ value ∷ other ∷ others) got e = cc e
op_kept geo lists verb.ReplaceIf [] got e = cc e
op_kept geo lists verb.ReplaceIf (key ∷ []) got e = cc e
op_kept geo lists verb.ReplaceIf (key ∷ expected ∷ []) got e = cc e
op_kept geo lists verb.ReplaceIf (key ∷ expected ∷ value ∷ []) got e =
    let asked : Op = op.ReplaceIf key expected value in
    let k = expected_kept key expected (op_with_value geo key value asked) got e in
    by_entry geo key value asked got (λ fits. (fits, k.0)) k.1
op_kept geo lists verb.ReplaceIf (key ∷ expected ∷ value ∷ other ∷ others) got e = cc e
op_kept geo lists verb.Remove [] got e = cc e
op_kept geo lists verb.Remove (key ∷ []) got e = by_key geo key (op.Remove key) got (λ is. is) e
op_kept geo lists verb.Remove (key ∷ other ∷ others) got e = cc e
op_kept geo lists verb.RemoveIf [] got e = cc e
op_kept geo lists verb.RemoveIf (key ∷ []) got e = cc e
op_kept geo lists verb.RemoveIf (key ∷ expected ∷ []) got e =
    let asked : Op = op.RemoveIf key expected in
    let k = expected_kept key expected (op_on_key key asked) got e in
    by_key geo key asked got (λ is. (is, k.0)) k.1
op_kept geo lists verb.RemoveIf (key ∷ expected ∷ other ∷ others) got e = cc e
op_kept geo lists verb.Count [] got e = cc e
op_kept geo lists verb.Count (segment ∷ []) got e =
    let k = segment_kept geo.segments segment (λ number. op.Count number) false got (number_below geo.segments segment) refl e in as_op geo (op.Count k.segment) got k.is k.below
op_kept geo lists verb.Count (segment ∷ other ∷ others) got e = cc e
op_kept geo lists verb.List [] got e = cc e
op_kept geo lists verb.List (segment ∷ []) got e =
    let k = segment_kept geo.segments segment (λ number. op.List number) (nat_le MAX_SCRIPT_LISTS lists) got (number_below geo.segments segment) refl e in as_op geo (op.List k.segment) got k.is k.below
op_kept geo lists verb.List (segment ∷ other ∷ others) got e = cc e
op_kept geo lists verb.Sweep [] got e = cc e
op_kept geo lists verb.Sweep (segment ∷ []) got e = cc e
op_kept geo lists verb.Sweep (segment ∷ prefix ∷ []) got e =
    let k = segment_kept geo.segments segment (λ number. op.Sweep number prefix) (is_long_key prefix) got (number_below geo.segments segment) refl e in
    let short : length prefix ≤ MAX_KEY_BYTES = grind (arith, nat_tests, k.small) in
    as_op geo (op.Sweep k.segment prefix) got k.is (k.below, short)
op_kept geo lists verb.Sweep (segment ∷ prefix ∷ other ∷ others) got e = cc e

-- a line that was accepted: its caller is one, and it keeps the limits
record IsAccepted (geo : Geo) (line : Line) : Type 0 where
  caller : line.caller < MAX_CALLERS
  limits : KeepsLimits geo line.op

by_op : (geo : Geo) (caller : ℕ) (result : Result Op LineCause) (line : Line) → caller < MAX_CALLERS → ((got : Op) → result ≡ Ok got → KeepsLimits geo got) → line_by caller result ≡ Ok line
    → IsAccepted geo line
by_op geo caller (Err why) line below kept e = cc e
by_op geo caller (Ok got) line below kept e =
    let made : Line = record { caller = caller; op = got } in
    let same : made ≡ line = ok_same e in
    subst (IsAccepted geo) same (record { caller = below; limits = kept got refl })

by_caller : (geo : Geo) (lists : ℕ) (text : List ℕ) (caller : Option ℕ) (verb : Option Verb) (arguments : List (List ℕ)) (line : Line) → number_below MAX_CALLERS text ≡ caller
    → line_with geo lists caller verb arguments ≡ Ok line → IsAccepted geo line
by_caller geo lists text None verb arguments line is e = cc e
by_caller geo lists text (Some caller) None arguments line is e = cc e
by_caller geo lists text (Some caller) (Some verb) arguments line is e =
    by_op geo caller (op_of geo lists verb arguments) line (number_in MAX_CALLERS text caller is) (op_kept geo lists verb arguments) e

line_accepted : (geo : Geo) (lists : ℕ) (fields : List (List ℕ)) (line : Line) → line_of geo lists fields ≡ Ok line → IsAccepted geo line
line_accepted geo lists [] line e = cc e
line_accepted geo lists (caller ∷ []) line e = cc e
line_accepted geo lists (caller ∷ word ∷ []) line e = cc e
line_accepted geo lists (caller ∷ word ∷ argument ∷ arguments) line e = elim (cases_Bool (nat_lt 2 (length arguments))) [
  | inl length_is ↦ let h = rw length_is at e in cc h
  | inr within_limit ↦ by_caller geo lists caller (number_below MAX_CALLERS caller) (verb_of word) (argument ∷ arguments) line refl (rw within_limit at e)
]

-- a line that was accepted is one for the geometry
line_kept : (geo : Geo) (line : Line) → IsAccepted geo line → IsLineFor geo line
line_kept geo line it = record { caller = it.caller; limits = it.limits }

-- a line and those behind it
then_kept : (geo : Geo) (number : ℕ) (result : Result Line LineCause) (later : Result (List Line) Refusal) (lines : List Line)
    → ((got : Line) → result ≡ Ok got → IsLineFor geo got) → ((rest : List Line) → later ≡ Ok rest → IsFor geo rest)
    → line_then number result later ≡ Ok lines → IsFor geo lines
then_kept geo number (Err why) later lines one rest e = cc e
then_kept geo number (Ok got) (Err why) lines one rest e = cc e
then_kept geo number (Ok got) (Ok others) lines one rest e =
    let same : got ∷ others ≡ lines = ok_same e in
    subst (IsFor geo) same (All-cons (IsLineFor geo) got others (one got refl) (rest others refl))

-- the lines of records are all read for the geometry
pub lines_kept : (geo : Geo) (number lists : ℕ) (rows : List (List (List ℕ))) (lines : List Line) → lines_from geo number lists rows ≡ Ok lines → IsFor geo lines
lines_kept geo number lists [] lines e =
    let same : [] ≡ lines = ok_same e in subst (IsFor geo) same (All-nil (IsLineFor geo))
lines_kept geo number lists (row ∷ rows) lines e =
    let result = line_of geo lists row in
    then_kept geo number result (lines_from geo (number + 1) (lists_with lists result) rows) lines
    (λ got is. line_kept geo got (line_accepted geo lists row got is)) (lines_kept geo (number + 1) (lists_with lists result) rows) e
