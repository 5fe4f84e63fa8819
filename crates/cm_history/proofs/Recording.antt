-- The calls of one segment, and the view that has them: how they grow, and how they are joined.
use Rattle.std.proofs.Common.{◌≡◌, ℕ, ◌-◌, ◌<◌, ◌≤◌, max, Bool, true, false, not, List, [], ◌∷◌, ◌++◌, length, map, filter, All, AllPairs, inl, inr, refl, sym, ap, ◌∙◌, subst, arith}
use Rattle.std.proofs.lemmas.Bool.{cases_Bool, cases_lt}
use Rattle.std.proofs.lemmas.List.{append-nil, get_or_append_left, get_or-append_right, length-append, map-append}
use Rattle.std.proofs.lemmas.List.Elements.{All-append, All-push, All-weaker, filter-append}
use Rattle.std.proofs.lemmas.List.Quantifiers.{all_pairs_push}
use Rattle.cm_plain.specs.declared.op.Op.{Op}
use Rattle.cm_plain.specs.declared.reply.Reply.{Reply}
use Rattle.cm_plain.specs.Steps.{is_change, reply_of}
use Rattle.cm_plain.specs.History.{Call, KeepsOrder, is_changing}
use Rattle.cm_lock.specs.declared.view.NumberedAnswer.{NumberedAnswer}
use Rattle.cm_lock.specs.declared.view.NumberedChange.{NumberedChange}
use Rattle.cm_lock.specs.declared.view.View.{View}
use Rattle.cm_lock.specs.Views.{with_joined}
use Rattle.cm_turn.specs.Records.{Adds, AddsAs}
use Rattle.cm_history.specs.Endings.{AreApart}
use Rattle.cm_history.specs.Kept.{Has, answer_in, answer_of, is_staying}

-- a call has a number up to this one
abbrev IsWithin : ℕ → Call → Type 0
IsWithin seen call = call.receipt.number ≤ seen

still_within : (seen more : ℕ) (calls : List Call) → seen ≤ more → All (IsWithin seen) calls → All (IsWithin more) calls
still_within seen more calls most = All-weaker (IsWithin seen) (IsWithin more) (λ call within. omega arith) calls

-- ---- one view

-- nothing was called yet
pub has_none : (v : View) → v.changes ≡ [] → v.answers ≡ [] → Has [] v
has_none v no_changes no_answers = record {
  changes = sym (ap (map answer_in) no_changes);
  answers = sym no_answers;
  seen = λ k d inside. absurd (omega arith);
  in_order = λ i j d less inside. absurd (omega arith);
}

-- nothing was added
pub has_same : (calls : List Call) (v w : View) → w.changes ≡ v.changes → w.answers ≡ v.answers → v.seen ≤ w.seen → Has calls v → Has calls w
has_same calls v w same_changes same_answers most has = record {
  changes = has.changes ∙ ap (map answer_in) (sym same_changes);
  answers = has.answers ∙ sym same_answers;
  seen = still_within v.seen w.seen calls most has.seen;
  in_order = has.in_order;
}

filter_one : (p : Call → Bool) (call : Call) → p call ≡ true → filter p (call ∷ []) ≡ call ∷ []
filter_one p call is = rw is refl

filter_none : (p : Call → Bool) (call : Call) → p call ≡ false → filter p (call ∷ []) ≡ []
filter_none p call is = rw is refl

-- what a filter takes of one call more
more_in : (p : Call → Bool) (calls : List Call) (call : Call) → p call ≡ true
    → map answer_of (filter p (calls ++ call ∷ [])) ≡ map answer_of (filter p calls) ++ answer_of call ∷ []
more_in p calls call is =
    ap (map answer_of) (filter-append p calls (call ∷ []) ∙ ap (λ (cs : List Call). filter p calls ++ cs) (filter_one p call is))
    ∙ map-append answer_of (filter p calls) (call ∷ [])

more_out : (p : Call → Bool) (calls : List Call) (call : Call) → p call ≡ false → map answer_of (filter p (calls ++ call ∷ [])) ≡ map answer_of (filter p calls)
more_out p calls call is =
    ap (map answer_of) (filter-append p calls (call ∷ []) ∙ (ap (λ (cs : List Call). filter p calls ++ cs) (filter_none p call is) ∙ append-nil (filter p calls)))

-- calls up to a number are in order with one more at it, or above it where that one changes the segment
order_more : (calls : List Call) (seen : ℕ) (call : Call) (changes : Bool) → is_changing call ≡ changes → All (IsWithin seen) calls → AllPairs KeepsOrder calls
    → seen ≤ call.receipt.number → (changes ≡ true → seen < call.receipt.number) → AllPairs KeepsOrder (calls ++ call ∷ [])
order_more calls seen call changes is within order least above = all_pairs_push KeepsOrder calls call order
    (All-weaker (IsWithin seen) (λ (earlier : Call). KeepsOrder earlier call)
    (λ earlier most same. (omega arith, λ changed. let less = above (sym is ∙ changed) in omega arith)) calls within)

-- one change more
has_change : (calls : List Call) (v w : View) (call : Call) → Has calls v → is_changing call ≡ true → AddsAs true call.op call.receipt.number call.receipt.reply v w
    → call.receipt.number ≤ w.seen → Has (calls ++ call ∷ []) w
has_change calls v w call has is (c, view, op_is, reply_is, above) most =
    let one : NumberedChange = record { number = call.receipt.number; change = c } in
    let same : answer_of call ≡ answer_in one =
    ap (λ (r : Reply). record { number = call.receipt.number; op = call.op; reply = r }) reply_is
    ∙ ap (λ (o : Op). record { number = call.receipt.number; op = o; reply = reply_of c.kind o c.key }) (sym op_is) in
    record {
      changes = more_in is_changing calls call is ∙ (ap (λ (ns : List NumberedAnswer). ns ++ answer_of call ∷ []) has.changes
          ∙ (ap (λ (a : NumberedAnswer). map answer_in v.changes ++ a ∷ []) same
          ∙ (sym (map-append answer_in v.changes (one ∷ [])) ∙ ap (map answer_in) (sym (ap (λ (u : View). u.changes) view)))));
      answers = more_out is_staying calls call (ap not is) ∙ (has.answers ∙ sym (ap (λ (u : View). u.answers) view));
      seen = All-push (IsWithin w.seen) calls call (still_within v.seen w.seen calls (omega arith) has.seen) most;
      in_order = order_more calls v.seen call true is has.seen has.in_order (omega arith) (λ _. above);
    }

-- one answer more, that changes nothing
has_answer : (calls : List Call) (v w : View) (call : Call) → Has calls v → is_changing call ≡ false → AddsAs false call.op call.receipt.number call.receipt.reply v w
    → call.receipt.number ≤ w.seen → Has (calls ++ call ∷ []) w
has_answer calls v w call has is (view, least) most = record {
  changes = more_out is_changing calls call is ∙ (has.changes ∙ ap (map answer_in) (sym (ap (λ (u : View). u.changes) view)));
  answers = more_in is_staying calls call (ap not is) ∙ (ap (λ (ns : List NumberedAnswer). ns ++ answer_of call ∷ []) has.answers ∙ sym (ap (λ (u : View). u.answers) view));
  seen = All-push (IsWithin w.seen) calls call (still_within v.seen w.seen calls (omega arith) has.seen) most;
  in_order = order_more calls v.seen call false is has.seen has.in_order least (λ changed. absurd (cc));
}

-- one call more
pub has_done : (calls : List Call) (v w : View) (call : Call) → Has calls v → Adds call.op call.receipt.number call.receipt.reply v w → Has (calls ++ call ∷ []) w
has_done calls v w call has adds = elim (cases_Bool (is_change call.receipt.reply)) [
  | inl is ↦ has_change calls v w call has is (subst (λ (b : Bool). AddsAs b call.op call.receipt.number call.receipt.reply v w) is adds.added) adds.seen
  | inr is ↦ has_answer calls v w call has is (subst (λ (b : Bool). AddsAs b call.op call.receipt.number call.receipt.reply v w) is adds.added) adds.seen
]

-- ---- two views, of callers that differ

order_apart : (xs ys : List Call) → AllPairs KeepsOrder xs → AllPairs KeepsOrder ys → AreApart xs ys → AllPairs KeepsOrder (xs ++ ys)
order_apart xs ys first second apart i j d less inside =
    let long = length-append xs ys in
    elim (cases_lt j (length xs)) [
      | inl low ↦ rw (get_or_append_left xs ys d i (omega arith), get_or_append_left xs ys d j low) (first i j d less low)
      | inr high ↦ elim (cases_lt i (length xs)) [
        | inl low ↦ rw (get_or_append_left xs ys d i low, get_or-append_right xs ys (length xs) j d refl high)
            (λ same. absurd (apart i d low (j - length xs) d (omega arith) same))
        | inr also ↦ rw (get_or-append_right xs ys (length xs) i d refl also, get_or-append_right xs ys (length xs) j d refl high)
            (second (i - length xs) (j - length xs) d (omega arith) (omega arith))
      ]
    ]

-- what a filter takes of two lists
both_in : (p : Call → Bool) (xs ys : List Call) → map answer_of (filter p (xs ++ ys)) ≡ map answer_of (filter p xs) ++ map answer_of (filter p ys)
both_in p xs ys = ap (map answer_of) (filter-append p xs ys) ∙ map-append answer_of (filter p xs) (filter p ys)

-- a view took over another one
pub has_join : (xs ys : List Call) (v w : View) → Has xs v → Has ys w → AreApart xs ys → Has (xs ++ ys) (with_joined v w)
has_join xs ys v w mine its apart = record {
  changes = both_in is_changing xs ys ∙ (ap (λ (ns : List NumberedAnswer). ns ++ map answer_of (filter is_changing ys)) mine.changes
      ∙ (ap (λ (ns : List NumberedAnswer). map answer_in v.changes ++ ns) its.changes ∙ sym (map-append answer_in v.changes w.changes)));
  answers = both_in is_staying xs ys ∙ (ap (λ (ns : List NumberedAnswer). ns ++ map answer_of (filter is_staying ys)) mine.answers
      ∙ ap (λ (ns : List NumberedAnswer). v.answers ++ ns) its.answers);
  seen = All-append (IsWithin (max v.seen w.seen)) xs ys (still_within v.seen (max v.seen w.seen) xs (omega arith) mine.seen)
      (still_within w.seen (max v.seen w.seen) ys (omega arith) its.seen);
  in_order = order_apart xs ys mine.in_order its.in_order apart;
}
