-- What a pass keeps from call to call: its seats have noted all its calls, and nothing is owed for them.
use Rattle.std.proofs.Common.{◌≡◌, ◌≢◌, ◌⊎◌, ℕ, ◌+◌, ◌-◌, ◌<◌, ◌≤◌, Bool, true, false, List, [], ◌∷◌, ◌++◌, length, get_or, set, slice_get, All, Contains, Some, Ok, Err, inl, inr, refl, sym, ap, ◌∙◌, subst, arith}
use Rattle.std.proofs.lemmas.Bool.{cases_eq, cases_lt}
use Rattle.std.proofs.lemmas.List.{get_or_append_left, get_or-append_right, get_or-set_other, get_or-set_same, length-append, length-set}
use Rattle.std.proofs.lemmas.List.Elements.{All-map, All-set}
use Rattle.std.proofs.lemmas.Option.{get_or_from_slice_get, slice_get_read, slice_get_within}
use Rattle.cm_plain.specs.declared.op.Op.{Op}
use Rattle.cm_plain.specs.declared.op.Op.TheVariants.{List as ListAll, Sweep}
use Rattle.cm_plain.specs.declared.reply.Reply.{Reply}
use Rattle.cm_plain.specs.declared.reply.Reply.TheVariants.{FullSpent, Pairs}
use Rattle.cm_plain.specs.History.{Call}
use Rattle.cm_plain.specs.Limits.{segment_of}
use Rattle.cm_plain.specs.Steps.{is_change}
use Rattle.cm_words.specs.Fuses.{FuseSeen}
use Rattle.cm_lock.specs.declared.take.Stop.TheVariants.{Busy}
use Rattle.cm_lock.specs.declared.view.Level.TheVariants.{Update, Write}
use Rattle.cm_lock.specs.declared.view.View.{View}
use Rattle.cm_lock.specs.Views.{new_view}
use Rattle.cm_yard.specs.declared.view.View.{View as YardView}
use Rattle.cm_yard.specs.Claims.{HasFoundAll, claims_for}
use Rattle.cm_yard.specs.Views.{new_view as yard_new_view, with_stop}
use Rattle.cm_turn.specs.declared.answer.Done.{Done}
use Rattle.cm_turn.specs.declared.list_call.Listing.{Listing}
use Rattle.cm_turn.specs.declared.turn.Settled.{Settled}
use Rattle.cm_turn.specs.Answers.{reply_in}
use Rattle.cm_turn.specs.Calls.{AnswersPlainly, Fails, IsRefused, Leaves}
use Rattle.cm_turn.specs.Records.{Adds, AddsAs, Holds, IsIdle}
use Rattle.cm_turn.specs.Turns.{links_in}
use Rattle.cm_store.specs.declared.list.ListStop.TheVariants.{Busy as ListBusy}
use Rattle.cm_store.specs.declared.list.Listed.{Listed}
use Rattle.cm_store.specs.declared.pass.Pass.{Pass}
use Rattle.cm_store.specs.declared.store.Store.{Store}
use Rattle.cm_store.specs.Balance.{Balances, OwesAtMost, linking_in}
use Rattle.cm_store.specs.Lists.{CalledList}
use Rattle.cm_store.specs.Passes.{ActsAt, Called, claims_view, number_of, views, views_of}
use Rattle.cm_store.specs.Splits.{new_views}
use Rattle.cm_store.specs.Stops.{SameButClaims}
use Rattle.cm_store.specs.Sweeps.{ClosedSweep, IsInSweep, OpenedSweep, SteppedSweep}
use Rattle.cm_store.proofs.Elements.{mapped_at}
use Rattle.cm_laws.specs.StopLaws.{AreLeft}
use Rattle.cm_laws.proofs.Balancing.{IsUnplanned, added_inherited, alone_balance, calls_balance, holds_unplanned, idle_unplanned, lists_balance}
use Rattle.cm_laws.proofs.Owing.{calls_found, calls_owing, spent_found, unclaimed_owing}
use Rattle.cm_laws.proofs.StopLevels.{calls_left, looks_left, unclaimed_left}
use Rattle.cm_history.specs.Kept.{AddsCall, FindsSpent, Has, HasAll, IsSeatOf, KeepsCalls, KeepsPass}
use Rattle.cm_history.proofs.Recording.{has_done, has_none, has_same}

-- ---- seats and calls, by their segment

all_at : (P : View → Type 0) (vs : List View) → All P vs → (i : ℕ) (v : View) → slice_get vs i ≡ Some v → P v
all_at P vs all i v there = subst P (get_or_from_slice_get vs i v v there) (all i v (slice_get_within vs i v there))

-- one seat is another one, and the calls of other segments are the same
set_has : (segment : ℕ) (calls later : ℕ → List Call) (seats : List View) (now : View) → Has (later segment) now
    → ((other : ℕ) → other ≢ segment → later other ≡ calls other) → HasAll calls seats → HasAll later (set seats segment now)
set_has segment calls later seats now has others all s w there =
    let within : s < length seats = subst (λ (n : ℕ). s < n) (length-set seats segment now) (slice_get_within (set seats segment now) s w there) in
    let read = get_or_from_slice_get (set seats segment now) s w w there in
    elim (cases_eq s segment) [
      | inl same ↦ (
          let inside = subst (λ (j : ℕ). j < length seats) same within in
          let is : w ≡ now = sym read ∙ (ap (λ (j : ℕ). get_or (set seats segment now) j w) same ∙ get_or-set_same seats segment now w inside) in
          subst (λ (v : View). Has (later s) v) (sym is) (subst (λ (j : ℕ). Has (later j) now) (sym same) has))
      | inr ne ↦ (
          let old : slice_get seats s ≡ Some w = slice_get_read seats (length seats) s w refl within (sym (sym (get_or-set_other seats segment s now w ne) ∙ read)) in
          subst (λ (cs : List Call). Has cs w) (sym (others s ne)) (all s w old))
    ]

-- a call among others with one more is among them, or that one
in_more : (calls : List Call) (call c : Call) → Contains (calls ++ call ∷ []) c → Contains calls c ⊎ (call ≡ c)
in_more calls call c (k, inside, is) = elim (cases_lt k (length calls)) [
  | inl low ↦ inl (k, low, sym (get_or_append_left calls (call ∷ []) c k low) ∙ is)
  | inr high ↦ (
      let long = length-append calls (call ∷ []) in
      let first : k - length calls ≡ 0 = omega arith in
      inr (sym (get_or-append_right calls (call ∷ []) (length calls) k c refl high ∙ ap (λ (j : ℕ). get_or (call ∷ []) j c) first) ∙ is))
]

-- what was found for calls is found for one more
more_spent : (extra segment : ℕ) (calls later : ℕ → List Call) (call : Call) (before after : YardView) → AddsCall segment call calls later
    → (HasFoundAll extra before → HasFoundAll extra after) → (call.receipt.reply ≡ FullSpent → HasFoundAll extra after)
    → FindsSpent extra calls before → FindsSpent extra later after
more_spent extra segment calls later call before after adds still last spent s c inside is = elim (cases_eq s segment) [
  | inl same ↦ by_place (in_more (calls segment) call c (subst (λ (cs : List Call). Contains cs c) (ap later same ∙ adds.here) inside))
  | inr ne ↦ still (spent s c (subst (λ (cs : List Call). Contains cs c) (adds.others s ne) inside) is)
]
  where
    by_place : Contains (calls segment) c ⊎ (call ≡ c) → HasFoundAll extra after
    by_place (inl earlier) = still (spent segment c earlier is)
    by_place (inr last_one) = last (ap (λ (x : Call). x.receipt.reply) last_one ∙ is)

-- a call is of this operation, and was answered so, at this number
record IsCallOf (op : Op) (number : ℕ) (reply : Reply) (call : Call) : Type 0 where
  op_is : call.op ≡ op
  number_is : call.receipt.number ≡ number
  reply_is : call.receipt.reply ≡ reply

more_has : (segment : ℕ) (calls later : ℕ → List Call) (v w : View) (op : Op) (number : ℕ) (reply : Reply) (call : Call) → IsCallOf op number reply call
    → AddsCall segment call calls later → Adds op number reply v w → Has (calls segment) v → Has (later segment) w
more_has segment calls later v w op number reply call is more adds has = subst (λ (cs : List Call). Has cs w) (sym more.here) (has_done (calls segment) v w call has
    (subst (λ (o : Op). Adds o call.receipt.number call.receipt.reply v w) (sym is.op_is)
    (subst (λ (n : ℕ). Adds op n call.receipt.reply v w) (sym is.number_is)
    (subst (λ (r : Reply). Adds op number r v w) (sym is.reply_is) adds))))

-- ---- what is kept where one seat acts

-- a seat became another one, and the seat of the yard too, and then they have these calls
record KeepsAt (extra segment : ℕ) (later : ℕ → List Call) (seats : List View) (was now : View) (before after : YardView) : Type 0 where
  has : Has (later segment) now
  number : now.own.number ≡ was.own.number
  inherited : now.inherited ≡ was.inherited
  claims : after.number ≡ before.number
  spent : FindsSpent extra later after
  balance : Balances (set seats segment now) after
  owes : OwesAtMost 0 (set seats segment now) after
  stops : AreLeft false (set seats segment now) after

-- so the pass keeps them
keeps_acted : {F : Type 0} (Acts : View → View → YardView → YardView → Type 0) (extra segment : ℕ) (calls later : ℕ → List Call) (old now : Pass F) → KeepsPass extra calls old
    → number_of now ≡ number_of old → ((other : ℕ) → other ≢ segment → later other ≡ calls other) → (a : ActsAt Acts segment old now)
    → KeepsAt extra segment later (views_of old) a.was a.then (claims_view old) (claims_view now) → KeepsPass extra later now
keeps_acted Acts extra segment calls later old now keeps same others a at =
    let seat_was = all_at (IsSeatOf (number_of old)) (views_of old) keeps.seats segment a.was a.here in
    let seat : IsSeatOf (number_of now) a.then = record {
      number_is = at.number ∙ (seat_was.number_is ∙ sym same);
      inherited = at.inherited ∙ seat_was.inherited;
    } in
    let kept : KeepsCalls extra later (set (views_of old) segment a.then) (claims_view now) = record {
      has = set_has segment calls later (views_of old) a.then at.has others keeps.kept.has;
      spent = at.spent;
      balance = at.balance;
      owes = at.owes;
      stops = at.stops;
    } in
    record {
      kept = subst (λ (vs : List View). KeepsCalls extra later vs (claims_view now)) (sym a.others) kept;
      seats = subst (λ (vs : List View). All (IsSeatOf (number_of now)) vs) (sym a.others)
          (All-set (IsSeatOf (number_of now)) (views_of old) segment a.then seat
          (subst (λ (n : ℕ). All (IsSeatOf n) (views_of old)) (sym same) keeps.seats));
      claims = at.claims ∙ (keeps.claims ∙ sym same);
    }

added_number : (b : Bool) (op : Op) (number : ℕ) (reply : Reply) (v w : View) → AddsAs b op number reply v w → w.own.number ≡ v.own.number
added_number true op number reply v w a = ap (λ (u : View). u.own.number) a.1
added_number false op number reply v w a = ap (λ (u : View). u.own.number) a.0

-- a call was answered
answered_at : (End : View → Type 0) (Refused : ℕ → ℕ → View → Type 0) (extra segment : ℕ) (op : Op) (out : List ℕ) (calls later : ℕ → List Call) (seats : List View)
    (was now : View) (before after : YardView) (settled : Settled) (call : Call) → IsUnplanned End → slice_get seats segment ≡ Some was
    → Leaves End Refused segment extra op out was now before after (Ok settled) → IsCallOf op settled.number (reply_in settled.answer out) call → AddsCall segment call calls later
    → KeepsCalls extra calls seats before → KeepsAt extra segment later seats was now before after
answered_at End Refused extra segment op out calls later seats was now before after settled call unplanned here leaves is more kept = record {
  has = more_has segment calls later was now op settled.number (reply_in settled.answer out) call is more leaves.adds (kept.has segment was here);
  number = added_number (is_change (reply_in settled.answer out)) op settled.number (reply_in settled.answer out) was now leaves.adds.added;
  inherited = added_inherited (is_change (reply_in settled.answer out)) op settled.number (reply_in settled.answer out) was now leaves.adds.added;
  claims = ap (λ (y : YardView). y.number) leaves.pays.alone.only;
  spent = more_spent extra segment calls later call before after more (calls_found End Refused extra segment op out was now before after (Ok settled) leaves)
      (λ full. spent_found End Refused extra segment op out was now before after settled leaves (sym is.reply_is ∙ full)) kept.spent;
  balance = calls_balance End Refused extra segment op out seats was now before after (Ok settled) unplanned here leaves kept.balance;
  owes = calls_owing End Refused 0 extra segment op out seats was now before after (Ok settled) here leaves kept.owes;
  stops = calls_left End Refused false extra segment op out seats was now before after (Ok settled) here leaves kept.stops;
}

-- nothing was added, and nothing claimed
failed_at : (End : View → Type 0) (extra segment : ℕ) (calls : ℕ → List Call) (seats : List View) (was now : View) (before after : YardView) → IsUnplanned End
    → slice_get seats segment ≡ Some was → Fails End was now before after → KeepsCalls extra calls seats before → KeepsAt extra segment calls seats was now before after
failed_at End extra segment calls seats was now before after unplanned here fails kept =
    let same_changes : now.changes ≡ was.changes = ap (λ (v : View). v.changes) fails.adds.view in
    let same_answers : now.answers ≡ was.answers = ap (λ (v : View). v.answers) fails.adds.view in
    let same_levels : now.inherited ≡ was.inherited = ap (λ (v : View). v.inherited) fails.adds.view in
    record {
      has = has_same (calls segment) was now same_changes same_answers fails.adds.seen (kept.has segment was here);
      number = ap (λ (v : View). v.own.number) fails.adds.view;
      inherited = same_levels;
      claims = ap (λ (y : YardView). y.number) fails.claims;
      spent = subst (λ (y : YardView). FindsSpent extra calls y) (sym fails.claims) kept.spent;
      balance = alone_balance End segment seats was now before after unplanned here fails kept.balance;
      owes = subst (λ (y : YardView). OwesAtMost 0 (set seats segment now) y) (sym fails.claims) (unclaimed_owing 0 segment seats was now before here same_changes kept.owes);
      stops = subst (λ (y : YardView). AreLeft false (set seats segment now) y) (sym fails.claims) (unclaimed_left false segment seats was now before here same_levels kept.stops);
    }

-- a listing was answered
listed_at : (tries extra segment : ℕ) (calls later : ℕ → List Call) (seats : List View) (was now : View) (before after : YardView) (listing : Listing) (call : Call)
    → slice_get seats segment ≡ Some was → AnswersPlainly (ListAll segment) listing.number (Pairs listing.pairs) was now → after ≡ before
    → IsCallOf (ListAll segment) listing.number (Pairs listing.pairs) call → AddsCall segment call calls later
    → KeepsCalls extra calls seats before → KeepsAt extra segment later seats was now before after
listed_at tries extra segment calls later seats was now before after listing call here answers same is more kept =
    let same_levels = added_inherited false (ListAll segment) listing.number (Pairs listing.pairs) was now answers.adds.added in
    record {
      has = more_has segment calls later was now (ListAll segment) listing.number (Pairs listing.pairs) call is more answers.adds (kept.has segment was here);
      number = added_number false (ListAll segment) listing.number (Pairs listing.pairs) was now answers.adds.added;
      inherited = same_levels;
      claims = ap (λ (y : YardView). y.number) same;
      spent = more_spent extra segment calls later call before after more (subst (λ (y : YardView). HasFoundAll extra y) (sym same))
          (λ full. absurd (answers.unspent (sym is.reply_is ∙ full))) kept.spent;
      balance = subst (λ (y : YardView). Balances (set seats segment now) y) (sym same)
          (lists_balance tries segment seats was now before (Ok (Ok listing)) here answers kept.balance);
      owes = subst (λ (y : YardView). OwesAtMost 0 (set seats segment now) y) (sym same) (unclaimed_owing 0 segment seats was now before here answers.changes kept.owes);
      stops = subst (λ (y : YardView). AreLeft false (set seats segment now) y) (sym same) (unclaimed_left false segment seats was now before here same_levels kept.stops);
    }

-- ---- calls of operations

pub keeps_called : {F : Type 0} (fused : F → FuseSeen) (store : Store) (Refused : ℕ → ℕ → View → Type 0) (op : Op) (out : List ℕ) (old now : Pass F) (done : Done) (call : Call)
    (calls later : ℕ → List Call) → KeepsPass store.geo.extra calls old → Called fused store Refused op out old now (Ok done) → call.op ≡ op
    → call.receipt.number ≡ done.spot.number → call.receipt.reply ≡ reply_in done.answer out → AddsCall (segment_of store.geo op) call calls later
    → KeepsPass store.geo.extra later now
keeps_called fused store Refused op out old now done call calls later keeps called op_is number_is reply_is more =
    keeps_acted _ store.geo.extra (segment_of store.geo op) calls later old now keeps called.number more.others called.calls
    (answered_at IsIdle Refused store.geo.extra (segment_of store.geo op) op out calls later (views_of old) called.calls.was called.calls.then (claims_view old) (claims_view now)
    (record { number = done.spot.number; answer = done.answer }) call idle_unplanned called.calls.here called.calls.acts
    (record { op_is = op_is; number_is = number_is; reply_is = reply_is }) more keeps.kept)

pub keeps_busy : {F : Type 0} (fused : F → FuseSeen) (store : Store) (Refused : ℕ → ℕ → View → Type 0) (op : Op) (out : List ℕ) (old now : Pass F) (looks last : ℕ)
    (calls : ℕ → List Call) → KeepsPass store.geo.extra calls old → Called fused store Refused op out old now (Err (Busy looks last)) → KeepsPass store.geo.extra calls now
keeps_busy fused store Refused op out old now looks last calls keeps called =
    keeps_acted _ store.geo.extra (segment_of store.geo op) calls calls old now keeps called.number (λ other ne. refl) called.calls
    (failed_at IsIdle store.geo.extra (segment_of store.geo op) calls (views_of old) called.calls.was called.calls.then (claims_view old) (claims_view now) idle_unplanned
    called.calls.here called.calls.acts.0 keeps.kept)

-- ---- listings

pub keeps_listed : {F : Type 0} (fused : F → FuseSeen) (store : Store) (tries segment : ℕ) (old now : Pass F) (listed : Listed) (call : Call) (calls later : ℕ → List Call)
    → KeepsPass store.geo.extra calls old → CalledList fused store tries segment old now (Ok listed) → call.op ≡ ListAll segment
    → call.receipt.number ≡ listed.spot.number → call.receipt.reply ≡ Pairs listed.pairs → AddsCall segment call calls later → KeepsPass store.geo.extra later now
keeps_listed fused store tries segment old now listed call calls later keeps called op_is number_is reply_is more =
    keeps_acted _ store.geo.extra segment calls later old now keeps called.number more.others called.lists
    (listed_at tries store.geo.extra segment calls later (views_of old) called.lists.was called.lists.then (claims_view old) (claims_view now)
    (record { number = listed.spot.number; pairs = listed.pairs }) call called.lists.here called.lists.acts.0 called.lists.acts.1
    (record { op_is = op_is; number_is = number_is; reply_is = reply_is }) more keeps.kept)

pub keeps_list_busy : {F : Type 0} (fused : F → FuseSeen) (store : Store) (tries segment : ℕ) (old now : Pass F) (looks last : ℕ) (calls : ℕ → List Call)
    → KeepsPass store.geo.extra calls old → CalledList fused store tries segment old now (Err (ListBusy looks last)) → KeepsPass store.geo.extra calls now
keeps_list_busy fused store tries segment old now looks last calls keeps called =
    keeps_acted _ store.geo.extra segment calls calls old now keeps called.number (λ other ne. refl) called.lists
    (failed_at IsIdle store.geo.extra segment calls (views_of old) called.lists.was called.lists.then (claims_view old) (claims_view now) idle_unplanned called.lists.here
    (record { adds = called.lists.acts.0.0.adds; ends = called.lists.acts.0.0.ends; claims = called.lists.acts.1 }) keeps.kept)

-- ---- sweeps

pub keeps_opened : {F : Type 0} (fused : F → FuseSeen) (store : Store) (tries segment : ℕ) (prefix : List ℕ) (old now : Pass F) (done : Unit {0}) (calls : ℕ → List Call)
    → KeepsPass store.geo.extra calls old → OpenedSweep fused store tries segment prefix old now (Ok done) → KeepsPass store.geo.extra calls now
keeps_opened fused store tries segment prefix old now done calls keeps opened =
    keeps_acted _ store.geo.extra segment calls calls old now keeps opened.number (λ other ne. refl) opened.opens
    (failed_at (Holds Update) store.geo.extra segment calls (views_of old) opened.opens.was opened.opens.then (claims_view old) (claims_view now) (holds_unplanned Update)
    opened.opens.here opened.opens.acts keeps.kept)

pub keeps_open_busy : {F : Type 0} (fused : F → FuseSeen) (store : Store) (tries segment : ℕ) (prefix : List ℕ) (old now : Pass F) (looks last : ℕ) (calls : ℕ → List Call)
    → KeepsPass store.geo.extra calls old → OpenedSweep fused store tries segment prefix old now (Err (Busy looks last)) → KeepsPass store.geo.extra calls now
keeps_open_busy fused store tries segment prefix old now looks last calls keeps opened =
    keeps_acted _ store.geo.extra segment calls calls old now keeps opened.number (λ other ne. refl) opened.opens
    (failed_at IsIdle store.geo.extra segment calls (views_of old) opened.opens.was opened.opens.then (claims_view old) (claims_view now) idle_unplanned
    opened.opens.here opened.opens.acts.0 keeps.kept)

pub keeps_stepped : {F : Type 0} (fused : F → FuseSeen) (store : Store) (tries : ℕ) (out : List ℕ) (old now : Pass F) (done : Done) (segment : ℕ) (prefix : List ℕ) (call : Call)
    (calls later : ℕ → List Call) → KeepsPass store.geo.extra calls old → IsInSweep store.geo segment prefix old → SteppedSweep fused store tries out old now (Ok done)
    → call.op ≡ Sweep segment prefix → call.receipt.number ≡ done.spot.number → call.receipt.reply ≡ reply_in done.answer out → AddsCall segment call calls later
    → KeepsPass store.geo.extra later now
keeps_stepped fused store tries out old now done segment prefix call calls later keeps within stepped op_is number_is reply_is more =
    let a = stepped.steps segment prefix within in
    keeps_acted _ store.geo.extra segment calls later old now keeps stepped.number more.others a
    (answered_at (Holds Update) (IsRefused Update Write tries) store.geo.extra segment (Sweep segment prefix) out calls later (views_of old) a.was a.then
    (claims_view old) (claims_view now) (record { number = done.spot.number; answer = done.answer }) call (holds_unplanned Update) a.here a.acts
    (record { op_is = op_is; number_is = number_is; reply_is = reply_is }) more keeps.kept)

pub keeps_step_busy : {F : Type 0} (fused : F → FuseSeen) (store : Store) (tries : ℕ) (out : List ℕ) (old now : Pass F) (looks last : ℕ) (segment : ℕ) (prefix : List ℕ)
    (calls : ℕ → List Call) → KeepsPass store.geo.extra calls old → IsInSweep store.geo segment prefix old
    → SteppedSweep fused store tries out old now (Err (Busy looks last)) → KeepsPass store.geo.extra calls now
keeps_step_busy fused store tries out old now looks last segment prefix calls keeps within stepped =
    let a = stepped.steps segment prefix within in
    keeps_acted _ store.geo.extra segment calls calls old now keeps stepped.number (λ other ne. refl) a
    (failed_at (Holds Update) store.geo.extra segment calls (views_of old) a.was a.then (claims_view old) (claims_view now) (holds_unplanned Update) a.here a.acts.0 keeps.kept)

pub keeps_closed : {F : Type 0} (fused : F → FuseSeen) (store : Store) (old now : Pass F) (done : Unit {0}) (segment : ℕ) (prefix : List ℕ) (calls : ℕ → List Call)
    → KeepsPass store.geo.extra calls old → IsInSweep store.geo segment prefix old → ClosedSweep fused store old now (Ok done) → KeepsPass store.geo.extra calls now
keeps_closed fused store old now done segment prefix calls keeps within closed =
    let a = closed.closes segment prefix within in
    keeps_acted _ store.geo.extra segment calls calls old now keeps closed.number (λ other ne. refl) a
    (failed_at IsIdle store.geo.extra segment calls (views_of old) a.was a.then (claims_view old) (claims_view now) idle_unplanned a.here a.acts keeps.kept)

-- ---- the same calls

-- a stop word was looked at
pub keeps_looked : {F : Type 0} (old now : Pass F) (extra segment found : ℕ) (calls : ℕ → List Call) → SameButClaims old now
    → claims_view now ≡ with_stop (claims_view old) segment found → KeepsPass extra calls old → KeepsPass extra calls now
keeps_looked old now extra segment found calls same is keeps =
    let seats : views_of now ≡ views_of old = ap (λ s. views s.items) same.seats in
    let kept : KeepsCalls extra calls (views_of old) (with_stop (claims_view old) segment found) = record {
      has = keeps.kept.has;
      spent = keeps.kept.spent;
      balance = keeps.kept.balance;
      owes = keeps.kept.owes;
      stops = looks_left false (views_of old) (claims_view old) segment found keeps.kept.stops;
    } in
    record {
      kept = subst (λ (vs : List View). KeepsCalls extra calls vs (claims_view now)) (sym seats)
          (subst (λ (y : YardView). KeepsCalls extra calls (views_of old) y) (sym is) kept);
      seats = subst (λ (vs : List View). All (IsSeatOf (number_of now)) vs) (sym seats) (subst (λ (n : ℕ). All (IsSeatOf n) (views_of old)) (sym same.number) keeps.seats);
      claims = ap (λ (y : YardView). y.number) is ∙ (keeps.claims ∙ sym same.number);
    }

-- lists that are equal in each segment
pub kept_same : (extra : ℕ) (calls later : ℕ → List Call) (seats : List View) (claims : YardView) → KeepsCalls extra calls seats claims
    → ((segment : ℕ) → later segment ≡ calls segment) → KeepsCalls extra later seats claims
kept_same extra calls later seats claims kept same = record {
  has = λ segment v there. subst (λ (cs : List Call). Has cs v) (sym (same segment)) (kept.has segment v there);
  spent = λ segment call inside. kept.spent segment call (subst (λ (cs : List Call). Contains cs call) (same segment) inside);
  balance = kept.balance;
  owes = kept.owes;
  stops = kept.stops;
}

pub pass_same : {F : Type 0} (extra : ℕ) (calls later : ℕ → List Call) (pass : Pass F) → KeepsPass extra calls pass → ((segment : ℕ) → later segment ≡ calls segment)
    → KeepsPass extra later pass
pass_same extra calls later pass keeps same = record {
  kept = kept_same extra calls later (views_of pass) (claims_view pass) keeps.kept same;
  seats = keeps.seats;
  claims = keeps.claims;
}

-- ---- a pass that is split off

new_kept : (extra number : ℕ) (roots : List View) → KeepsCalls extra (λ segment. []) (new_views number roots) (yard_new_view number)
new_kept extra number roots = record {
  has = λ segment w there. (let m = mapped_at (λ (v : View). new_view number v.seen) roots segment w there in
      subst (λ (v : View). Has [] v) (sym m.is) (has_none (new_view number m.from.seen) refl refl));
  spent = λ segment call inside is. (let less = inside.1 in absurd (omega arith));
  balance = λ segment w there. (let m = mapped_at (λ (v : View). new_view number v.seen) roots segment w there in
      subst (λ (v : View). links_in v + linking_in v ≤ claims_for segment (yard_new_view number)) (sym m.is) (omega arith));
  owes = omega arith;
  stops = λ k d below. absurd (omega arith);
}

pub keeps_new : {F : Type 0} (extra number : ℕ) (roots : List View) (pass : Pass F) → views_of pass ≡ new_views number roots → claims_view pass ≡ yard_new_view number
    → number_of pass ≡ number → KeepsPass extra (λ segment. []) pass
keeps_new extra number roots pass seats_are claims_are number_is = record {
  kept = subst (λ (vs : List View). KeepsCalls extra (λ segment. []) vs (claims_view pass)) (sym seats_are)
      (subst (λ (y : YardView). KeepsCalls extra (λ segment. []) (new_views number roots) y) (sym claims_are) (new_kept extra number roots));
  seats = subst (λ (vs : List View). All (IsSeatOf (number_of pass)) vs) (sym seats_are)
      (subst (λ (n : ℕ). All (IsSeatOf n) (new_views number roots)) (sym number_is)
      (All-map (IsSeatOf number) (λ (v : View). new_view number v.seen) roots (λ i d below. record { number_is = refl; inherited = refl })));
  claims = ap (λ (y : YardView). y.number) claims_are ∙ sym number_is;
}
