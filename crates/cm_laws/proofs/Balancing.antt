-- The balance of claims and link changes, kept by splits, joins and calls.
use Rattle.std.proofs.Common.{◌≡◌, ◌≢◌, ℕ, ◌+◌, ◌<◌, ◌≤◌, ◌==◌, Bool, true, false, List, ◌∷◌, ◌++◌, length, get_or, set, slice_get, Option, Some, None, Ok, Err, inl, inr, refl, sym, ap, ◌∙◌, subst, arith, count_by}
use Rattle.std.specs.declared.result.Result.{Result}
use Rattle.std.specs.List.{zip}
use Rattle.std.proofs.lemmas.Bool.{cases_eq}
use Rattle.std.proofs.lemmas.List.{get_or-set_other, get_or-set_same, length-set}
use Rattle.std.proofs.lemmas.List.Sums.{sum_by-append, sum_by-cons}
use Rattle.std.proofs.lemmas.Option.{get_or_from_slice_get, slice_get_read, slice_get_within}
use Rattle.cm_plain.specs.declared.op.Op.{Op}
use Rattle.cm_plain.specs.declared.reply.Reply.{Reply}
use Rattle.cm_plain.specs.declared.stop.NoMemory.{NoMemory}
use Rattle.cm_lock.specs.declared.take.Stop.{Stop}
use Rattle.cm_lock.specs.declared.take.Stop.TheVariants.{Busy, Died}
use Rattle.cm_lock.specs.declared.view.ChangeCopy.{ChangeCopy}
use Rattle.cm_lock.specs.declared.view.HeldLevel.{HeldLevel}
use Rattle.cm_lock.specs.declared.view.Level.{Level}
use Rattle.cm_lock.specs.declared.view.NumberedChange.{NumberedChange}
use Rattle.cm_lock.specs.declared.view.View.{View}
use Rattle.cm_lock.specs.Views.{new_view, with_joined, with_seat}
use Rattle.cm_yard.specs.declared.view.OwnedWord.{OwnedWord}
use Rattle.cm_yard.specs.declared.view.View.{View as YardView}
use Rattle.cm_yard.specs.Claims.{claims_for}
use Rattle.cm_yard.specs.Views.{new_view as yard_new_view, with_joined as yard_with_joined, with_seat as yard_with_seat}
use Rattle.cm_turn.specs.declared.list_call.Listing.{Listing}
use Rattle.cm_turn.specs.declared.turn.Settled.{Settled}
use Rattle.cm_store.specs.Balance.{Balances, linking_in, plan_links}
use Rattle.cm_turn.specs.Calls.{AnswersPlainly, DiesReading, Fails, Leaves, LeavesReading}
use Rattle.cm_turn.specs.SeatLists.{LeavesListing}
use Rattle.cm_turn.specs.Records.{AddsAs, AddsNothing, Dies, Holds, IsIdle}
use Rattle.cm_store.specs.Splits.{joined_views, new_views, with_seats}
use Rattle.cm_turn.specs.Turns.{Owes, links_in}
use Rattle.cm_store.proofs.Elements.{mapped_at, zipped_left}
use Rattle.cm_laws.proofs.Linking.{one_if}
use Rattle.cm_words.specs.declared.fuse.Dead.{Dead}
use Rattle.cm_lock.specs.declared.view.Level.TheVariants.{Update}
use Rattle.cm_turn.specs.SeatSweeps.{Opens, Releases}

-- ---- splits and joins

pub splits_balance : (number : ℕ) (roots : List View) (claims : YardView) → Balances roots claims
    → Balances (with_seats number roots) (yard_with_seat claims number) × Balances (new_views number roots) (yard_new_view number)
splits_balance number roots claims balances = (
  (λ s w there. let m = mapped_at (λ (v : View). with_seat v number) roots s w there in
      subst (λ (v : View). links_in v + linking_in v ≤ claims_for s claims) (sym m.is) (balances s m.from m.there)),
  (λ s w there. let m = mapped_at (λ (v : View). new_view number v.seen) roots s w there in
      subst (λ (v : View). links_in v + linking_in v ≤ claims_for s (yard_new_view number)) (sym m.is) (omega arith)),
)

pub joined_links : (v w : View) → links_in (with_joined v w) ≡ links_in v + links_in w
joined_links v w = sum_by-append (λ (c : NumberedChange). one_if c.change.link) v.changes w.changes

joined_linking : (v w : View) → linking_in (with_joined v w) ≡ linking_in v + linking_in w
joined_linking v w =
    let f = λ (h : HeldLevel). one_if (plan_links h.plan) in
    let a = sum_by-cons f v.own (w.own ∷ (w.inherited ++ v.inherited)) in
    let b = sum_by-cons f w.own (w.inherited ++ v.inherited) in
    let c = sum_by-append f w.inherited v.inherited in
    let d = sum_by-cons f v.own v.inherited in
    let e = sum_by-cons f w.own w.inherited in
    omega arith

joined_claims : (s : ℕ) (y z : YardView) → claims_for s (yard_with_joined y z) ≡ claims_for s y + claims_for s z
joined_claims s y z = sum_by-append (λ (o : OwnedWord). one_if (o.segment == s)) y.claims z.claims

pub joins_balance : (roots others : List View) (claims taken : YardView) → Balances roots claims → Balances others taken
    → Balances (joined_views roots others) (yard_with_joined claims taken)
joins_balance roots others claims taken balances its s w there =
    let m = mapped_at (λ (p : View × View). with_joined p.0 p.1) (zip roots others) s w there in
    let z = zipped_left roots others s m.from m.there in
    let mine = balances s m.from.0 z.0 in
    let other = its s m.from.1 z.1 in
    let l = joined_links m.from.0 m.from.1 in
    let k = joined_linking m.from.0 m.from.1 in
    let c = joined_claims s claims taken in
    subst (λ (v : View). links_in v + linking_in v ≤ claims_for s (yard_with_joined claims taken)) (sym m.is) (omega arith)

-- ---- calls

pub added_inherited : (b : Bool) (op : Op) (number : ℕ) (reply : Reply) (old now : View) → AddsAs b op number reply old now → now.inherited ≡ old.inherited
added_inherited true op number reply old now a = ap (λ (v : View). v.inherited) a.1
added_inherited false op number reply old now a = ap (λ (v : View). v.inherited) a.0

pub died_inherited : (op : Op) (old now : View) → Dies op old now → now.inherited ≡ old.inherited
died_inherited op old now (Dies.before adds idle) = ap (λ (v : View). v.inherited) adds.view
died_inherited op old now (Dies.within c view seen plan is level) = ap (λ (v : View). v.inherited) view
died_inherited op old now (Dies.behind number reply adds idle change) = added_inherited _ op number reply old now adds.added

-- what a plan of the seat's own level, and those that it took over, link
linking_parts : (v : View) → linking_in v ≡ one_if (plan_links v.own.plan) + count_by (λ (h : HeldLevel). plan_links h.plan) v.inherited
linking_parts v = sum_by-cons (λ (h : HeldLevel). one_if (plan_links h.plan)) v.own v.inherited

linking_idle : (old now : View) → now.own.plan ≡ None → now.inherited ≡ old.inherited → linking_in now ≤ linking_in old
linking_idle old now idle same =
    let a = linking_parts old in let b = linking_parts now in
    let none : one_if (plan_links now.own.plan) ≡ 0 = ap (λ (p : Option ChangeCopy). one_if (plan_links p)) idle in
    let rest = ap (count_by (λ (h : HeldLevel). plan_links h.plan)) same in
    omega arith

owed : (segment : ℕ) (old now : View) (before later : YardView) → Owes segment old now before later → links_in now + one_if (plan_links now.own.plan) + claims_for segment before ≤ links_in old + claims_for segment later
owed segment old now before later owes = by_plan now.own.plan refl
  where
    by_plan : (p : Option ChangeCopy) → now.own.plan ≡ p → links_in now + one_if (plan_links now.own.plan) + claims_for segment before ≤ links_in old + claims_for segment later
    by_plan None is = let z : one_if (plan_links now.own.plan) ≡ 0 = ap (λ (q : Option ChangeCopy). one_if (plan_links q)) is in let p = owes.paid in omega arith
    by_plan (Some c) is = by_link c.link refl
      where
        by_link : (b : Bool) → c.link ≡ b → links_in now + one_if (plan_links now.own.plan) + claims_for segment before ≤ links_in old + claims_for segment later
        by_link true link =
            let z : one_if (plan_links now.own.plan) ≡ 1 = ap (λ (q : Option ChangeCopy). one_if (plan_links q)) is ∙ ap one_if link in
            let p = owes.plan c is link in omega arith
        by_link false link =
            let z : one_if (plan_links now.own.plan) ≡ 0 = ap (λ (q : Option ChangeCopy). one_if (plan_links q)) is ∙ ap one_if link in
            let p = owes.paid in omega arith

-- how a call leaves a live seat: between two changes
abbrev pub IsUnplanned : (View → Type 0) → Type 0
IsUnplanned End = (v : View) → End v → v.own.plan ≡ None

pub idle_unplanned : IsUnplanned IsIdle
idle_unplanned v idle = ap (λ (h : HeldLevel). h.plan) idle.free

pub holds_unplanned : (level : Level) → IsUnplanned (Holds level)
holds_unplanned level v holds = holds.idle

call_balance : (End : View → Type 0) (Refused : ℕ → ℕ → View → Type 0) (extra segment : ℕ) (op : Op) (out : List ℕ) (was now : View) (before later : YardView) (result : Result Settled Stop)
    → IsUnplanned End → Leaves End Refused segment extra op out was now before later result → links_in was + linking_in was ≤ claims_for segment before
    → links_in now + linking_in now ≤ claims_for segment later
call_balance End Refused extra segment op out was now before later (Ok settled) unplanned leaves paid =
    let k = linking_idle was now (unplanned now leaves.ends) (added_inherited _ op settled.number _ was now leaves.adds.added) in
    let p = leaves.pays.paid in omega arith
call_balance End Refused extra segment op out was now before later (Err (Busy looks last)) unplanned leaves paid =
    let k = linking_idle was now (unplanned now leaves.0.ends) (ap (λ (v : View). v.inherited) leaves.0.adds.view) in
    let l = ap (λ (v : View). links_in v) leaves.0.adds.view in
    let c = ap (claims_for segment) leaves.0.claims in omega arith
call_balance End Refused extra segment op out was now before later (Err Died) unplanned leaves paid =
    let o = owed segment was now before later leaves.owes in
    let a = linking_parts was in let b = linking_parts now in
    let rest = ap (count_by (λ (h : HeldLevel). plan_links h.plan)) (died_inherited op was now leaves.dies) in omega arith

pub claims_elsewhere : (End : View → Type 0) (Refused : ℕ → ℕ → View → Type 0) (extra segment : ℕ) (op : Op) (out : List ℕ) (was now : View) (before later : YardView) (result : Result Settled Stop)
    → Leaves End Refused segment extra op out was now before later result → (other : ℕ) → other ≢ segment → claims_for other later ≡ claims_for other before
claims_elsewhere End Refused extra segment op out was now before later (Ok settled) leaves other ne = leaves.pays.alone.others other ne
claims_elsewhere End Refused extra segment op out was now before later (Err (Busy looks last)) leaves other ne = ap (claims_for other) leaves.0.claims
claims_elsewhere End Refused extra segment op out was now before later (Err Died) leaves other ne = leaves.owes.alone.others other ne

-- one seat is another one, and the claims of other segments are the same
set_balance : (segment : ℕ) (seats : List View) (was now : View) (before later : YardView) → slice_get seats segment ≡ Some was
    → links_in now + linking_in now ≤ claims_for segment later → ((other : ℕ) → other ≢ segment → claims_for other later ≡ claims_for other before)
    → Balances seats before → Balances (set seats segment now) later
set_balance segment seats was now before later here paid others balances s w there =
    let inside = slice_get_within seats segment was here in
    let within : s < length seats = subst (λ (n : ℕ). s < n) (length-set seats segment now) (slice_get_within (set seats segment now) s w there) in
    let read = get_or_from_slice_get (set seats segment now) s w w there in
    elim (cases_eq s segment) [
      | inl same ↦ (
          let is : w ≡ now = sym read ∙ (ap (λ (j : ℕ). get_or (set seats segment now) j w) same ∙ get_or-set_same seats segment now w inside) in
          subst (λ (v : View). links_in v + linking_in v ≤ claims_for s later) (sym is)
          (subst (λ (j : ℕ). links_in now + linking_in now ≤ claims_for j later) (sym same) paid))
      | inr ne ↦ (
          let old : slice_get seats s ≡ Some w = slice_get_read seats (length seats) s w refl within (sym (sym (get_or-set_other seats segment s now w ne) ∙ read)) in
          let c = others s ne in
          let b = balances s w old in omega arith)
    ]

pub calls_balance : (End : View → Type 0) (Refused : ℕ → ℕ → View → Type 0) (extra segment : ℕ) (op : Op) (out : List ℕ) (seats : List View) (was now : View) (before later : YardView) (result : Result Settled Stop)
    → IsUnplanned End → slice_get seats segment ≡ Some was → Leaves End Refused segment extra op out was now before later result
    → Balances seats before → Balances (set seats segment now) later
calls_balance End Refused extra segment op out seats was now before later result unplanned here leaves balances =
    set_balance segment seats was now before later here (call_balance End Refused extra segment op out was now before later result unplanned leaves (balances segment was here))
    (claims_elsewhere End Refused extra segment op out was now before later result leaves) balances

-- a call that added nothing and claimed nothing
pub alone_balance : (End : View → Type 0) (segment : ℕ) (seats : List View) (was now : View) (before later : YardView) → IsUnplanned End → slice_get seats segment ≡ Some was
    → Fails End was now before later → Balances seats before → Balances (set seats segment now) later
alone_balance End segment seats was now before later unplanned here fails balances =
    let k = linking_idle was now (unplanned now fails.ends) (ap (λ (v : View). v.inherited) fails.adds.view) in
    let l = ap (λ (v : View). links_in v) fails.adds.view in
    let c = ap (claims_for segment) fails.claims in
    let b = balances segment was here in
    set_balance segment seats was now before later here (omega arith) (λ other ne. ap (claims_for other) fails.claims) balances

-- ---- questions and listings

changes_stay : (b : Bool) (op : Op) (number : ℕ) (reply : Reply) (old now : View) → b ≡ false → AddsAs b op number reply old now → now.changes ≡ old.changes
changes_stay true op number reply old now is a = absurd (cc is)
changes_stay false op number reply old now is a = ap (λ (v : View). v.changes) a.0

-- no link change was added, and no plan is under way
abbrev LinksNoMore : View → View → Type 0
LinksNoMore was now = (links_in now ≡ links_in was) × (linking_in now ≤ linking_in was)

plainly_balance : (op : Op) (number : ℕ) (reply : Reply) (was now : View) → AnswersPlainly op number reply was now → LinksNoMore was now
plainly_balance op number reply was now answers = (
  ap (count_by (λ (c : NumberedChange). c.change.link)) (changes_stay _ op number reply was now answers.stays answers.adds.added),
  linking_idle was now (ap (λ (h : HeldLevel). h.plan) answers.ends.free) (added_inherited _ op number reply was now answers.adds.added),
)

unanswered_balance : (was now : View) → AddsNothing was now → IsIdle now → LinksNoMore was now
unanswered_balance was now adds idle = (
  ap (λ (v : View). links_in v) adds.view,
  linking_idle was now (ap (λ (h : HeldLevel). h.plan) idle.free) (ap (λ (v : View). v.inherited) adds.view),
)

died_balance : (op : Op) (was now : View) → DiesReading op was now → LinksNoMore was now
died_balance op was now died = (
  ap (count_by (λ (c : NumberedChange). c.change.link)) died.changes,
  linking_idle was now died.idle (died_inherited op was now died.dies),
)

question_balance : (tries : ℕ) (op : Op) (out : List ℕ) (was now : View) (result : Result Settled Stop) → LeavesReading tries op out was now result → LinksNoMore was now
question_balance tries op out was now (Ok settled) leaves = plainly_balance op settled.number _ was now leaves
question_balance tries op out was now (Err (Busy looks last)) leaves = unanswered_balance was now leaves.0 leaves.1
question_balance tries op out was now (Err Died) leaves = died_balance op was now leaves

listing_balance : (tries segment : ℕ) (was now : View) (result : Result (Result Listing NoMemory) Stop) → LeavesListing tries segment was now result → LinksNoMore was now
listing_balance tries segment was now (Ok (Ok listing)) leaves = plainly_balance _ listing.number _ was now leaves
listing_balance tries segment was now (Ok (Err missing)) leaves = unanswered_balance was now leaves.adds leaves.ends
listing_balance tries segment was now (Err (Busy looks last)) leaves = unanswered_balance was now leaves.0.adds leaves.0.ends
listing_balance tries segment was now (Err Died) leaves = died_balance _ was now leaves

same_claims_balance : (segment : ℕ) (seats : List View) (was now : View) (claims : YardView) → slice_get seats segment ≡ Some was → LinksNoMore was now
    → Balances seats claims → Balances (set seats segment now) claims
same_claims_balance segment seats was now claims here (links, linking) balances =
    let b = balances segment was here in
    set_balance segment seats was now claims claims here (omega arith) (λ other ne. refl) balances

pub questions_balance : (tries segment : ℕ) (op : Op) (out : List ℕ) (seats : List View) (was now : View) (claims : YardView) (result : Result Settled Stop)
    → slice_get seats segment ≡ Some was → LeavesReading tries op out was now result → Balances seats claims → Balances (set seats segment now) claims
questions_balance tries segment op out seats was now claims result here leaves balances =
    same_claims_balance segment seats was now claims here (question_balance tries op out was now result leaves) balances

pub lists_balance : (tries segment : ℕ) (seats : List View) (was now : View) (claims : YardView) (result : Result (Result Listing NoMemory) Stop)
    → slice_get seats segment ≡ Some was → LeavesListing tries segment was now result → Balances seats claims → Balances (set seats segment now) claims
lists_balance tries segment seats was now claims result here leaves balances =
    same_claims_balance segment seats was now claims here (listing_balance tries segment was now result leaves) balances

-- ---- sweeps

pub opening_balance : (tries segment : ℕ) (seats : List View) (was now : View) (before later : YardView) (result : Result (Unit {0}) Stop) → slice_get seats segment ≡ Some was
    → Opens tries was now before later result → Balances seats before → Balances (set seats segment now) later
opening_balance tries segment seats was now before later (Ok done) here opens balances =
    alone_balance (Holds Update) segment seats was now before later (holds_unplanned Update) here opens balances
opening_balance tries segment seats was now before later (Err (Busy looks last)) here opens balances =
    alone_balance IsIdle segment seats was now before later idle_unplanned here opens.0 balances
opening_balance tries segment seats was now before later (Err Died) here opens balances =
    alone_balance IsIdle segment seats was now before later idle_unplanned here opens balances

pub closing_balance : (segment : ℕ) (seats : List View) (was now : View) (before later : YardView) (result : Result (Unit {0}) Dead) → slice_get seats segment ≡ Some was
    → Releases was now before later result → Balances seats before → Balances (set seats segment now) later
closing_balance segment seats was now before later (Ok done) here releases balances =
    alone_balance IsIdle segment seats was now before later idle_unplanned here releases balances
closing_balance segment seats was now before later (Err error) here releases balances =
    alone_balance (Holds Update) segment seats was now before later (holds_unplanned Update) here releases balances
