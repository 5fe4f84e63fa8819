-- The calls of a pass that nobody's death cut, as its seats have noted them, and what the pass keeps besides from call to call (own).
use Rattle.std.specs.Prelude.{ℕ, ◌≡◌, ◌≢◌, ◌≤◌, Bool, false, not, All, AllPairs, Contains, List, [], ◌∷◌, ◌++◌, filter, map, slice_get, Some}
use Rattle.cm_plain.specs.declared.reply.Reply.TheVariants as reply
use Rattle.cm_plain.specs.Steps.{reply_of}
use Rattle.cm_plain.specs.History.{Call, KeepsOrder, is_changing}
use Rattle.cm_lock.specs.declared.view.NumberedAnswer.{NumberedAnswer}
use Rattle.cm_lock.specs.declared.view.NumberedChange.{NumberedChange}
use Rattle.cm_lock.specs.declared.view.View.{View}
use Rattle.cm_yard.specs.declared.view.View.{View as YardView}
use Rattle.cm_yard.specs.Claims.{HasFoundAll}
use Rattle.cm_store.specs.declared.pass.Pass.{Pass}
use Rattle.cm_store.specs.Balance.{Balances, OwesAtMost}
use Rattle.cm_store.specs.Passes.{claims_view, number_of, views_of}
use Rattle.cm_laws.specs.StopLaws.{AreLeft}

-- ---- one segment

-- what a call was answered, as its receipt tells it, and as a change does
abbrev pub answer_of : Call → NumberedAnswer
answer_of call = record { number = call.receipt.number; op = call.op; reply = call.receipt.reply }

abbrev pub answer_in : NumberedChange → NumberedAnswer
answer_in c = record { number = c.number; op = c.change.op; reply = reply_of c.change.kind c.change.op c.change.key }

-- whether a call left the segment as it was
abbrev pub is_staying : Call → Bool
is_staying call = not (is_changing call)

-- these calls are all that a seat has noted: those that change the segment are its changes, and the others its answers, each once and in order.
-- None has a number above the greatest that the seat has seen
pub record Has (calls : List Call) (v : View) : Type 0 where
  pub changes : map answer_of (filter is_changing calls) ≡ map answer_in v.changes
  pub answers : map answer_of (filter is_staying calls) ≡ v.answers
  pub seen : All (λ call. call.receipt.number ≤ v.seen) calls
  pub in_order : AllPairs KeepsOrder calls

-- ---- all segments

-- so it is of each segment
abbrev pub HasAll : (ℕ → List Call) → List View → Type 0
HasAll calls seats = (segment : ℕ) (v : View) → slice_get seats segment ≡ Some v → Has (calls segment) v

-- where one was answered FullSpent, each claim word was found owned
abbrev pub FindsSpent : ℕ → (ℕ → List Call) → YardView → Type 0
FindsSpent extra calls claims = (segment : ℕ) (call : Call) → Contains (calls segment) call → call.receipt.reply ≡ reply.FullSpent → HasFoundAll extra claims

-- the calls are all that the seats have noted, and nothing is owed for them: each claim was paid by a change, and no stop word was raised
pub record KeepsCalls (extra : ℕ) (calls : ℕ → List Call) (seats : List View) (claims : YardView) : Type 0 where
  pub has : HasAll calls seats
  pub spent : FindsSpent extra calls claims
  pub balance : Balances seats claims
  pub owes : OwesAtMost 0 seats claims
  pub stops : AreLeft false seats claims

-- there is one call more in a segment, and none elsewhere
pub record AddsCall (segment : ℕ) (call : Call) (old now : ℕ → List Call) : Type 0 where
  pub here : now segment ≡ old segment ++ call ∷ []
  pub others : (other : ℕ) → other ≢ segment → now other ≡ old other

-- ---- a pass

-- a seat of this number, which took over nothing
pub record IsSeatOf (number : ℕ) (v : View) : Type 0 where
  pub number_is : v.own.number ≡ number
  pub inherited : v.inherited ≡ []

-- a pass, of whose number all its seats are, made these calls
pub record KeepsPass {F : Type 0} (extra : ℕ) (calls : ℕ → List Call) (pass : Pass F) : Type 0 where
  pub kept : KeepsCalls extra calls (views_of pass) (claims_view pass)
  pub seats : All (IsSeatOf (number_of pass)) (views_of pass)
  pub claims : (claims_view pass).number ≡ number_of pass
