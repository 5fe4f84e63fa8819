-- What the laws take of a call, and of a raise.
use Rattle.std.proofs.Common.{◌≡◌, ◌≤◌, ℕ, List, Ok, Err, ap, arith}
use Rattle.std.specs.declared.result.Result.{Result}
use Rattle.cm_plain.specs.declared.op.Op.{Op}
use Rattle.cm_lock.specs.declared.take.Stop.{Stop}
use Rattle.cm_lock.specs.declared.take.Stop.TheVariants.{Busy, Died}
use Rattle.cm_lock.specs.declared.view.View.{View}
use Rattle.cm_yard.specs.declared.view.View.{View as YardView}
use Rattle.cm_turn.specs.declared.turn.Settled.{Settled}
use Rattle.cm_turn.specs.Calls.{Leaves}
use Rattle.cm_laws.specs.SpentLaws.{deaths_in}
use Rattle.cm_store.specs.Stops.{RaisesStop}

-- what a call left, whichever takes of it may have failed
pub leaves_any : (End : View → Type 0) (Refused : ℕ → ℕ → View → Type 0) (segment extra : ℕ) (op : Op) (out : List ℕ) (was now : View) (before later : YardView)
    (result : Result Settled Stop) → Leaves End Refused segment extra op out was now before later result
    → Leaves End (λ looks last v. Unit {0}) segment extra op out was now before later result
leaves_any End Refused segment extra op out was now before later (Ok settled) leaves = leaves
leaves_any End Refused segment extra op out was now before later (Err (Busy looks last)) (fails, refused) = (fails, tt)
leaves_any End Refused segment extra op out was now before later (Err Died) leaves = leaves

-- a call dies once at most
pub one_death : (result : Result Settled Stop) → deaths_in result ≤ 1
one_death (Ok settled) = omega arith
one_death (Err (Busy looks last)) = omega arith
one_death (Err Died) = omega arith

-- a raise claims nothing
pub raise_claims : (seats : List View) (old now : YardView) → RaisesStop seats old now → now.claims ≡ old.claims
raise_claims seats old now (RaisesStop.none free same) = ap (λ (y : YardView). y.claims) same
raise_claims seats old now (RaisesStop.held segment v there held is) = ap (λ (y : YardView). y.claims) is
