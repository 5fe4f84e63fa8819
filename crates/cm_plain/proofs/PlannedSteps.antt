-- A planned change is a step, where a number is left for it.
use Rattle.std.proofs.Common.{◌≡◌, ℕ, ◌<◌, ◌==◌, true, false, refl, sym, subst, arith, inl, inr}
use Rattle.std.proofs.lemmas.Bool.{cases_Bool}
use Rattle.std.proofs.lemmas.Bool.Decides.{nat_tests}
use Rattle.cm_geo.specs.declared.geo.Geo.{Geo}
use Rattle.cm_plain.specs.declared.op.Op.{Op}
use Rattle.cm_plain.specs.States.{State}
use Rattle.cm_plain.specs.Rooms.{is_new_tier}
use Rattle.cm_plain.specs.Changes.{Change, after}
use Rattle.cm_plain.specs.Steps.{Decision, Plans, Step, StepAs, changes_state, decision, last_number, reply_of, room_wanted}

-- with the grant of a further tier the change is made, whether its room is in a new tier or not
decision_is : (geo : Geo) (segment : ℕ) (state : State) (number : ℕ) (op : Op) (change : Change) → Plans geo segment state op change → number < last_number → decision geo state number true op ≡ changes_state
decision_is geo segment state number op change plans few =
    let counts : (number == last_number) ≡ false = grind (arith, nat_tests) in
    elim (cases_Bool (is_new_tier (room_wanted geo state op))) [
      | inl new ↦ rw (plans.met, plans.room, counts, new) refl
      | inr old ↦ rw (plans.met, plans.room, counts, old) refl
    ]

-- so it leads to the state after it, with the reply to it
pub planned_step : (geo : Geo) (segment : ℕ) (state : State) (number : ℕ) (op : Op) (change : Change) → Plans geo segment state op change → number < last_number
    → Step geo segment state number true op (after geo change state) (reply_of change.kind op change.key)
planned_step geo segment state number op change plans few =
    subst (λ (it : Decision). StepAs it geo segment state op (after geo change state) (reply_of change.kind op change.key)) (sym (decision_is geo segment state number op change plans few)) (change, plans, refl, refl)
