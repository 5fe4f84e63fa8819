-- Along the list of changes each change is a step.
use Rattle.std.proofs.Common.{◌≡◌, ℕ, zero, suc, ◌+◌, true, List, [], ◌∷◌, slice_get, take, Some, ap, sym, ◌∙◌, subst, arith}
use Rattle.std.proofs.lemmas.Option.{same_Some, slice_get_within}
use Rattle.cm_geo.specs.declared.geo.Geo.{Geo}
use Rattle.cm_plain.specs.States.{State}
use Rattle.cm_plain.specs.Changes.{Change, after}
use Rattle.cm_plain.specs.Steps.{Plans, Step, reply_of}
use Rattle.cm_plain.proofs.PlannedSteps.{planned_step}
use Rattle.cm_lock.specs.declared.view.Key.{Key}
use Rattle.cm_lock.specs.declared.view.View.{View}
use Rattle.cm_lock.specs.ChangeLists.{ArePlanned, AreSteps, state_after, state_at}
use Rattle.cm_lock.specs.Rule.{IsSharedSegment}

-- a change is planned for the state at its place
planned_at : (geo : Geo) (segment : ℕ) (state : State) (cs : List Change) (place : ℕ) (c : Change) → ArePlanned geo segment state cs → slice_get cs place ≡ Some c
    → Plans geo segment (state_after geo state (take place cs)) c.op c
planned_at geo segment state [] place c planned e = cc e
planned_at geo segment state (d ∷ ds) zero c planned e = subst (λ (x : Change). Plans geo segment state x.op x) (same_Some d c e) planned.0
planned_at geo segment state (d ∷ ds) (suc place) c planned e = planned_at geo segment (after geo d state) ds place c planned.1 e

-- and leads to the state at the next place
next_state : (geo : Geo) (state : State) (cs : List Change) (place : ℕ) (c : Change) → slice_get cs place ≡ Some c → state_after geo state (take (place + 1) cs) ≡ after geo c (state_after geo state (take place cs))
next_state geo state [] place c e = cc e
next_state geo state (d ∷ ds) zero c e = ap (λ (x : Change). after geo x state) (same_Some d c e)
next_state geo state (d ∷ ds) (suc place) c e = ap (λ (n : ℕ). state_after geo state (take n (d ∷ ds))) (more place) ∙ next_state geo (after geo d state) ds place c e
  where
    more : (n : ℕ) → suc n + 1 ≡ suc (n + 1)
    more n = omega arith

-- the law that each is a step: the rule leaves a number for it
pub each_is_step : (key : Key) (words : List ℕ) (views : List View) (rule : IsSharedSegment key words views) → AreSteps key rule.list
each_is_step key words views rule place c there =
    let list = rule.list in
    let within = slice_get_within list.changes place c there in
    let few = rule.changes.within_limit in
    let plans = planned_at key.geo key.segment list.first list.changes place c rule.noted.planned there in
    subst (λ (later : State). Step key.geo key.segment (state_at key.geo list place) (list.start + place) true c.op later (reply_of c.kind c.op c.key)) (sym (next_state key.geo list.first list.changes place c there))
    (planned_step key.geo key.segment (state_at key.geo list place) (list.start + place) c.op c plans (omega arith))
