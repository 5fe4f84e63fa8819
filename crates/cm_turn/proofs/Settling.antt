-- How what was done under a level ends.
use Rattle.std.proofs.Common.{◌≡◌, ℕ, ◌+◌, ◌≤◌, Bool, true, false, if◌then◌else◌, ◌⊎◌, List, [], ◌∷◌, ◌++◌, Option, Some, None, refl, sym, ap, ◌∙◌, subst, arith, inl, inr}
use Rattle.cm_plain.specs.declared.op.Op.{Op}
use Rattle.cm_plain.specs.declared.reply.Reply.{Reply}
use Rattle.cm_plain.specs.declared.reply.Reply.TheVariants as reply
use Rattle.cm_plain.specs.Changes.{Change}
use Rattle.cm_plain.specs.Steps.{is_change, reply_of}
use Rattle.cm_lock.specs.Answers.{EntersAnswer}
use Rattle.cm_lock.specs.Holds.{with_rest}
use Rattle.cm_lock.specs.Views.{copy_of}
use Rattle.cm_lock.specs.declared.view.View.{View}
use Rattle.cm_yard.specs.declared.view.View.{View as YardView}
use Rattle.cm_yard.specs.Claims.{claims_for}
use Rattle.cm_turn.specs.declared.answer.Answer.{Answer}
use Rattle.cm_turn.specs.Answers.{reply_in}
use Rattle.cm_plain.specs.declared.plan.Plan.{Plan}
use Rattle.cm_plain.specs.Plans.{op_of_ask, plan_change}
use Rattle.cm_words.specs.Memory.{MemSeen}
use Rattle.cm_geo.specs.declared.geo.Geo.{Geo}
use Rattle.cm_lock.specs.Views.{change_in, plan_in}
use Rattle.cm_lock.specs.declared.view.ChangeCopy.{ChangeCopy}
use Rattle.cm_lock.specs.declared.view.Level.TheVariants.{Write}
use Rattle.cm_lock.specs.declared.view.NumberedChange.{NumberedChange}
use Rattle.cm_turn.specs.Records.{Adds, AddsAs, DiedMaking, HasMade, with_record, before, within}
use Rattle.cm_turn.specs.Turns.{DiesOwing, IsGranted, Owes, Settles, links_in}
use Rattle.cm_turn.specs.Verdicts.{ChangesBy}
use Rattle.cm_turn.proofs.Claiming.{count_pushed, granted_claims, untried_made}

-- an answer that changes nothing was entered
pub adds_told : (op : Op) (number : ℕ) (answer : Reply) (old now : View) → is_change answer ≡ false → EntersAnswer op answer number old now → Adds op number answer old now
adds_told op number answer old now stays enters = record {
  added = subst (λ (b : Bool). AddsAs b op number answer old now) (sym stays)
      (subst (λ (z : View). z ≡ with_record old.changes (old.answers ++ record { number = number; op = op; reply = answer } ∷ []) old z) (sym enters.view) refl, enters.seen);
  seen = subst (λ (z : View). number ≤ z.seen) (sym enters.view) (omega arith);
}

-- a change was made
pub adds_made : (op : Op) (number : ℕ) (answer : Reply) (change : Change) (old now : View) → is_change answer ≡ true → HasMade change number old now → change.op ≡ op
    → answer ≡ reply_of change.kind op change.key → Adds op number answer old now
adds_made op number answer change old now changes made op_is answer_is = record {
  added = subst (λ (b : Bool). AddsAs b op number answer old now) (sym changes)
      (copy_of change, subst (λ (z : View). z ≡ with_record (old.changes ++ record { number = number; change = copy_of change } ∷ []) old.answers old z) (sym made.view) refl, op_is, answer_is, made.above);
  seen = made.seen;
}

links_made : (change : Change) (number : ℕ) (old now : View) → HasMade change number old now → links_in now ≡ links_in old + (if change.link then 1 else 0)
links_made change number old now made =
    ap links_in made.view ∙ count_pushed (λ (c : NumberedChange). c.change.link) old.changes (record { number = number; change = copy_of change })

no_change_spent : (answer : Reply) → is_change answer ≡ true → answer ≡ reply.FullSpent → ⊥
no_change_spent answer changes spent = let h : false ≡ true = ap is_change (sym spent) ∙ changes in cc h

-- a change was made, with a claim where it links a tier
pub settles_made : (m : MemSeen) (geo : Geo) (segment extra : ℕ) (op : Op) (out : List ℕ) (old now : View) (earlier later : YardView) (number : ℕ) (answer : Answer) (plan : Plan)
    → old.own.level ≡ Write → ChangesBy m geo op out plan answer → HasMade (plan_change plan) number old now → IsGranted segment extra plan.link true earlier later
    → Settles segment extra op out old now earlier later (record { number = number; answer = answer })
settles_made m geo segment extra op out old now earlier later number answer plan level by made granted = record {
  adds = adds_made op number (reply_in answer out) (plan_change plan) old now by.changes made by.may.op_is by.reply;
  idle = made.idle;
  level = inl (ap (λ (v : View). v.own.level) made.view);
  round = ap (λ (v : View). v.round) made.view;
  noted = λ _. (ap (λ (v : View). v.own.level) made.view ∙ level, made.noted);
  pays = record {
    alone = granted.alone;
    paid = (let l = links_made (plan_change plan) number old now made in let c = granted_claims segment extra plan.link earlier later granted in omega arith);
  };
  spent = λ e. absurd (no_change_spent (reply_in answer out) by.changes e);
  untried = λ _ same. untried_made segment extra plan.link old now earlier later (links_made (plan_change plan) number old now made) granted same;
}

same_links : (old now : View) → now ≡ with_rest old now → links_in now ≡ links_in old
same_links old now same = ap links_in same

plan_some : (plan : Option ChangeCopy) (change : Change) → plan_in plan ≡ Some change → (c : ChangeCopy) × (plan ≡ Some c) × (change_in c ≡ change)
plan_some None change e = absurd (no_plan e)
  where
    no_plan : None ≡ Some change → ⊥
    no_plan e = cc e
plan_some (Some c) change e = (c, refl, some_same e)
  where
    some_same : Some (change_in c) ≡ Some change → change_in c ≡ change
    some_same e = cc e

-- a change died
pub dies_made : (segment extra : ℕ) (op : Op) (old now : View) (earlier later : YardView) (plan : Plan) → op_of_ask plan.ask ≡ op → old.own.level ≡ Write
    → DiedMaking (plan_change plan) old now → IsGranted segment extra plan.link true earlier later → DiesOwing segment op old now earlier later
dies_made segment extra op old now earlier later plan op_is level died granted = by died.plan
  where
    record_is : now ≡ with_record old.changes old.answers old now
    record_is = subst (λ (z : View). z ≡ with_record old.changes old.answers old z) (sym died.view) refl

    links : links_in now ≡ links_in old
    links = same_links old now died.view

    claims : claims_for segment later ≡ claims_for segment earlier + (if plan.link then 1 else 0)
    claims = granted_claims segment extra plan.link earlier later granted

    at_most_one : (link : Bool) → (if link then 1 else 0) ≤ 1
    at_most_one true = omega arith
    at_most_one false = omega arith

    one_if : (link : Bool) → link ≡ true → 1 ≤ (if link then 1 else 0)
    one_if link is = rw is (omega arith)

    owes_with : ((c : ChangeCopy) → now.own.plan ≡ Some c → c.link ≡ true → plan.link ≡ true) → Owes segment old now earlier later
    owes_with link = let m = at_most_one plan.link in let l = links in let k = claims in record {
      alone = granted.alone;
      paid = (omega arith);
      one_more = (omega arith);
      plan = λ c is links_it. (let h = one_if plan.link (link c is links_it) in omega arith);
    }

    same_some : {c d : ChangeCopy} → Some c ≡ Some d → c ≡ d
    same_some e = cc e

    by : ((now.own.plan ≡ None) × (now.stores ≡ old.stores)) ⊎ (plan_in now.own.plan ≡ Some (plan_change plan)) → DiesOwing segment op old now earlier later
    by (inl (idle, stores)) = record {
      dies = before (record { view = record_is; seen = died.seen; stores = stores }) idle;
      owes = owes_with (λ c is _. absurd (let h : None ≡ Some c = sym idle ∙ is in cc h));
    }
    by (inr is) =
        let (c, plan_is, change_is) = plan_some now.own.plan (plan_change plan) is in
        record {
          dies = within c record_is died.seen plan_is (ap (λ (d : Change). d.op) change_is ∙ op_is) (ap (λ (v : View). v.own.level) died.view ∙ level);
          owes = owes_with (λ d other links_it. (let e : c ≡ d = same_some (sym plan_is ∙ other) in sym (ap (λ (z : Change). z.link) change_is) ∙ (ap (λ (z : ChangeCopy). z.link) e ∙ links_it)));
        }
