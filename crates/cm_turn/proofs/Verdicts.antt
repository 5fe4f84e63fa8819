-- What is decided of a plan, once the number of changes is known.
use Rattle.std.proofs.Common.{◌≡◌, ◌≢◌, ℕ, ◌/◌, ◌<◌, ◌==◌, true, false, IsTrue, IsSome, IsSomeAnd, Option, Some, None, List, refl, sym, ap, ◌∙◌, subst, arith, rules}
use Rattle.cm_geo.specs.declared.geo.Geo.{Geo}
use Rattle.cm_plain.specs.declared.op.Op.{Op}
use Rattle.cm_plain.specs.declared.op.Op.TheVariants as op
use Rattle.cm_plain.specs.declared.reply.Reply.TheVariants as reply
use Rattle.cm_plain.specs.States.{State}
use Rattle.cm_plain.specs.Changes.{Change, planned_change}
use Rattle.cm_plain.specs.Plans.{plan_change}
use Rattle.cm_plain.specs.Rooms.{is_new_tier}
use Rattle.cm_plain.specs.Steps.{Plans, Step, last_number, room_wanted}
use Rattle.cm_plain.specs.Slots.{word_at}
use Rattle.cm_words.specs.Memory.{FitsNotes, HasEvenNumber, MemSeen, Note}
use Rattle.cm_words.specs.Effects.{KnowsNumber, Reads}
use Rattle.cm_turn.specs.declared.operation.Verdict.{Verdict}
use Rattle.cm_turn.specs.declared.operation.Verdict.TheVariants.{Stays, Changes}
use Rattle.cm_turn.specs.Verdicts.{Decides, Judges}
use Rattle.cm_turn.proofs.Knowledge.{changes_known, known_by_reads, stays_known}

links_by : (geo : Geo) (state : State) (op : Op) (change : Change) (key : List ℕ) → change ≡ planned_change geo state op change.key → change.key ≡ key → (planned_change geo state op key).link ≡ change.link
links_by geo state op change key is same = sym (ap (λ (c : Change). c.link) is ∙ ap (λ (k : List ℕ). (planned_change geo state op k).link) same)

-- a plan that links a tier is of an operation that wants a new one
wants_new : (geo : Geo) (segment : ℕ) (state : State) (op : Op) (change : Change) → Plans geo segment state op change → change.link ≡ true → is_new_tier (room_wanted geo state op) ≡ true
wants_new geo segment state (op.Put key value) change plans links = links_by geo state (op.Put key value) change key plans.change_is plans.key ∙ links
wants_new geo segment state (op.PutIfAbsent key value) change plans links = links_by geo state (op.PutIfAbsent key value) change key plans.change_is plans.key ∙ links
wants_new geo segment state (op.Replace key value) change plans links = links_by geo state (op.Replace key value) change key plans.change_is plans.key ∙ links
wants_new geo segment state (op.ReplaceIf key expected value) change plans links = links_by geo state (op.ReplaceIf key expected value) change key plans.change_is plans.key ∙ links
wants_new geo segment state (op.Get key) change plans links = absurd (let h = sym (ap (λ (c : Change). c.link) plans.change_is) ∙ links in cc h)
wants_new geo segment state (op.Remove key) change plans links = absurd (let h = sym (ap (λ (c : Change). c.link) plans.change_is) ∙ links in cc h)
wants_new geo segment state (op.RemoveIf key expected) change plans links = absurd (let h = sym (ap (λ (c : Change). c.link) plans.change_is) ∙ links in cc h)
wants_new geo segment state (op.Count n) change plans links = absurd (let h = sym (ap (λ (c : Change). c.link) plans.change_is) ∙ links in cc h)
wants_new geo segment state (op.List n) change plans links = absurd (let h = sym (ap (λ (c : Change). c.link) plans.change_is) ∙ links in cc h)
wants_new geo segment state (op.Sweep n prefix) change plans links = absurd (let h = sym (ap (λ (c : Change). c.link) plans.change_is) ∙ links in cc h)

-- a change where no number is left
pub worn_step : (geo : Geo) (segment : ℕ) (state : State) (number : ℕ) (op : Op) (change : Change) → Plans geo segment state op change → (number == last_number) ≡ true
    → Step geo segment state number false op state reply.Worn
worn_step geo segment state number op change plans last = rw (plans.met, plans.room, last) (refl, refl)

-- a change that wants a new tier, where none is granted
spent_step : (geo : Geo) (segment : ℕ) (state : State) (number : ℕ) (op : Op) (change : Change) → Plans geo segment state op change → (number == last_number) ≡ false
    → change.link ≡ true → Step geo segment state number false op state reply.FullSpent
spent_step geo segment state number op change plans counts links = rw (plans.met, plans.room, counts, wants_new geo segment state op change plans links) (refl, refl)

not_last : (n m : ℕ) → n < m → (n == m) ≡ false
not_last n m below = grind arith

-- the number of changes that is known, in each list
half_of : (m : MemSeen) (number : ℕ) (words : List ℕ) → KnowsNumber m number → FitsNotes m words → (IsTrue m.setting.shared → 0 < 1) → word_at words 1 / 2 ≡ number
half_of m number words knows fits steady = ap (λ (w : ℕ). w / 2) (knows.knows.here steady words fits) ∙ knows.half

noted_of : (note : Option Note) (word : ℕ) → IsSomeAnd note (λ n. n.present ≡ word) → IsSome note
noted_of None word h = absurd h
noted_of (Some note) word h = search rules

-- the number of changes is even, and not the last
number_is : (m : MemSeen) (number : ℕ) → KnowsNumber m number → IsTrue m.setting.guarded → IsTrue m.setting.shared → number ≢ last_number → HasEvenNumber m
number_is m number knows guarded shared counts = record {
  noted = noted_of (m.noted 1) knows.word (knows.knows.noted (λ _. omega arith));
  even = λ words fits. (let h = knows.knows.here (λ _. omega arith) words fits in let e = knows.even guarded in omega arith);
  not_last = λ words fits. (let h = knows.knows.here (λ _. omega arith) words fits in let e = knows.even guarded in let l = knows.within_limit shared in omega arith);
}

-- what was judged is what is to be done
pub judged : (a b : MemSeen) (geo : Geo) (op : Op) (out : List ℕ) (verdict : Verdict) (number : ℕ) → Reads a b → IsTrue a.setting.guarded → IsTrue a.setting.shared
    → KnowsNumber b number → number ≢ last_number → Judges a geo op out verdict → Decides b geo op out verdict
judged a b geo op out (Stays answer) number reads guarded shared knows counts j = stays_known a b (known_by_reads a b reads) op out answer j
judged a b geo op out (Changes plan answer) number reads guarded shared knows counts j =
    let changes = changes_known a b (known_by_reads a b reads) geo op out plan answer j in
    let setting = reads.keeps.setting in
    let even = number_is b number knows (subst (λ s. IsTrue s.guarded) (sym setting) guarded) (subst (λ s. IsTrue s.shared) (sym setting) shared) counts in
    record {
      changes = changes;
      number = even;
      spent = λ links words state fits rests.
          (let plans = changes.may.here words state fits rests in
          let below = even.not_last words fits in
          subst (λ (o : Op). Step b.setting.geo b.setting.segment state (word_at words 1 / 2) false o state reply.FullSpent) changes.may.op_is
          (spent_step b.setting.geo b.setting.segment state (word_at words 1 / 2) (plan_change plan).op (plan_change plan) plans
          (not_last (word_at words 1 / 2) last_number (omega arith)) links));
    }
