-- A plan that was made for a put or a removal is that of each operation that places this value, or takes this entry away.
use Rattle.std.proofs.Common.{◌≡◌, ◌∙◌, ◌/◌, ℕ, Bool, true, false, List, length, Option, Some, None, IfSome, inl, inr, refl, sym, ap, subst}
use Rattle.cm_geo.specs.declared.geo.Geo.{Geo}
use Rattle.cm_geo.specs.Hash.{segment_of_key}
use Rattle.cm_geo.specs.Need.{Fits, need}
use Rattle.cm_plain.specs.declared.op.Op.{Op}
use Rattle.cm_plain.specs.declared.op.Op.TheVariants as op
use Rattle.cm_plain.specs.declared.plan.Ask.{Ask}
use Rattle.cm_plain.specs.declared.plan.Plan.{Plan}
use Rattle.cm_plain.specs.declared.plan.PlanKind.{PlanKind}
use Rattle.cm_plain.specs.declared.plan.PlanKind.TheVariants as kind
use Rattle.cm_plain.specs.declared.plan.Run.{Run}
use Rattle.cm_plain.specs.declared.reply.Reply.TheVariants as reply
use Rattle.cm_plain.specs.declared.room.Room.TheVariants as room
use Rattle.cm_plain.specs.States.{State}
use Rattle.cm_plain.specs.Changes.{Change, placed_value}
use Rattle.cm_plain.specs.Plans.{IsShortOp, op_of_ask, plan_change}
use Rattle.cm_plain.specs.Rooms.{is_nowhere, room_for}
use Rattle.cm_plain.specs.Steps.{Plans, Step, is_change, reply_of, room_wanted}
use Rattle.cm_plain.specs.Slots.{word_at}
use Rattle.cm_plain.specs.Lawful.{Resting}
use Rattle.cm_plain.proofs.OutsideHead.{resting_represents}
use Rattle.cm_words.specs.Memory.{FitsNotes, IsPlanHere, MemSeen}
use Rattle.cm_words.specs.Effects.{Reads}
use Rattle.cm_segment.specs.declared.planning.Planned.{Planned}
use Rattle.cm_segment.specs.PlanNumbers.{IsNewIn}
use Rattle.cm_segment.specs.Planning.{IfPlan, IsPutOf, MayBegin, PlansPut}
use Rattle.cm_segment.proofs.ChainedTiers.{rests_before}
use Rattle.cm_segment.proofs.PlansMade.{plans_put}
use Rattle.cm_turn.specs.declared.answer.Answer.{Answer}
use Rattle.cm_turn.specs.declared.answer.Answer.TheVariants as answer
use Rattle.cm_turn.specs.Answers.{reply_in}
use Rattle.cm_turn.specs.Conditions.{EachHere, IsPlanned, PlacesHere}
use Rattle.cm_turn.specs.Verdicts.{ChangesBy, StaysBy}

-- ---- the replies

-- each change is told as one
changes_told : (kind : PlanKind) (op : Op) (key : List ℕ) → is_change (reply_of kind op key) ≡ true
changes_told kind.Fresh op key = refl
changes_told kind.InPlace op key = refl
changes_told kind.Relocate op key = refl
changes_told kind.Remove (op.Put k v) key = refl
changes_told kind.Remove (op.Get k) key = refl
changes_told kind.Remove (op.PutIfAbsent k v) key = refl
changes_told kind.Remove (op.Replace k v) key = refl
changes_told kind.Remove (op.ReplaceIf k e v) key = refl
changes_told kind.Remove (op.Remove k) key = refl
changes_told kind.Remove (op.RemoveIf k e) key = refl
changes_told kind.Remove (op.Count n) key = refl
changes_told kind.Remove (op.List n) key = refl
changes_told kind.Remove (op.Sweep n p) key = refl

-- an operation that places a value is no sweep
pub no_sweep : (op : Op) (key value : List ℕ) → placed_value op ≡ Some value → reply.Removed ≡ reply_of kind.Remove op key
no_sweep (op.Put k v) key value e = refl
no_sweep (op.Get k) key value e = refl
no_sweep (op.PutIfAbsent k v) key value e = refl
no_sweep (op.Replace k v) key value e = refl
no_sweep (op.ReplaceIf k x v) key value e = refl
no_sweep (op.Remove k) key value e = refl
no_sweep (op.RemoveIf k x) key value e = refl
no_sweep (op.Count n) key value e = refl
no_sweep (op.List n) key value e = refl
no_sweep (op.Sweep n p) key value e = absurd (let h : None ≡ Some value = e in cc h)

-- an operation that places no value wants no room
wants_none : (geo : Geo) (state : State) (op : Op) → placed_value op ≡ None → is_nowhere (room_wanted geo state op) ≡ false
wants_none geo state (op.Put k v) e = absurd (let h : Some v ≡ None = e in cc h)
wants_none geo state (op.Get k) e = refl
wants_none geo state (op.PutIfAbsent k v) e = absurd (let h : Some v ≡ None = e in cc h)
wants_none geo state (op.Replace k v) e = absurd (let h : Some v ≡ None = e in cc h)
wants_none geo state (op.ReplaceIf k x v) e = absurd (let h : Some v ≡ None = e in cc h)
wants_none geo state (op.Remove k) e = refl
wants_none geo state (op.RemoveIf k x) e = refl
wants_none geo state (op.Count n) e = refl
wants_none geo state (op.List n) e = refl
wants_none geo state (op.Sweep n p) e = refl

-- ---- the plan

-- a plan, asked for by another operation
abbrev asked_by : Ask → Plan → Plan
asked_by ask plan = record plan { ask = ask }

same_new : (geo : Geo) (ask : Ask) (plan : Plan) (run : Option Run)
    → IfSome run (IsNewIn geo (plan_change plan)) → IfSome run (IsNewIn geo (plan_change (asked_by ask plan)))
same_new geo ask plan None is = tt
same_new geo ask plan (Some run) is = record { run_in = is.run_in; fits = is.fits; size = is.size }

-- it may begin for that one, too, if it is its plan in each state here
begins_as : (m : MemSeen) (geo : Geo) (first : Op) (ask : Ask) (plan : Plan) → MayBegin m geo first plan → IsShortOp (op_of_ask ask)
    → IsPlanHere m (plan_change (asked_by ask plan)) → MayBegin m geo (op_of_ask ask) (asked_by ask plan)
begins_as m geo first ask plan may short here = record {
  plan_in = record {
    slot_low = may.plan_in.slot_low;
    old = may.plan_in.old;
    new = same_new geo ask plan plan.new may.plan_in.new;
    runs = may.plan_in.runs;
  };
  op_is = refl;
  within_limits = record { key = may.within_limits.key; value = may.within_limits.value; op = short };
  here = here;
  points = may.points;
}

-- a plan to put a value is the plan of each operation that places it
place_here : (m : MemSeen) (geo : Geo) (ask : Ask) (key value : List ℕ) (link : Bool) (plan : Plan) → m.setting.geo ≡ geo → Fits geo (length key) (length value)
    → segment_of_key geo key ≡ m.setting.segment → PlacesHere m geo key value (op_of_ask ask)
    → ((words : List ℕ) (state : State) → FitsNotes m words → Resting geo m.setting.segment words state → IsPutOf geo words state key value link plan)
    → IsPlanHere m (plan_change (asked_by ask plan))
place_here m geo ask key value link plan geo_is fits here places are words state fits_m rests_m =
    let rests = subst (λ (g : Geo). Resting g m.setting.segment words state) geo_is rests_m in
    let is = are words state fits_m rests in
    subst (λ (g : Geo). Plans g m.setting.segment state (op_of_ask ask) (plan_change (asked_by ask plan))) (sym geo_is)
    (plans_put geo m.setting.segment state (op_of_ask ask) key value (plan_change (asked_by ask plan))
    (resting_represents geo m.setting.segment words state rests).is_state fits here (places words state fits_m rests) is.room
    (ap (λ (c : Change). record c { op = op_of_ask ask }) is.plan_of.change_is))

-- what is to be done where there is room
pub place_changes : (m : MemSeen) (geo : Geo) (ask : Ask) (key value : List ℕ) (link : Bool) (plan : Plan) (answered : Answer) (out : List ℕ) → m.setting.geo ≡ geo
    → Fits geo (length key) (length value) → segment_of_key geo key ≡ m.setting.segment → IsShortOp (op_of_ask ask) → PlacesHere m geo key value (op_of_ask ask)
    → MayBegin m geo (op.Put key value) plan
    → ((words : List ℕ) (state : State) → FitsNotes m words → Resting geo m.setting.segment words state → IsPutOf geo words state key value link plan)
    → reply_in answered out ≡ reply_of plan.kind (op_of_ask ask) plan.key.now → ChangesBy m geo (op_of_ask ask) out (asked_by ask plan) answered
place_changes m geo ask key value link plan answered out geo_is fits here short places may are told = record {
  may = begins_as m geo (op.Put key value) ask plan may short (place_here m geo ask key value link plan geo_is fits here places are);
  changes = ap is_change told ∙ changes_told plan.kind (op_of_ask ask) plan.key.now;
  reply = told;
}

-- whether it links a tier or not
pub planned_changes : (m : MemSeen) (geo : Geo) (ask : Ask) (key value : List ℕ) (planned : Planned) (plan : Plan) (answered : Answer) (out : List ℕ)
    → m.setting.geo ≡ geo → Fits geo (length key) (length value) → segment_of_key geo key ≡ m.setting.segment → IsShortOp (op_of_ask ask) → PlacesHere m geo key value (op_of_ask ask)
    → IfPlan (MayBegin m geo (op.Put key value)) planned
    → ((words : List ℕ) (state : State) → FitsNotes m words → Resting geo m.setting.segment words state → PlansPut geo words state key value planned)
    → IsPlanned planned plan → reply_in answered out ≡ reply_of plan.kind (op_of_ask ask) plan.key.now
    → ChangesBy m geo (op_of_ask ask) out (asked_by ask plan) answered
planned_changes m geo ask key value planned plan answered out geo_is fits here short places may are is told = elim is [
  | inl e ↦ place_changes m geo ask key value false plan answered out geo_is fits here short places (rw e at may) (rw e at are) told
  | inr e ↦ place_changes m geo ask key value true plan answered out geo_is fits here short places (rw e at may) (rw e at are) told
]

-- and where there is none
pub place_stays : (m : MemSeen) (geo : Geo) (op : Op) (key value out : List ℕ) → m.setting.geo ≡ geo → PlacesHere m geo key value op
    → EachHere m geo (λ state. room_for geo state key (need geo (length key) (length value)) ≡ room.Nowhere) → StaysBy m op out answer.FullChain
place_stays m geo op key value out geo_is places nowhere = record {
  stays = refl;
  bytes = tt;
  unspent = λ e. cc e;
  right = λ words state fits rests_m.
      (let rests = subst (λ (g : Geo). Resting g m.setting.segment words state) geo_is rests_m in
      let is = places words state fits rests in
      let none = nowhere words state fits rests in
      subst (λ (g : Geo). Step g m.setting.segment state (word_at words 1 / 2) false op state reply.FullChain) (sym geo_is)
      (rw (is.met, is.wanted, none) (refl, refl)));
}

-- what is to be done with a plan that may begin
pub plan_changes : (m : MemSeen) (geo : Geo) (op : Op) (plan : Plan) (answered : Answer) (out : List ℕ) → MayBegin m geo op plan
    → reply_in answered out ≡ reply_of plan.kind op plan.key.now → ChangesBy m geo op out plan answered
plan_changes m geo op plan answered out may told =
    record { may = may; changes = ap is_change told ∙ changes_told plan.kind op plan.key.now; reply = told }

-- ---- after loads

-- an operation still places its value
pub places_later : (a b : MemSeen) (geo : Geo) (key value : List ℕ) (op : Op) → Reads a b → PlacesHere a geo key value op → PlacesHere b geo key value op
places_later a b geo key value op reads places words state fits rests =
    let is = places words state (reads.fits words fits) (rests_before a b geo words state reads rests) in
    record { met = is.met; placed = is.placed; keyed = is.keyed; wanted = is.wanted }
