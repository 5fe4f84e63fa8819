-- The plan of a change, as it is made from words (own): its numbers lie in the geometry whatever the words are, and it is that of each state for
-- which they rest.
use Rattle.std.specs.Prelude.{ℕ, ◌≡◌, Bool, true, false, List, length, Option, Some, None, IfSome, MatchOption}
use Rattle.cm_geo.specs.declared.geo.Geo.{Geo}
use Rattle.cm_geo.specs.Need.{need}
use Rattle.cm_plain.specs.declared.op.Op.{Op}
use Rattle.cm_plain.specs.declared.plan.Plan.{Plan}
use Rattle.cm_plain.specs.declared.room.Room.TheVariants as room
use Rattle.cm_plain.specs.States.{State, entry_of}
use Rattle.cm_plain.specs.Rooms.{is_nowhere, room_for}
use Rattle.cm_plain.specs.Changes.{change_of}
use Rattle.cm_plain.specs.Plans.{IsShort, op_of_ask, plan_change}
use Rattle.cm_plain.specs.Slots.{Points}
use Rattle.cm_plain.specs.Lawful.{Resting}
use Rattle.cm_words.specs.Memory.{FitsNotes, IsPlanHere, MemSeen}
use Rattle.cm_segment.specs.PlanNumbers.{IsPlanIn, PointsAt}
use Rattle.cm_segment.specs.declared.planning.Planned.{Planned}
use Rattle.cm_segment.specs.declared.planning.Planned.TheVariants.{Ready, NeedsTier, FullChain}

-- ---- the state whose plan it is

-- a plan is that of a state for a key that gets this value, or none, whatever operation asks for it; its slot points to the old run
pub record IsPlanOf (geo : Geo) (words : List ℕ) (state : State) (key : List ℕ) (value : Option (List ℕ)) (plan : Plan) : Type 0 where
  pub change_is : plan_change plan ≡ change_of geo state (op_of_ask plan.ask) key value
  pub points : IfSome plan.old (λ run. Points geo words run.place key run.chunk plan.old_slot)

-- it is that of a value for which there is room; it links a tier or not
pub record IsPutOf (geo : Geo) (words : List ℕ) (state : State) (key value : List ℕ) (link : Bool) (plan : Plan) : Type 0 where
  pub plan_of : IsPlanOf geo words state key (Some value) plan
  pub room : is_nowhere (room_for geo state key (need geo (length key) (length value))) ≡ false
  pub link_is : plan.link ≡ link

-- what is planned to put a value: a plan of the state, or nothing where the state has no room
abbrev pub PlansPut : Geo → List ℕ → State → List ℕ → List ℕ → Planned → Type 0
PlansPut geo words state key value (Ready plan) = IsPutOf geo words state key value false plan
PlansPut geo words state key value (NeedsTier plan) = IsPutOf geo words state key value true plan
PlansPut geo words state key value FullChain = room_for geo state key (need geo (length key) (length value)) ≡ room.Nowhere

-- what is planned to remove a key: a plan of the state, or nothing where the state has no such key
abbrev pub PlansRemove : Geo → List ℕ → State → List ℕ → Option Plan → Type 0
PlansRemove geo words state key plan = MatchOption plan (entry_of key state ≡ None) (IsPlanOf geo words state key None)

-- ---- whether it may begin

-- a plan may begin: its numbers lie in the geometry, its operation is this one, its texts are within the limits, and it is the plan of each
-- state here, where its slot points to its old run
pub record MayBegin (m : MemSeen) (geo : Geo) (op : Op) (plan : Plan) : Type 0 where
  pub plan_in : IsPlanIn geo (plan_change plan) plan.old_slot
  pub op_is : op_of_ask plan.ask ≡ op
  pub within_limits : IsShort (plan_change plan)
  pub here : IsPlanHere m (plan_change plan)
  pub points : (words : List ℕ) (state : State) → FitsNotes m words → Resting geo m.setting.segment words state
      → PointsAt geo (plan_change plan) plan.old_slot state words words

-- if there is a plan, it is so
abbrev pub IfPlan : (Plan → Type 0) → Planned → Type 0
IfPlan IsSo (Ready plan) = IsSo plan
IfPlan IsSo (NeedsTier plan) = IsSo plan
IfPlan IsSo FullChain = Unit {0}
