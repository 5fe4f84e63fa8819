-- The room for a value beside the run of its key's entry, as it was found in words, and what is planned in it (own).
use Rattle.std.specs.Prelude.{ℕ, ◌≡◌, ◌+◌, ◌<◌, ◌≤◌, true, false, List, Contains, Option, Some, None, IfSome}
use Rattle.std.specs.Option.{option_map}
use Rattle.cm_geo.specs.declared.geo.Geo.{Geo}
use Rattle.cm_plain.specs.declared.op.Op.TheVariants.{Put}
use Rattle.cm_plain.specs.declared.placed.Placed.{Placed}
use Rattle.cm_plain.specs.declared.plan.Plan.{Plan}
use Rattle.cm_plain.specs.declared.plan.PlanKind.{PlanKind}
use Rattle.cm_plain.specs.declared.plan.PlanKind.TheVariants as kind
use Rattle.cm_plain.specs.declared.plan.Run.{Run}
use Rattle.cm_plain.specs.declared.room.Room.{Room}
use Rattle.cm_plain.specs.declared.room.Room.TheVariants as room
use Rattle.cm_plain.specs.States.{State}
use Rattle.cm_plain.specs.Rooms.{is_new_tier, is_nowhere, room_beside}
use Rattle.cm_plain.specs.Changes.{Change, run_at, run_of}
use Rattle.cm_plain.specs.Plans.{plan_change}
use Rattle.cm_segment.specs.declared.planning.Old.{Old}
use Rattle.cm_segment.specs.declared.planning.Planned.{Planned}
use Rattle.cm_segment.specs.declared.planning.Planned.TheVariants.{Ready, NeedsTier, FullChain}
use Rattle.cm_segment.specs.OldEntries.{run_of_old}

-- so many chunks in a room lie in the geometry; in place only where there is an old run
abbrev pub IsRoomIn : Geo → Option Run → ℕ → Room → Type 0
IsRoomIn geo None chunks room.InPlace = ⊥
IsRoomIn geo (Some old) chunks room.InPlace = old.chunk + chunks ≤ geo.chunks
IsRoomIn geo old chunks (room.Elsewhere spot) = (spot.place < geo.tiers) × (spot.chunk + chunks ≤ geo.chunks)
IsRoomIn geo old chunks (room.NewTier place) = place < geo.tiers
IsRoomIn geo old chunks room.Nowhere = Unit {0}

-- a room beside an old run: in place only where there is one
abbrev pub IsRoomBeside : Option Run → Room → Type 0
IsRoomBeside None room.InPlace = ⊥
IsRoomBeside old found = Unit {0}

-- a room is that of a state, beside whatever entry has the old run
abbrev pub IsRoomFor : Geo → State → Option Old → ℕ → Room → Type 0
IsRoomFor geo state old chunks found =
    (placed : Option Placed) → option_map (run_of geo) placed ≡ run_of_old old → IfSome placed (Contains state.entries)
    → found ≡ room_beside geo state placed chunks

-- how a room places an entry, beside the key's old run
abbrev pub kind_beside : Room → Option Run → PlanKind
kind_beside found None = kind.Fresh
kind_beside room.InPlace (Some old) = kind.InPlace
kind_beside found (Some old) = kind.Relocate

-- the run that it gives to so many chunks
abbrev pub run_beside : Room → ℕ → Option Run → Option Run
run_beside room.InPlace chunks None = None
run_beside room.InPlace chunks (Some old) = Some (record { place = old.place; chunk = old.chunk; chunks = chunks })
run_beside (room.Elsewhere spot) chunks old = Some (run_at chunks spot)
run_beside (room.NewTier place) chunks old = Some (record { place = place; chunk = 0; chunks = chunks })
run_beside room.Nowhere chunks old = None

-- the change that puts a value there
abbrev pub put_beside : List ℕ → List ℕ → Option Run → Room → ℕ → Change
put_beside key value old found chunks = record {
  op = Put key value;
  kind = kind_beside found old;
  key = key;
  value = value;
  old_run = old;
  new_run = run_beside found chunks old;
  link = is_new_tier found;
}

-- a plan is that change, and has this slot
pub record PutsBeside (key value : List ℕ) (old : Option Run) (slot : ℕ) (found : Room) (chunks : ℕ) (plan : Plan) : Type 0 where
  pub change_is : plan_change plan ≡ put_beside key value old found chunks
  pub slot_is : plan.old_slot ≡ slot
  pub somewhere : is_nowhere found ≡ false

-- what is planned for a room: that change, which links a tier or not; nothing where the room is nowhere
abbrev pub PlansBeside : List ℕ → List ℕ → Option Run → ℕ → Room → ℕ → Planned → Type 0
PlansBeside key value old slot found chunks (Ready plan) = PutsBeside key value old slot found chunks plan × (is_new_tier found ≡ false)
PlansBeside key value old slot found chunks (NeedsTier plan) = PutsBeside key value old slot found chunks plan × (is_new_tier found ≡ true)
PlansBeside key value old slot found chunks FullChain = found ≡ room.Nowhere
