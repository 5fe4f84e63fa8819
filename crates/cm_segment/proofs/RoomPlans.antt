-- What is planned in a room is the change of each state that has this room.
use Rattle.std.proofs.Common.{◌≡◌, ◌∙◌, ℕ, ◌+◌, ◌<◌, ◌≤◌, Bool, true, false, List, length, Option, Some, None, IfSome, refl, sym, ap, subst, arith}
use Rattle.std.specs.Option.{option_map}
use Rattle.cm_geo.specs.declared.geo.Geo.{Geo}
use Rattle.cm_geo.specs.Need.{Fits, need}
use Rattle.cm_geo.proofs.Ranges.{chunks_range}
use Rattle.cm_plain.specs.declared.op.Op.{Op}
use Rattle.cm_plain.specs.declared.op.Op.TheVariants.{Put}
use Rattle.cm_plain.specs.declared.placed.Placed.{Placed}
use Rattle.cm_plain.specs.declared.plan.Plan.{Plan}
use Rattle.cm_plain.specs.declared.plan.Run.{Run}
use Rattle.cm_plain.specs.declared.room.Room.{Room}
use Rattle.cm_plain.specs.declared.room.Room.TheVariants.{InPlace, Elsewhere, NewTier, Nowhere}
use Rattle.cm_plain.specs.States.{State, entry_of}
use Rattle.cm_plain.specs.Rooms.{is_new_tier, is_nowhere, room_for, spot_in}
use Rattle.cm_plain.specs.Changes.{Change, change_of, kind_in, placing_change, run_at, run_of}
use Rattle.cm_plain.specs.Plans.{op_of_ask, plan_change}
use Rattle.cm_segment.specs.declared.planning.Old.{Old}
use Rattle.cm_segment.specs.declared.planning.Planned.{Planned}
use Rattle.cm_segment.specs.declared.planning.Planned.TheVariants.{Ready, NeedsTier, FullChain}
use Rattle.cm_segment.specs.PlanNumbers.{IsNewIn, IsPlanIn}
use Rattle.cm_segment.specs.Planning.{IsPutOf, PlansPut}
use Rattle.cm_segment.specs.OldEntries.{FindsOld, IsOldIn, run_of_old, slot_of_old}
use Rattle.cm_segment.specs.RoomPlans.{IsRoomBeside, IsRoomFor, IsRoomIn, PlansBeside, PutsBeside, kind_beside, put_beside, run_beside}
use Rattle.cm_segment.proofs.OldEntries.{entry_there, points_old, run_is_old}

-- ---- a room in the geometry

pub beside_in : (geo : Geo) (old : Option Run) (chunks : ℕ) (room : Room) → IsRoomIn geo old chunks room → IsRoomBeside old room
beside_in geo None chunks InPlace h = h
beside_in geo None chunks (Elsewhere spot) h = tt
beside_in geo None chunks (NewTier place) h = tt
beside_in geo None chunks Nowhere h = tt
beside_in geo (Some old) chunks InPlace h = tt
beside_in geo (Some old) chunks (Elsewhere spot) h = tt
beside_in geo (Some old) chunks (NewTier place) h = tt
beside_in geo (Some old) chunks Nowhere h = tt

-- the numbers of the change that puts a value there
module _ (geo : Geo) (key value : List ℕ) (fits : Fits geo (length key) (length value)) (nonzero : 1 ≤ need geo (length key) (length value)) where
  new_in : (old : Option Run) (room : Room) (place chunk : ℕ) → place < geo.tiers → chunk + need geo (length key) (length value) ≤ geo.chunks
      → IsNewIn geo (put_beside key value old room (need geo (length key) (length value)))
      (record { place = place; chunk = chunk; chunks = need geo (length key) (length value) })
  new_in old room place chunk low inside = record {
    run_in = record { place_inside = low; nonzero = nonzero; within_limit = fits.run_short; inside = inside };
    fits = fits;
    size = refl;
  }

  change_in : (old : Option Old) (room : Room) → IfSome old (IsOldIn geo key) → IsRoomIn geo (run_of_old old) (need geo (length key) (length value)) room
      → is_nowhere room ≡ false
      → IsPlanIn geo (put_beside key value (run_of_old old) room (need geo (length key) (length value))) (slot_of_old old)
  change_in None InPlace old_in room_in there = absurd room_in
  change_in None (Elsewhere spot) old_in room_in there = record {
    slot_low = omega (arith, chunks_range geo);
    old = tt;
    new = new_in None (Elsewhere spot) spot.place spot.chunk room_in.0 room_in.1;
    runs = tt;
  }
  change_in None (NewTier place) old_in room_in there = record {
    slot_low = omega (arith, chunks_range geo);
    old = tt;
    new = new_in None (NewTier place) place 0 room_in (omega (arith, fits.run_short, chunks_range geo));
    runs = tt;
  }
  change_in None Nowhere old_in room_in there = cc there
  change_in (Some old) InPlace old_in room_in there = record {
    slot_low = old_in.slot_low;
    old = old_in.run_in;
    new = new_in (Some old.run) InPlace old.run.place old.run.chunk old_in.run_in.place_inside room_in;
    runs = (refl, refl);
  }
  change_in (Some old) (Elsewhere spot) old_in room_in there = record {
    slot_low = old_in.slot_low;
    old = old_in.run_in;
    new = new_in (Some old.run) (Elsewhere spot) spot.place spot.chunk room_in.0 room_in.1;
    runs = tt;
  }
  change_in (Some old) (NewTier place) old_in room_in there = record {
    slot_low = old_in.slot_low;
    old = old_in.run_in;
    new = new_in (Some old.run) (NewTier place) place 0 room_in (omega (arith, fits.run_short, chunks_range geo));
    runs = tt;
  }
  change_in (Some old) Nowhere old_in room_in there = cc there

-- so the numbers of a plan of that change lie in the geometry
pub plan_in : (geo : Geo) (key value : List ℕ) (old : Option Old) (room : Room) (plan : Plan) → Fits geo (length key) (length value)
    → 1 ≤ need geo (length key) (length value) → IfSome old (IsOldIn geo key)
    → IsRoomIn geo (run_of_old old) (need geo (length key) (length value)) room
    → PutsBeside key value (run_of_old old) (slot_of_old old) room (need geo (length key) (length value)) plan
    → IsPlanIn geo (plan_change plan) plan.old_slot
plan_in geo key value old room plan fits nonzero old_in room_in puts =
    subst (λ (c : Change). IsPlanIn geo c plan.old_slot) (sym puts.change_is)
    (subst (IsPlanIn geo (put_beside key value (run_of_old old) room (need geo (length key) (length value)))) (sym puts.slot_is)
    (change_in geo key value fits nonzero old room old_in room_in puts.somewhere))

-- ---- the change of a state

kind_same : (geo : Geo) (room : Room) (old : Option Placed) → kind_beside room (option_map (run_of geo) old) ≡ kind_in room old
kind_same geo room None = refl
kind_same geo InPlace (Some old) = refl
kind_same geo (Elsewhere spot) (Some old) = refl
kind_same geo (NewTier place) (Some old) = refl
kind_same geo Nowhere (Some old) = refl

run_same : (geo : Geo) (room : Room) (old : Option Placed) (chunks : ℕ) → run_beside room chunks (option_map (run_of geo) old) ≡ option_map (run_at chunks)
    (spot_in room old)
run_same geo InPlace None chunks = refl
run_same geo InPlace (Some old) chunks = refl
run_same geo (Elsewhere spot) old chunks = refl
run_same geo (NewTier place) old chunks = refl
run_same geo Nowhere old chunks = refl

change_same : (geo : Geo) (key value : List ℕ) (old : Option Placed) (room : Room) (chunks : ℕ)
    → put_beside key value (option_map (run_of geo) old) room chunks ≡ placing_change geo (Put key value) key value old room chunks
change_same geo key value old room chunks = rw (kind_same geo room old, run_same geo room old chunks) refl

room_is_for : (geo : Geo) (words : List ℕ) (state : State) (key : List ℕ) (old : Option Old) (room : Room) (chunks : ℕ) → FindsOld geo words state key old
    → IsRoomFor geo state old chunks room → room ≡ room_for geo state key chunks
room_is_for geo words state key old room chunks finds is =
    is (entry_of key state) (run_is_old geo words state key old finds) (entry_there geo words state key old finds)

put_of : (geo : Geo) (words : List ℕ) (state : State) (key value : List ℕ) (old : Option Old) (room : Room) (link : Bool) (plan : Plan)
    → FindsOld geo words state key old → IsRoomFor geo state old (need geo (length key) (length value)) room
    → PutsBeside key value (run_of_old old) (slot_of_old old) room (need geo (length key) (length value)) plan → is_new_tier room ≡ link
    → IsPutOf geo words state key value link plan
put_of geo words state key value old room link plan finds is puts links =
    let room_is = room_is_for geo words state key old room (need geo (length key) (length value)) finds is in
    let op_is : op_of_ask plan.ask ≡ Put key value = ap (λ (c : Change). c.op) puts.change_is in
    record {
      plan_of = record {
        change_is =
            puts.change_is ∙ (ap (λ (r : Option Run). put_beside key value r room (need geo (length key) (length value)))
            (sym (run_is_old geo words state key old finds))
            ∙ (change_same geo key value (entry_of key state) room (need geo (length key) (length value))
            ∙ (ap (λ (r : Room). placing_change geo (Put key value) key value (entry_of key state) r (need geo (length key) (length value))) room_is
            ∙ ap (λ (op : Op). change_of geo state op key (Some value)) (sym op_is))));
        points = points_old geo words state key old plan.old plan.old_slot finds (ap (λ (c : Change). c.old_run) puts.change_is) puts.slot_is;
      };
      room = subst (λ (r : Room). is_nowhere r ≡ false) room_is puts.somewhere;
      link_is = ap (λ (c : Change). c.link) puts.change_is ∙ links;
    }

pub plans_are : (geo : Geo) (words : List ℕ) (state : State) (key value : List ℕ) (old : Option Old) (room : Room) (planned : Planned)
    → FindsOld geo words state key old → IsRoomFor geo state old (need geo (length key) (length value)) room
    → PlansBeside key value (run_of_old old) (slot_of_old old) room (need geo (length key) (length value)) planned → PlansPut geo words state key value planned
plans_are geo words state key value old room (Ready plan) finds is puts = put_of geo words state key value old room false plan finds is puts.0 puts.1
plans_are geo words state key value old room (NeedsTier plan) finds is puts = put_of geo words state key value old room true plan finds is puts.0 puts.1
plans_are geo words state key value old room FullChain finds is nowhere =
    sym (room_is_for geo words state key old room (need geo (length key) (length value)) finds is) ∙ nowhere
