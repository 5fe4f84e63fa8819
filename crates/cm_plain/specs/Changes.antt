-- The plan of a change, and the state after it (own).
use Rattle.std.specs.Prelude.{ℕ, not, Bool, true, false, List, [], ◌∷◌, ◌++◌, length, filter, nat_lt, Option, Some, None}
use Rattle.std.specs.Option.{option_map}
use Rattle.std.specs.Str.{bytes_eq}
use Rattle.cm_geo.specs.declared.geo.Geo.{Geo}
use Rattle.cm_geo.specs.Need.{need}
use Rattle.cm_plain.specs.declared.op.Op.{Op}
use Rattle.cm_plain.specs.declared.op.Op.TheVariants.{Put, PutIfAbsent, Replace, ReplaceIf}
use Rattle.cm_plain.specs.declared.plan.Run.{Run}
use Rattle.cm_plain.specs.declared.plan.PlanKind.{PlanKind}
use Rattle.cm_plain.specs.declared.plan.PlanKind.TheVariants as kind
use Rattle.cm_plain.specs.declared.placed.Placed.{Placed}
use Rattle.cm_plain.specs.States.{State}
use Rattle.cm_plain.specs.States.{chunks_of, entry_of, run_start}
use Rattle.cm_plain.specs.declared.room.Room.{Room}
use Rattle.cm_plain.specs.declared.room.Room.TheVariants.{InPlace}
use Rattle.cm_plain.specs.declared.room.Spot.{Spot}
use Rattle.cm_plain.specs.Rooms.{is_new_tier, room_for, spot_in}

-- a change of one key: the operation that makes it, the key, the new value (none: no bytes), the run that the key's entry leaves, the run
-- that its new entry takes, and whether the new run's tier is linked by it
pub record Change : Type 0 where
  pub op : Op
  pub kind : PlanKind
  pub key : List ℕ
  pub value : List ℕ
  pub old_run : Option Run
  pub new_run : Option Run
  pub link : Bool

-- the value that an operation places where it changes something; the others remove an entry
abbrev pub placed_value : Op → Option (List ℕ)
placed_value (Put key value) = Some value
placed_value (PutIfAbsent key value) = Some value
placed_value (Replace key value) = Some value
placed_value (ReplaceIf key expected value) = Some value
placed_value _ = None

-- the run of an entry
abbrev pub run_of : Geo → Placed → Run
run_of geo entry = record { place = entry.place; chunk = entry.chunk; chunks = chunks_of geo entry }

-- so many chunks from a chunk on
abbrev pub run_at : ℕ → Spot → Run
run_at chunks spot = record { place = spot.place; chunk = spot.chunk; chunks = chunks }

-- how a room places an entry, beside the key's old one
abbrev pub kind_in : Room → Option Placed → PlanKind
kind_in room None = kind.Fresh
kind_in InPlace (Some old) = kind.InPlace
kind_in room (Some old) = kind.Relocate

-- the change that places a value for a key
abbrev pub placing_change : Geo → Op → List ℕ → List ℕ → Option Placed → Room → ℕ → Change
placing_change geo op key value old room chunks = record {
  op = op;
  kind = kind_in room old;
  key = key;
  value = value;
  old_run = option_map (run_of geo) old;
  new_run = option_map (run_at chunks) (spot_in room old);
  link = is_new_tier room;
}

-- the change that removes a key's entry
abbrev pub removing_change : Geo → Op → List ℕ → Option Placed → Change
removing_change geo op key old = record {
  op = op;
  kind = kind.Remove;
  key = key;
  value = [];
  old_run = option_map (run_of geo) old;
  new_run = None;
  link = false;
}

-- the change of a key that places this value, or none
abbrev pub change_of : Geo → State → Op → List ℕ → Option (List ℕ) → Change
change_of geo state op key None = removing_change geo op key (entry_of key state)
change_of geo state op key (Some value) =
    let chunks = need geo (length key) (length value) in placing_change geo op key value (entry_of key state) (room_for geo state key chunks) chunks

-- the change that an operation plans for a key in a state
abbrev pub planned_change : Geo → State → Op → List ℕ → Change
planned_change geo state op key = change_of geo state op key (placed_value op)

-- the entries without a key's
abbrev pub without : List ℕ → List Placed → List Placed
without key entries = filter (λ entry. not (bytes_eq entry.key key)) entries

-- a set of entries with one more: those that stand before it, it, and those that stand behind it
abbrev pub with_entry : Geo → Placed → List Placed → List Placed
with_entry geo entry entries =
    filter (λ other. nat_lt (run_start geo other) (run_start geo entry)) entries
    ++ entry ∷ filter (λ other. nat_lt (run_start geo entry) (run_start geo other)) entries

-- an entry at a chunk
abbrev pub entry_at : List ℕ → List ℕ → ℕ → ℕ → Placed
entry_at key value place chunk = record { place = place; chunk = chunk; key = key; value = value }

-- the entry that a change places in a run
abbrev pub new_entry : Change → Run → Placed
new_entry change run = entry_at change.key change.value run.place run.chunk

-- the entries after a change, from those of other keys
abbrev pub entries_after : Geo → Change → Option Run → List Placed → List Placed
entries_after geo change None others = others
entries_after geo change (Some run) others = with_entry geo (new_entry change run) others

-- the chain after a change
abbrev pub chain_after : Bool → Option Run → List ℕ → List ℕ
chain_after true (Some run) chain = chain ++ run.place ∷ []
chain_after link run chain = chain

-- the state after a change: the key's entry is gone, its new one stands at the new run, and a linked tier is the last of the chain
abbrev pub after : Geo → Change → State → State
after geo change state = record {
  chain = chain_after change.link change.new_run state.chain;
  entries = entries_after geo change change.new_run (without change.key state.entries);
}
